-- Brackets pair as the documents' words say.
use Prim.Native.Nat.{ℕ, zero, suc}
use mathlib.Core.Path.{◌≡◌, refl, sym, ap, ◌∙◌, subst}
use mathlib.Core.Logic.{◌↔◌}
use mathlib.Core.List.{List, [], ◌∷◌, ◌++◌, append_assoc, append-nil}
use lib.Dec.{T}
use Rattle.lines.specs.Tokens.{Token, opening, closing, word}
use Rattle.lines.specs.Conditions.{pairs}
use Rattle.faults.specs.LineForms.{Paired, nothing, a_word, in_brackets}

-- so many brackets are open: what pairs, a closing bracket, and so on
abbrev PairedAt : ℕ → List Token → Type 0
PairedAt zero ts = Paired ts
PairedAt (suc d) ts = (us : List Token) × (vs : List Token) × (ts ≡ us ++ (closing ∷ vs)) × Paired us × PairedAt d vs

more_word : (x : List ℕ) (d : ℕ) (ts : List Token) → PairedAt d ts → PairedAt d (word x ∷ ts)
more_word x zero ts h = a_word h
more_word x (suc d) ts (us, vs, e, p, h) = (word x ∷ us, vs, ap (λ l. word x ∷ l) e, a_word p, h)

more_brackets : (d : ℕ) (ts : List Token) → PairedAt (suc d) ts → PairedAt d (opening ∷ ts)
more_brackets zero ts (us, vs, e, p, h) = subst (λ l. Paired (opening ∷ l)) (sym e) (in_brackets p h)
more_brackets (suc d) ts (us, vs, e, p, (ys, zs, q, r, h)) =
    (opening ∷ (us ++ (closing ∷ ys)), zs, ap (λ l. opening ∷ l) (e ∙ ap (λ l. us ++ (closing ∷ l)) q ∙ sym (append_assoc us (closing ∷ ys) (closing ∷ zs))), in_brackets p r, h)

there : (d : ℕ) (ts : List Token) → T (pairs d ts) → PairedAt d ts
unfolding pairs
there zero [] t = nothing
there (suc d) [] t = absurd t
there d (opening ∷ ts) t = more_brackets d ts (there (suc d) ts t)
there zero (closing ∷ ts) t = absurd t
there (suc d) (closing ∷ ts) t = ([], ts, refl, nothing, there d ts t)
there d (word x ∷ ts) t = more_word x d ts (there d ts t)

passed : {us : List Token} → Paired us → (d : ℕ) (ts : List Token) → pairs d (us ++ ts) ≡ pairs d ts
unfolding pairs
passed nothing d ts = refl
passed (a_word p) d ts = passed p d ts
passed (in_brackets {us = us} {vs = vs} p q) d ts = ap (pairs (suc d)) (append_assoc us (closing ∷ vs) ts) ∙ passed p (suc d) (closing ∷ (vs ++ ts)) ∙ passed q d ts

pub pairs_law : (ts : List Token) → T (pairs 0 ts) ↔ Paired ts
unfolding pairs
pairs_law ts = (there 0 ts, λ p. subst T (sym (ap (pairs 0) (sym (append-nil ts)) ∙ passed p 0 [])) tt)
