-- Each test of a line of a clause file says its sentence of document 02.
use Prim.Native.Nat.{ℕ}
use native.Mathlib.Omega.{arith}
use mathlib.Core.Path.{◌≡◌, refl, ap}
use mathlib.Core.Logic.{◌↔◌}
use mathlib.Core.List.{List, [], ◌∷◌}
use mathlib.Core.Bool.{not}
use lib.Dec.{T, eqb→eq, leb→le, le→leb}
use lib.ListN.{length, length-append}
use Rattle.kinds.specs.Words.{byte, line_end_lem}
use Rattle.rules.specs.Lists.{Any, some, is_empty}
use Rattle.rules.proofs.Booleans.{eq_to_eqb}
use Rattle.rules.proofs.Connectives.{not_law, and_law}
use Rattle.rules.proofs.Lists.{some_any}
use Rattle.clauses.specs.Items.{items, is_comment}
use Rattle.lines.specs.Lines.{is_ended}
use Rattle.clauses.specs.Literals.{atom_of}
use Rattle.clauses.specs.Tokens.{Token, literal, ends, wrong, is_wrong, is_beyond}
use Rattle.clauses.specs.ClausesSaid.{is_filled}
use Rattle.clauses.specs.Sentences.{Ended, Comment, Filled, BeyondAtoms}

-- a line's end, its first byte and its items

ended_one : (b : ℕ) → Ended (b ∷ []) → b ≡ line_end_lem
ended_one b ([], e) = cc
ended_one b (c ∷ s, e) = absurd (omega (arith, ap length e, length-append s (line_end_lem ∷ [])))

ended_more : (b c : ℕ) (s : List ℕ) → Ended (b ∷ c ∷ s) → Ended (c ∷ s)
ended_more b c s ([], e) = absurd (omega (arith, ap length e))
ended_more b c s (d ∷ t, e) = (t, cc)

pub ended_iff : (l : List ℕ) → T (is_ended l) ↔ Ended l
ended_iff [] = (λ t. absurd t, λ h. omega (arith, ap length h.1, length-append h.0 (line_end_lem ∷ [])))
ended_iff (b ∷ []) = (λ t. ([], ap (λ (c : ℕ). c ∷ []) (eqb→eq b line_end_lem t)), λ h. eq_to_eqb b line_end_lem (ended_one b h))
ended_iff (b ∷ c ∷ s) = let r = ended_iff (c ∷ s) in (λ t. let h = r.0 t in (b ∷ h.0, ap (λ (m : List ℕ). b ∷ m) h.1), λ h. r.1 (ended_more b c s h))

pub comment_iff : (l : List ℕ) → T (is_comment l) ↔ Comment l
comment_iff [] = (λ t. absurd t, λ h. omega (arith, ap length h.1))
comment_iff (b ∷ s) = (λ t. (s, ap (λ (c : ℕ). c ∷ s) (eqb→eq b (byte "c") t)), λ h. eq_to_eqb b (byte "c") (let e = h.1 in cc))

pub empty_iff : {A : Type 0} (xs : List A) → T (is_empty xs) ↔ (xs ≡ [])
empty_iff [] = (λ t. refl, λ e. tt)
empty_iff (x ∷ xs) = (λ t. absurd t, λ e. omega (arith, ap length e))

pub filled_iff : (l : List ℕ) → T (is_filled l) ↔ Filled l
filled_iff l = and_law (not (is_comment l)) (not (is_empty (items l))) (not_law (is_comment l) (comment_iff l)) (not_law (is_empty (items l)) (empty_iff (items l)))

-- tokens

pub wrong_iff : (ts : List Token) → T (some is_wrong ts) ↔ Any (λ t. t ≡ wrong) ts
wrong_iff = some_any is_wrong (λ t. t ≡ wrong) one
  where
    one : (t : Token) → T (is_wrong t) ↔ (t ≡ wrong)
    one (literal l) = (λ t. absurd t, λ e. let z : ◌≡◌ {A = ℕ} 0 1 = cc in omega arith)
    one ends = (λ t. absurd t, λ e. let z : ◌≡◌ {A = ℕ} 0 1 = cc in omega arith)
    one wrong = (λ t. refl, λ e. tt)

pub beyond_iff : (n : ℕ) (ts : List Token) → T (some (is_beyond n) ts) ↔ Any (BeyondAtoms n) ts
beyond_iff n = some_any (is_beyond n) (BeyondAtoms n) one
  where
    one : (t : Token) → T (is_beyond n t) ↔ BeyondAtoms n t
    one (literal l) = (leb→le n (atom_of l), le→leb n (atom_of l))
    one ends = (λ t. t, λ h. h)
    one wrong = (λ t. t, λ h. h)
