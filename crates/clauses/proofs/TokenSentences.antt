-- What an item is among clauses, in document 02's words.
use Prim.Native.Nat.{ℕ, zero, suc}
use native.Mathlib.Omega.{arith}
use mathlib.Core.Path.{◌≡◌, refl, sym, ap, ap₂, subst, ◌∙◌}
use mathlib.Core.Logic.{◌⊎◌, inl, inr, ◌↔◌}
use mathlib.Core.List.{List, [], ◌∷◌}
use mathlib.Core.Bool.{Bool, true, false, cond}
use lib.Dec.{T, eqb, eqb→eq}
use lib.ListN.{length}
use Rattle.kinds.specs.Words.{bytes, byte, digits}
use Rattle.rules.specs.Lists.{every}
use Rattle.rules.proofs.Booleans.{T-and-l, is_true_lem, is_false}
use Rattle.names.specs.Numerals.{is_digit, is_numeral, value, DecimalWriting}
use Rattle.names.proofs.Numerals.{numeral_iff}
use Rattle.clauses.specs.Literals.{Literal, positive, negative}
use Rattle.clauses.specs.Tokens.{Token, literal, ends, wrong, valued, numbered, token_of}
use Rattle.clauses.specs.Sentences.{RightItem, IsToken}

-- a number that is not 0, with its sign
written : (none : Token) (sign : ℕ → Literal) (x : List ℕ) (a : ℕ) → DecimalWriting x → value x ≡ suc a → numbered none sign x ≡ literal (sign a)
written none sign x a d e = ap₂ (λ (c : Bool) (v : ℕ). cond c (valued none sign v) wrong) (is_true_lem (is_numeral x) ((numeral_iff x).1 d)) e

-- the only number that says 0
zero_written : (b : ℕ) (s : List ℕ) → DecimalWriting (b ∷ s) → value (b ∷ s) ≡ 0 → b ∷ s ≡ bytes "0"
unfolding digits
zero_written b s d e = d.1 ∙ ap (digits (suc (length s))) e

no_minus : (b : ℕ) (s : List ℕ) → DecimalWriting (b ∷ s) → eqb b (byte "-") ≡ false
no_minus b s d = is_false (eqb b (byte "-")) (λ t. not_digit (eqb→eq b (byte "-") t) (T-and-l (is_digit b) (every is_digit s) (T-and-l (every is_digit (b ∷ s)) _ ((numeral_iff (b ∷ s)).1 d))))
  where
    not_digit : b ≡ byte "-" → T (is_digit b) → ⊥
    not_digit e t = subst (λ (c : ℕ). T (is_digit c)) e t

right_token : (x : List ℕ) (t : Token) → RightItem x t → token_of x ≡ t
unfolding token_of value
right_token [] (literal (positive a)) h = absurd (h.0.0 refl)
right_token (b ∷ s) (literal (positive a)) h =
    ap (λ (c : Bool). cond c (numbered wrong negative s) (numbered ends positive (b ∷ s))) (no_minus b s h.0) ∙ written ends positive (b ∷ s) a h.0 h.1
right_token x (literal (negative a)) h = ap token_of h.1 ∙ written wrong negative h.0 a h.2 h.3
right_token x ends h = ap token_of h
right_token x wrong h = absurd h

-- every other item is wrong
abbrev Told : List ℕ → Token → Type 0
Told x t = (t ≡ wrong) ⊎ RightItem x t

told : (x : List ℕ) → Told x (token_of x)
unfolding token_of
told [] = inl refl
told (b ∷ s) = go (eqb b (byte "-")) (eqb→eq b (byte "-"))
  where
    signed : b ≡ byte "-" → (c : Bool) → (T c → DecimalWriting s) → (v : ℕ) → value s ≡ v → Told (b ∷ s) (cond c (valued wrong negative v) wrong)
    signed e true d zero q = inl refl
    signed e true d (suc a) q = inr (s, ap (λ (c : ℕ). c ∷ s) e, d tt, q)
    signed e false d v q = inl refl

    unsigned : (c : Bool) → (T c → DecimalWriting (b ∷ s)) → (v : ℕ) → value (b ∷ s) ≡ v → Told (b ∷ s) (cond c (valued ends positive v) wrong)
    unsigned true d zero q = inr (zero_written b s (d tt) q)
    unsigned true d (suc a) q = inr (d tt, q)
    unsigned false d v q = inl refl

    go : (c : Bool) → (T c → b ≡ byte "-") → Told (b ∷ s) (cond c (numbered wrong negative s) (numbered ends positive (b ∷ s)))
    go true e = signed (e tt) (is_numeral s) (numeral_iff s).0 (value s) refl
    go false e = unsigned (is_numeral (b ∷ s)) (numeral_iff (b ∷ s)).0 (value (b ∷ s)) refl

right_of : (x : List ℕ) (t : Token) → (wrong ≡ t → ⊥) → token_of x ≡ t → RightItem x t
right_of x t other e = go (told x)
  where
    go : Told x (token_of x) → RightItem x t
    go (inl q) = absurd (other (sym q ∙ e))
    go (inr h) = subst (RightItem x) e h

pub token_is : (x : List ℕ) (t : Token) → token_of x ≡ t ↔ IsToken x t
token_is x (literal l) = (right_of x (literal l) (λ e. let z : ◌≡◌ {A = ℕ} 0 1 = cc in omega arith), right_token x (literal l))
token_is x ends = (right_of x ends (λ e. let z : ◌≡◌ {A = ℕ} 0 1 = cc in omega arith), right_token x ends)
token_is x wrong = (λ e t h. subst (RightItem x) (sym (right_token x t h) ∙ e) h, λ n. back n (told x))
  where
    back : ((t : Token) → RightItem x t → ⊥) → Told x (token_of x) → token_of x ≡ wrong
    back n (inl q) = q
    back n (inr h) = absurd (n (token_of x) h)
