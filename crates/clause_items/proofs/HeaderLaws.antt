-- The header by its items: two words, two numbers, and nothing more.
use Prim.Native.Nat.{ℕ, ◌+◌, ◌<◌, ◌≤◌}
use native.Mathlib.Omega.{arith}
use native.Mathlib.Decide.{dec_lt}
use mathlib.Core.Path.{◌≡◌, refl, sym, ap, ap₂, ◌∙◌}
use mathlib.Core.List.{List, [], ◌∷◌}
use mathlib.Core.Bool.{true, or-true}
use lib.ListN.{length, drop}
use borrow.Author.Tests.{lt-ltb}
use Rattle.kinds.specs.Words.{bytes}
use Rattle.kinds.specs.declared.refusals.Refusal.TheVariants.{BrokenClauses}
use Rattle.name_store.specs.NameStore.{same_bytes}
use Rattle.names.specs.Numerals.{is_numeral, value}
use Rattle.clauses.specs.Items.{items}
use Rattle.clauses.specs.Faults.{Step, fault, header_with, header_line}
use Rattle.clause_items.specs.Found.{capped, gap, front, number_at, numbers_step}
use Rattle.clause_items.specs.declared.numbers.Number.{Number}
use Rattle.std.specs.Prelude.{Option, Some, None, Result, Err}
use Rattle.std.specs.Option.{ok_or}
use Rattle.kinds.specs.declared.refusals.Refusal.{Refusal}
use Rattle.clause_items.specs.declared.header.Header.{Header}
use Rattle.clause_items.proofs.CappedLaws.{capped_small, capped_over}
use Rattle.clause_items.proofs.FoundNumbers.{number_is, number_not}
use Rattle.clause_items.proofs.FirstItems.{Fails, First, items_none, first_is, first_fails, first_number}

pub no_p : (xs : List (List ℕ)) → Fails (λ x. same_bytes x (bytes "p")) xs → header_line xs ≡ fault BrokenClauses
unfolding header_line
no_p [] f = refl
no_p (p ∷ []) f = refl
no_p (p ∷ c ∷ []) f = refl
no_p (p ∷ c ∷ n ∷ []) f = refl
no_p (p ∷ c ∷ n ∷ m ∷ []) f = simp f
no_p (p ∷ c ∷ n ∷ m ∷ x ∷ xs) f = refl

pub no_cnf : (xs : List (List ℕ)) → Fails (λ x. same_bytes x (bytes "cnf")) xs → header_line (bytes "p" ∷ xs) ≡ fault BrokenClauses
unfolding header_line same_bytes
no_cnf [] f = refl
no_cnf (c ∷ []) f = refl
no_cnf (c ∷ n ∷ []) f = refl
no_cnf (c ∷ n ∷ m ∷ []) f = simp f
no_cnf (c ∷ n ∷ m ∷ x ∷ xs) f = refl

abbrev numbers_line : List (List ℕ) → Step
numbers_line xs = header_line (bytes "p" ∷ bytes "cnf" ∷ xs)

-- behind the two words
pub words_line : {line : List ℕ} {to end : ℕ} → First line 0 (bytes "p") to → First line to (bytes "cnf") end → header_line (items line) ≡ numbers_line (items (drop end line))
words_line p c = ap header_line (p.items_are ∙ ap (λ (xs : List (List ℕ)). bytes "p" ∷ xs) c.items_are)

-- a broken header's refusal
pub no_header : (n : Option Header) {r : Refusal} → ◌≡◌ {A = Result Header Refusal} (Err r) (ok_or n BrokenClauses) → numbers_step n ≡ fault r
no_header (Some h) e = cc
no_header None e = cc

pub no_atoms : (xs : List (List ℕ)) → Fails is_numeral xs → numbers_line xs ≡ fault BrokenClauses
unfolding header_line same_bytes
no_atoms [] f = refl
no_atoms (n ∷ []) f = refl
no_atoms (n ∷ m ∷ []) f = simp f
no_atoms (n ∷ m ∷ x ∷ xs) f = refl

no_clauses : (n : List ℕ) (xs : List (List ℕ)) → is_numeral n ≡ true → Fails is_numeral xs → numbers_line (n ∷ xs) ≡ fault BrokenClauses
unfolding header_line same_bytes
no_clauses n [] e f = refl
no_clauses n (m ∷ []) e f = simp (e, f)
no_clauses n (m ∷ x ∷ xs) e f = refl

two_numbers : (n m : List ℕ) → is_numeral n ≡ true → is_numeral m ≡ true → numbers_line (n ∷ m ∷ []) ≡ header_with (value n) (value m)
unfolding header_line same_bytes
two_numbers n m e f = simp (e, f)

too_many_lem : (n m x : List ℕ) (xs : List (List ℕ)) → numbers_line (n ∷ m ∷ x ∷ xs) ≡ fault BrokenClauses
unfolding header_line
too_many_lem n m x xs = refl

-- the limits do not see what is cut off
capped_atoms : (v w : ℕ) → header_with (capped v) w ≡ header_with v w
capped_atoms v w = go (dec_lt 256 v)
  where
    go : Dec (256 < v) → header_with (capped v) w ≡ header_with v w
    go (yes l) = simp (lt-ltb 256 v l, lt-ltb 256 (capped v) ((capped_over v 256 (omega arith)).1 l))
    go (no l) = ap (λ (n : ℕ). header_with n w) (capped_small v (omega arith))

capped_clauses : (v w : ℕ) → header_with v (capped w) ≡ header_with v w
capped_clauses v w = go (dec_lt 1024 w)
  where
    go : Dec (1024 < w) → header_with v (capped w) ≡ header_with v w
    go (yes l) = simp (lt-ltb 1024 w l, lt-ltb 1024 (capped w) ((capped_over w 1024 (omega arith)).1 l), or-true)
    go (no l) = ap (header_with v) (capped_small w (omega arith))

-- the number n stands first, and says v
pub record Numbered (line : List ℕ) (at v to : ℕ) : Type 0 where
  pub n : List ℕ
  pub numeral : is_numeral n ≡ true
  pub says : v ≡ capped (value n)
  pub first : First line at n to

module _ (line : List ℕ) (at : ℕ) {from : ℕ} (q : from ≡ at + gap (drop at line)) {r : Option Number} (e : r ≡ number_at from (drop from line)) where
  pub numbered : {n : Number} → r ≡ Some n → Numbered line at n.value n.to
  numbered t = let k = number_is (drop from line) from e t in record { n = front (drop from line); numeral = k.numeral; says = k.says; first = first_number line at q k }

  pub unnumbered : r ≡ None → Fails is_numeral (items (drop at line))
  unnumbered t = first_fails line at q is_numeral (number_not (drop from line) from e t)

module _ {line : List ℕ} {at v to : ℕ} (a : Numbered line at v to) where
  pub lacks_clauses : Fails is_numeral (items (drop to line)) → numbers_line (items (drop at line)) ≡ fault BrokenClauses
  lacks_clauses f = ap numbers_line a.first.items_are ∙ no_clauses a.n (items (drop to line)) a.numeral f

  module _ {w end : ℕ} (b : Numbered line to w end) {from : ℕ} (q : from ≡ end + gap (drop end line)) where
    items_are : items (drop at line) ≡ a.n ∷ b.n ∷ items (drop end line)
    items_are = a.first.items_are ∙ ap (λ (xs : List (List ℕ)). a.n ∷ xs) b.first.items_are

    pub has_more : from < length line → numbers_line (items (drop at line)) ≡ fault BrokenClauses
    has_more l = ap numbers_line (items_are ∙ ap (λ (xs : List (List ℕ)). a.n ∷ b.n ∷ xs) (first_is line end q l).items_are) ∙ too_many_lem _ _ _ _

    pub has_two : length line ≤ from → numbers_line (items (drop at line)) ≡ header_with v w
    has_two l =
        ap numbers_line (items_are ∙ ap (λ (xs : List (List ℕ)). a.n ∷ b.n ∷ xs) (items_none line end q l))
        ∙ two_numbers a.n b.n a.numeral b.numeral
        ∙ sym (ap₂ header_with a.says b.says ∙ capped_atoms (value a.n) (capped (value b.n)) ∙ capped_clauses (value a.n) (value b.n))
