-- The size of an index: a word for each atom, and at most one for each occurrence.
use Prim.Native.Nat.{ℕ, zero, suc, ◌+◌, ◌≤◌, ◌<◌}
use mathlib.Core.Path.{◌≡◌, refl, ap}
use mathlib.Core.Bool.{Bool, true, false, ◌||◌}
use mathlib.Core.List.{List, [], ◌∷◌, ◌++◌}
use native.Mathlib.Omega.{arith}
use native.Mathlib.Decide.{ℕ_discrete}
use lib.Dec.{eqb}
use lib.ListN.{length, length-append}
use borrow.Author.Tests.{ne_eqb}
use Rattle.rules.specs.Lists.{sum, from}
use Rattle.rules.specs.Rules.{Rule, occurrences}
use Rattle.rules.proofs.Lists.{length_from}
use Rattle.rules.proofs.MappedLists.{length_flat}
use Rattle.rules.proofs.Sets.{digit}
use Rattle.restriction.specs.Atoms.{is_member, atoms_of}
use Rattle.rule_index.specs.Index.{numbers_of, is_standing, rules_with, counted, index}
use Rattle.rule_index.proofs.RuleNumbers.{keep_length}

sum_add : (f g : ℕ → ℕ) (l : List ℕ) → sum (λ a. f a + g a) l ≡ sum f l + sum g l
sum_add f g [] = omega arith
sum_add f g (x ∷ l) = omega (arith, sum_add f g l)

sum_le : (f g : ℕ → ℕ) → ((a : ℕ) → f a ≤ g a) → (l : List ℕ) → sum f l ≤ sum g l
sum_le f g h [] = omega arith
sum_le f g h (x ∷ l) = omega (arith, h x, sum_le f g h l)

sum_zero : (l : List ℕ) → sum (λ (a : ℕ). 0) l ≡ 0
sum_zero [] = refl
sum_zero (x ∷ l) = omega (arith, sum_zero l)

sum_one : (l : List ℕ) → sum (λ (a : ℕ). 1) l ≡ length l
sum_one [] = refl
sum_one (x ∷ l) = omega (arith, sum_one l)

-- an atom is among following numbers at most once
none_past : (x s c : ℕ) → x < s → sum (λ a. digit (eqb a x)) (from s c) ≡ 0
none_past x s zero l = refl
none_past x s (suc c) l =
    let e : digit (eqb s x) ≡ 0 = ap digit (ne_eqb s x (λ q. omega arith)) in
    omega (arith, e, none_past x (suc s) c (omega arith))

digit_le_one : (b : Bool) → digit b ≤ 1
digit_le_one true = omega arith
digit_le_one false = omega arith

once : (x s c : ℕ) → sum (λ a. digit (eqb a x)) (from s c) ≤ 1
once x s zero = omega arith
once x s (suc c) = step (once x (suc s) c) (ℕ_discrete s x)
  where
    step : sum (λ a. digit (eqb a x)) (from (suc s) c) ≤ 1 → Dec (s ≡ x) → sum (λ a. digit (eqb a x)) (from s (suc c)) ≤ 1
    step h (yes e) = omega (arith, digit_le_one (eqb s x), none_past x (suc s) c (omega arith))
    step h (no e) = let z : digit (eqb s x) ≡ 0 = ap digit (ne_eqb s x e) in omega arith

digit_or : (a b : Bool) → digit (a || b) ≤ digit a + digit b
digit_or true b = omega arith
digit_or false b = omega arith

members_few : (xs : List ℕ) (s c : ℕ) → sum (λ a. digit (is_member xs a)) (from s c) ≤ length xs
members_few [] s c = omega (arith, sum_zero (from s c))
members_few (x ∷ xs) s c =
    let h : sum (λ a. digit (is_member (x ∷ xs) a)) (from s c) ≤ sum (λ a. digit (eqb a x) + digit (is_member xs a)) (from s c) = sum_le _ _ (λ a. digit_or (eqb a x) (is_member xs a)) (from s c) in
    omega (arith, h, sum_add (λ a. digit (eqb a x)) (λ a. digit (is_member xs a)) (from s c), once x s c, members_few xs s c)

atoms_length : (r : Rule ℕ) → length (atoms_of r) ≡ occurrences r
atoms_length r = omega (arith, length-append r.head (r.body ++ r.nots), length-append r.body r.nots)

listed_few : (n s : ℕ) (rs : List (Rule ℕ)) → sum (λ a. length (numbers_of (λ i r. is_standing a r) s rs)) (from 0 n) ≤ sum occurrences rs
listed_few n s [] = omega (arith, sum_zero (from 0 n))
listed_few n s (r ∷ rs) =
    let h : sum (λ a. length (numbers_of (λ i r. is_standing a r) s (r ∷ rs))) (from 0 n) ≤ sum (λ a. digit (is_standing a r) + length (numbers_of (λ i r. is_standing a r) (suc s) rs)) (from 0 n) =
    sum_le _ _ (λ a. omega (arith, keep_length (is_standing a r) s (numbers_of (λ i r. is_standing a r) (suc s) rs))) (from 0 n) in
    omega (arith, h, sum_add (λ a. digit (is_standing a r)) (λ a. length (numbers_of (λ i r. is_standing a r) (suc s) rs)) (from 0 n), members_few (atoms_of r) 0 n, atoms_length r, listed_few n (suc s) rs)

pub index_few : (n : ℕ) (rs : List (Rule ℕ)) → length (index n rs) ≤ n + sum occurrences rs
unfolding index rules_with
index_few n rs =
    let h : sum (λ a. length (counted (rules_with a rs))) (from 0 n) ≤ sum (λ a. 1 + length (numbers_of (λ i r. is_standing a r) 0 rs)) (from 0 n) = sum_le _ _ (λ a. omega arith) (from 0 n) in
    omega (arith, h, length_flat (λ a. counted (rules_with a rs)) (from 0 n), sum_add (λ a. 1) (λ a. length (numbers_of (λ i r. is_standing a r) 0 rs)) (from 0 n), sum_one (from 0 n), length_from 0 n, listed_few n 0 rs)
