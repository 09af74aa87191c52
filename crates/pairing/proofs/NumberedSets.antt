-- A set of atoms that are numbered from 0 in the order of their list, as a number.
use Prim.Native.Nat.{ℕ, ◌^◌, ◌<◌}
use native.Mathlib.Omega.{arith}
use mathlib.Core.Path.{◌≡◌, sym, ap, subst, ◌∙◌}
use mathlib.Core.List.{List, [], map}
use mathlib.Core.Bool.{Bool}
use lib.ListN.{length, get_or, length-map, get_or-map}
use Rattle.rules.specs.Lists.{All, from}
use Rattle.rules.specs.Sets.{has}
use Rattle.rules.proofs.Lists.{all_zip, all_map, map_all, all_from, from_all}
use Rattle.rules.proofs.Sets.{number, number_lt, has_number}
use Rattle.rules.proofs.ListLaws.{found}

module _ {A : Type 0} (num : A → ℕ) (d : A) (atoms : List A) (order : map num atoms ≡ from 0 (length atoms)) where
  -- what holds of the atoms' numbers holds of each number below their count
  pub to_numbers : (Q : ℕ → Type 0) → All (λ c. Q (num c)) atoms → (i : ℕ) → i < length atoms → Q i
  to_numbers Q h i l = from_all Q 0 (length atoms) (subst (All Q) order (all_map Q num atoms h)) i (omega arith) (omega arith)

  pub of_numbers : (Q : ℕ → Type 0) → ((i : ℕ) → i < length atoms → Q i) → All (λ c. Q (num c)) atoms
  of_numbers Q h = map_all Q num atoms (subst (All Q) (sym order) (all_from Q 0 (length atoms) (λ i l u. h i (omega arith))))

  abbrev pub set_of : (A → Bool) → ℕ
  set_of w = number (map w atoms)

  pub set_lt : (w : A → Bool) → set_of w < 2 ^ length atoms
  set_lt w = subst (λ (c : ℕ). set_of w < 2 ^ c) (length-map atoms w) (number_lt (map w atoms))

  pub set_has : (w : A → Bool) → All (λ c. has (set_of w) (num c) ≡ w c) atoms
  set_has w = all_zip (λ c. num c < length atoms) (λ c. get_or atoms (num c) d ≡ c) (λ c. has (set_of w) (num c) ≡ w c) (λ c g k. has_number (w d) (map w atoms) (num c) (omega (arith, length-map atoms w)) ∙ get_or-map w atoms (num c) d ∙ ap w k) atoms (of_numbers (λ i. i < length atoms) (λ i l. l)) (found num d [] atoms order)
