-- The names of a clause file's atoms are different house names.
use Prim.Native.Nat.{ℕ, suc, ◌≤◌, ◌<◌}
use native.Mathlib.Omega.{arith}
use mathlib.Core.Path.{◌≡◌, ◌∙◌}
use mathlib.Core.List.{tail-eq_of_cons-eq}
use mathlib.Core.Logic.Iff
use mathlib.Core.Logic.{inl, inr}
use mathlib.Core.Bool.{true, ◌||◌}
use lib.Dec.{T, leb, eqb}
use lib.ListN.{length, length-map}
use borrow.Author.Tests.{le-leb}
use Rattle.kinds.specs.Limits.{atom_limit}
use Rattle.kinds.specs.Words.{decimal}
use Rattle.kinds.specs.declared.limits.Kind.TheVariants.{Preference}
use Rattle.rules.specs.Lists.{every, from}
use Rattle.rules.proofs.Booleans.{T-or, is_true_lem}
use Rattle.rules.proofs.Lists.{all_imp, all_map, all_from, every_all, length_from, distinct_from, distinct_map}
use Rattle.rules.proofs.ListLaws.{all_each}
use Rattle.names.specs.Numerals.{is_digit}
use Rattle.names.specs.Names.{is_letter, is_name_byte, is_house, is_common_name, name_class, allowed}
use Rattle.names.proofs.Decimals.{digits_few, digits_all, decimal_inj}
use Rattle.name_store.specs.NameStore.{NamesForm}
use Rattle.clauses.specs.Written.{clause_name, clause_names}

digit_byte : (b : ℕ) → T (is_digit b) → T (is_name_byte b)
digit_byte b h = T-or (is_letter b) (is_digit b || eqb b 95) (inr (T-or (is_digit b) (eqb b 95) (inl h)))

name_house : (a : ℕ) → is_house (clause_name a) ≡ true
unfolding is_house
name_house a = is_true_lem (every is_name_byte (decimal (suc a))) ((every_all is_name_byte (λ b. T (is_name_byte b)) (λ b. Iff.rfl) (decimal (suc a))).1 (all_imp (λ b. T (is_digit b)) (λ b. T (is_name_byte b)) digit_byte (decimal (suc a)) (digits_all 20 (suc a))))

name_allowed : (a : ℕ) → T (allowed Preference (clause_name a))
unfolding allowed name_class is_common_name
name_allowed a =
    let short : leb (length (clause_name a)) 24 ≡ true = le-leb (length (clause_name a)) 24 (omega (arith, digits_few 20 (suc a))) in
    simp (name_house a, short) tt

-- n atoms have n names
pub names_form : (n : ℕ) → n ≤ atom_limit Preference → NamesForm Preference n (clause_names n)
unfolding clause_names
names_form n l = record {
  count = length-map (from 0 n) clause_name ∙ length_from 0 n;
  all_allowed = all_map (λ x. T (allowed Preference x)) clause_name (from 0 n) (all_each (λ a. T (allowed Preference (clause_name a))) name_allowed (from 0 n));
  different = distinct_map clause_name (λ a. a < n) same (from 0 n) (all_from (λ a. a < n) 0 n (λ a low up. omega arith)) (distinct_from 0 n);
}
  where
    same : (a b : ℕ) → a < n → b < n → clause_name a ≡ clause_name b → a ≡ b
    same a b p q e = let s : suc a ≡ suc b = decimal_inj (suc a) (suc b) (omega arith) (omega arith) (tail-eq_of_cons-eq e) in omega arith
