-- The number behind `T.`, as the code finds it.
use Prim.Native.Nat.{ℕ, zero, suc, ◌+◌, ◌-◌, ◌*◌, ◌^◌, ◌≤◌, ◌<◌}
use native.Mathlib.Numerals.{add-one}
use native.Mathlib.Omega.{arith}
use mathlib.Core.Path.{◌≡◌, refl, sym, ap, ◌∙◌}
use mathlib.Core.List.{List, [], ◌∷◌}
use mathlib.Core.Logic.Iff
use mathlib.Core.Logic.{◌↔◌}
use mathlib.Core.Bool.{Bool, true, false, ◌&&◌, cond}
use lib.Dec.{T, leb, eqb, leb→le, le→leb, eqb→eq}
use lib.ListN.{length, get_or, take, drop, drop_of_length-le}
use lib.Seq.{drop-cons}
use borrow.Author.Tests.{ne_eqb}
use Rattle.std.specs.Prelude.{Option, Some, None, is_some}
use Rattle.kinds.specs.Limits.{atom_limit}
use Rattle.kinds.specs.declared.limits.Kind.TheVariants.{Preference}
use Rattle.rules.specs.Lists.{every}
use Rattle.rules.proofs.Booleans.{T_of, is_true_lem, is_false, and-false, eq_to_eqb}
use Rattle.rules.proofs.Connectives.{and_law}
use Rattle.names.specs.Numerals.{is_digit, is_numeral, value_from, value}
use Rattle.names.specs.Names.{is_house, is_atom_number, atom_number, is_made_name, made_number, is_common_name}
use Rattle.names.proofs.NameForms.{Every, begins, passed, fails, again, rest_is}
use Rattle.names.proofs.Numerals.{digit_range, numeral_digits, numeral_zero, numeral_first, value_positive, numeral_below}

pub atom_number_iff : (xs : List ℕ) → T (is_atom_number xs) ↔ (T (is_numeral xs) × ((1 ≤ value xs) × (value xs ≤ atom_limit Preference)))
unfolding is_atom_number
atom_number_iff xs =
    and_law (is_numeral xs) (leb 1 (value xs) && leb (value xs) 256) Iff.rfl
    (and_law (leb 1 (value xs)) (leb (value xs) 256) (leb→le 1 (value xs), le→leb 1 (value xs)) (leb→le (value xs) 256, le→leb (value xs) 256))

-- the digits up to i are passed, and say v
pub record Digits (xs : List ℕ) (i v : ℕ) : Type 0 where
  pub all : Every is_digit xs i
  pub small : v < 10 ^ i
  pub says : value_from v (drop i xs) ≡ value xs

pub digits_begin : (xs : List ℕ) → Digits xs 0 0
unfolding value
digits_begin xs = record { all = begins is_digit xs; small = omega arith; says = refl }

-- other bytes
module _ (xs : List ℕ) where
  none : (T (is_atom_number xs) → ⊥) → None ≡ atom_number xs
  none f = simp (is_false (is_atom_number xs) f)

  pub number_empty : length xs ≡ 0 → None ≡ atom_number xs
  number_empty e = none (λ t. empty xs e ((atom_number_iff xs).0 t).0)
    where
      empty : (x : List ℕ) → length x ≡ 0 → T (is_numeral x) → ⊥
      empty [] e t = t
      empty (b ∷ x) e t = omega arith

  pub number_long : 3 < length xs → None ≡ atom_number xs
  number_long l = none (λ t. let h = (atom_number_iff xs).0 t in let u = h.1.1 in omega (arith, numeral_below xs 2 h.0 (omega arith)))

  pub number_led : get_or xs 0 0 ≡ 48 → None ≡ atom_number xs
  number_led e = none (λ t. let h = (atom_number_iff xs).0 t in let u = h.1.0 in omega (arith, numeral_zero xs h.0 e))

  number_broken : every is_digit xs ≡ false → None ≡ atom_number xs
  number_broken e = none (λ t. T_of (sym (is_true_lem (every is_digit xs) (numeral_digits xs ((atom_number_iff xs).0 t).0)) ∙ e) tt)

module _ {xs : List ℕ} {i v : ℕ} (d : Digits xs i v) where
  pub digits_small : i < length xs → length xs ≤ 3 → v < 100
  digits_small l u = go i (omega arith) d.small
    where
      go : (i : ℕ) → i < 3 → v < 10 ^ i → v < 100
      go zero l h = omega arith
      go (suc zero) l h = omega arith
      go (suc (suc zero)) l h = omega arith
      go (suc (suc (suc i))) l h = absurd (omega arith)

  pub digits_fail : i < length xs → is_digit (get_or xs i 0) ≡ false → None ≡ atom_number xs
  digits_fail l e = number_broken xs (sym (fails d.all l e))

  pub digits_again : i < length xs → is_digit (get_or xs i 0) ≡ true → Digits xs (i + 1) (10 * v + (get_or xs i 0 - 48))
  digits_again l e =
      let r = digit_range (get_or xs i 0) e in
      let p : v < 10 ^ i = d.small in
      let s : 10 * v + (get_or xs i 0 - 48) < 10 ^ suc i = omega arith in
      record {
        all = again d.all l e;
        small = rw add-one s;
        says = rw add-one (ap (value_from v) (sym (drop-cons xs i 0 l)) ∙ d.says);
      }

  module _ (o : length xs ≤ i) where
    said : v ≡ value xs
    said = ap (value_from v) (sym (drop_of_length-le xs o)) ∙ d.says

    pub number_past : atom_limit Preference < v → None ≡ atom_number xs
    number_past l = none xs (λ t. omega (arith, ((atom_number_iff xs).0 t).1.1, said))

    pub number_said : (length xs ≡ 0 → ⊥) → (get_or xs 0 0 ≡ 48 → ⊥) → v ≤ atom_limit Preference → Some v ≡ atom_number xs
    number_said n z l =
        let all : every is_digit xs ≡ true = sym (passed d.all o) in
        let t = (atom_number_iff xs).1 (numeral_first xs all n z, (value_positive xs all n z, omega (arith, said))) in
        ap Some said ∙ simp (is_true_lem (is_atom_number xs) t)

pub made_iff : (xs : List ℕ) → T (is_made_name xs) ↔ ((get_or xs 0 0 ≡ 84) × ((get_or xs 1 0 ≡ 46) × T (is_atom_number (drop 2 xs))))
unfolding is_made_name
made_iff xs =
    and_law (eqb (get_or xs 0 0) 84) (eqb (get_or xs 1 0) 46 && is_atom_number (drop 2 xs)) (eqb→eq (get_or xs 0 0) 84, eq_to_eqb (get_or xs 0 0) 84)
    (and_law (eqb (get_or xs 1 0) 46) (is_atom_number (drop 2 xs)) (eqb→eq (get_or xs 1 0) 46, eq_to_eqb (get_or xs 1 0) 46) Iff.rfl)

-- a whole name
module _ (xs : List ℕ) where
  pub made_none : length xs < 2 → None ≡ made_number xs
  unfolding made_number is_made_name is_atom_number
  made_none l = short xs l
    where
      short : (xs : List ℕ) → length xs < 2 → None ≡ made_number xs
      short [] l = refl
      short (b ∷ []) l = simp (and-false (eqb b 84))
      short (b ∷ c ∷ xs) l = absurd (omega arith)

  pub made_other : (get_or xs 0 0 ≡ 84 → ⊥) → None ≡ made_number xs
  unfolding made_number is_made_name
  made_other n = simp (ne_eqb _ _ n)

  module _ (e : get_or xs 0 0 ≡ 84) where
    pub made_undotted : (get_or xs 1 0 ≡ 46 → ⊥) → None ≡ made_number xs
    unfolding made_number is_made_name
    made_undotted n = simp (e, ne_eqb _ _ n)

    pub made_dotted : get_or xs 1 0 ≡ 46 → atom_number (take (length xs - 2) (drop 2 xs)) ≡ made_number xs
    unfolding made_number is_made_name
    made_dotted d = simp (e, d, rest_is)

  pub made_some : is_some (made_number xs) ≡ is_made_name xs
  unfolding made_number
  made_some = go (is_made_name xs)
    where
      go : (b : Bool) → is_some (cond b (Some (value (drop 2 xs))) None) ≡ b
      go true = refl
      go false = refl

module _ (xs : List ℕ) {r : Bool} (is : r ≡ is_house xs) where
  pub common_house : r ≡ true → true ≡ is_common_name xs
  unfolding is_common_name
  common_house e = simp (sym is ∙ e)

  pub common_made : r ≡ false → {n : Option ℕ} → n ≡ made_number xs → {q : Bool} → q ≡ is_some n → q ≡ is_common_name xs
  unfolding is_common_name
  common_made e n q = q ∙ ap is_some n ∙ made_some xs ∙ simp (sym is ∙ e)
