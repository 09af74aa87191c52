-- The names `T.1` to `T.256` (document 02, W-208).
use Prim.Native.Nat.{ℕ, suc, ◌^◌, ◌≤◌, ◌<◌}
use native.Mathlib.Omega.{arith}
use mathlib.Core.Path.{◌≡◌, refl, sym, ap, ap₂, ◌∙◌}
use mathlib.Core.List.{List, [], ◌∷◌}
use mathlib.Core.Bool.{true, false}
use lib.Dec.{T, leb, eqb}
use lib.ListN.{length, get_or, drop}
use borrow.Author.Tests.{ne_eqb, le-leb}
use Rattle.kinds.specs.Limits.{atom_limit, name_limit}
use Rattle.kinds.specs.Words.{decimal}
use Rattle.kinds.specs.declared.limits.Kind.{Kind}
use Rattle.kinds.specs.declared.limits.Kind.TheVariants.{Plain, Preference}
use Rattle.rules.proofs.Booleans.{is_true_lem, is_false}
use Rattle.names.specs.Numerals.{value}
use Rattle.std.specs.Prelude.{Some}
use Rattle.names.specs.Names.{is_house, is_made_name, made_number, made_name, is_common_name, name_class, allowed}
use Rattle.names.specs.declared.forms.NameClass.TheVariants.{Common, Wrong}
use Rattle.names.proofs.Decimals.{digits_below, value_digits}
use Rattle.names.proofs.Numerals.{numeral_below, numeral_decimal, decimal_numeral}
use Rattle.names.proofs.MadeNumbers.{atom_number_iff, made_iff}

-- no house name is one
pub made_no_house : (x : List ℕ) → T (is_made_name x) → is_house x ≡ false
unfolding is_house
made_no_house [] t = refl
made_no_house (b ∷ x) t = let e : b ≡ 84 = ((made_iff (b ∷ x)).0 t).0 in simp e

-- each of them is some madeName t
pub made_name_of : (x : List ℕ) → T (is_made_name x) → (x ≡ made_name (value (drop 2 x))) × (1 ≤ value (drop 2 x)) × (value (drop 2 x) ≤ atom_limit Preference)
unfolding made_name
made_name_of x t =
    let m = (made_iff x).0 t in
    let n = (atom_number_iff (drop 2 x)).0 m.1.1 in
    let l = n.1.1 in
    let s : length (drop 2 x) ≤ 20 = omega (arith, numeral_below (drop 2 x) 2 n.0 (omega arith)) in
    (front x m.0 m.1.0 ∙ ap (λ (y : List ℕ). 84 ∷ 46 ∷ y) (sym (numeral_decimal (drop 2 x) n.0 s)), n.1.0, n.1.1)
  where
    front : (x : List ℕ) → get_or x 0 0 ≡ 84 → get_or x 1 0 ≡ 46 → x ≡ 84 ∷ 46 ∷ drop 2 x
    front [] e f = absurd (omega arith)
    front (a ∷ []) e f = absurd (omega arith)
    front (a ∷ b ∷ x) e f = ap₂ (λ (a b : ℕ). a ∷ b ∷ x) e f

module _ (t : ℕ) where
  pub made_value : t < 10 ^ 20 → value (drop 2 (made_name t)) ≡ t
  unfolding made_name
  made_value u = value_digits 20 t u

  made_not_house : is_house (made_name t) ≡ false
  unfolding made_name is_house
  made_not_house = refl

  pub made_past : atom_limit Preference < t → t < 10 ^ 20 → name_class (made_name t) ≡ Wrong
  unfolding made_name name_class is_common_name
  made_past l u =
      let m : is_made_name (made_name t) ≡ false = is_false (is_made_name (made_name t)) (λ q. omega (arith, (made_name_of (made_name t) q).2, made_value u)) in
      let long : eqb (suc (suc (length (decimal t)))) 1 ≡ false = ne_eqb (suc (suc (length (decimal t)))) 1 (λ e. omega arith) in
      let two : leb 2 (suc (suc (length (decimal t)))) ≡ true = le-leb 2 (suc (suc (length (decimal t)))) (omega arith) in
      simp (made_not_house, m, long, two)

  module _ (low : 1 ≤ t) (up : t ≤ atom_limit Preference) where
    pub made_is : T (is_made_name (made_name t))
    unfolding made_name
    made_is =
        let v = value_digits 20 t (omega arith) in
        (made_iff (made_name t)).1 (refl, (refl, (atom_number_iff (decimal t)).1 (decimal_numeral t low (omega arith), (omega arith, omega arith))))

    pub made_number_lem : made_number (made_name t) ≡ Some t
    unfolding made_number
    made_number_lem = simp (is_true_lem (is_made_name (made_name t)) made_is) (ap Some (made_value (omega arith)))

    pub made_short : length (made_name t) ≤ 5
    unfolding made_name
    made_short = omega (arith, digits_below 20 t 2 (omega arith))

    pub made_class : name_class (made_name t) ≡ Common
    unfolding name_class is_common_name
    made_class = simp (made_not_house, is_true_lem (is_made_name (made_name t)) made_is, le-leb (length (made_name t)) name_limit (omega (arith, made_short)))

    pub made_allowed : (kind : Kind) → T (allowed kind (made_name t))
    unfolding allowed
    made_allowed Plain = simp made_class tt
    made_allowed Preference = simp made_class tt

pub made_name_inj : (s t : ℕ) → s < 10 ^ 20 → t < 10 ^ 20 → made_name s ≡ made_name t → s ≡ t
made_name_inj s t l u e = sym (made_value s l) ∙ ap (λ (x : List ℕ). value (drop 2 x)) e ∙ made_value t u
