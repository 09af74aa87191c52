-- What the tests of names say, as the code asks it.
use Prim.Native.Nat.{ℕ, ◌+◌, ◌-◌, ◌≤◌, ◌<◌, zero-le}
use native.Mathlib.Numerals.{add-one}
use native.Mathlib.Omega.{arith}
use mathlib.Core.Path.{◌≡◌, refl, sym, ap, ◌∙◌}
use mathlib.Core.List.{List, [], ◌∷◌}
use mathlib.Core.Bool.{Bool, true, false, ◌&&◌, ◌||◌, or-false}
use mathlib.Core.Logic.{◌⊎◌, inl, inr}
use lib.Dec.{leb}
use lib.ListN.{length, get_or, take, drop, length-drop, drop_of_length-le}
use lib.Seq.{drop-cons, take_all}
use borrow.Author.Tests.{le-leb, lt-leb, ne_eqb}
use Rattle.kinds.specs.declared.limits.Kind.{Kind}
use Rattle.kinds.specs.declared.limits.Kind.TheVariants.{Plain, Preference}
use Rattle.rules.specs.Lists.{every}
use Rattle.names.specs.Names.{is_letter, is_first_byte, is_name_byte, is_house, is_common_name, is_class_number, by_length, dotted, generated, name_class, takes}
use Rattle.names.specs.Numerals.{is_digit}
use Rattle.names.specs.declared.forms.NameClass.{NameClass}
use Rattle.names.specs.declared.forms.NameClass.TheVariants.{Common, Generated, TooLong, Wrong}

-- a loop that tests every entry, at i
pub record Every (p : ℕ → Bool) (xs : List ℕ) (i : ℕ) : Type 0 where
  pub inside : i ≤ length xs
  pub left : every p (drop i xs) ≡ every p xs

pub begins : (p : ℕ → Bool) (xs : List ℕ) → Every p xs 0
begins p xs = record { inside = zero-le; left = refl }

module _ {p : ℕ → Bool} {xs : List ℕ} {i : ℕ} (h : Every p xs i) where
  pub passed : length xs ≤ i → true ≡ every p xs
  passed e = sym (ap (every p) (drop_of_length-le xs e)) ∙ h.left

  module _ (lt : i < length xs) where
    step : every p (drop i xs) ≡ p (get_or xs i 0) && every p (drop (i + 1) xs)
    step = rw (add-one, drop-cons xs i 0)

    pub fails : p (get_or xs i 0) ≡ false → false ≡ every p xs
    fails e = sym (rw e at step) ∙ h.left

    pub again : p (get_or xs i 0) ≡ true → Every p xs (i + 1)
    again e = record { inside = omega arith; left = sym (rw e at step) ∙ h.left }

-- the rest of a slice, from k on
pub rest_is : (xs : List ℕ) (k : ℕ) → take (length xs - k) (drop k xs) ≡ drop k xs
rest_is xs k = take_all (length xs - k) (drop k xs) (omega (arith, length-drop k xs))

module _ (b : ℕ) {r : Bool} (is : r ≡ is_letter b) where
  pub first_letter : r ≡ true → r ≡ is_first_byte b
  first_letter e = e ∙ sym (ap (λ t. t || is_digit b) (sym is ∙ e))

  pub first_digit : r ≡ false → {s : Bool} → s ≡ is_digit b → s ≡ is_first_byte b
  first_digit e d = d ∙ sym (ap (λ t. t || is_digit b) (sym is ∙ e))

pub house_empty : (bs : List ℕ) → length bs ≡ 0 → false ≡ is_house bs
unfolding is_house
house_empty [] e = refl
house_empty (b ∷ bs) e = absurd (omega arith)

house_is : (bs : List ℕ) → (length bs ≡ 0 → ⊥) → is_house bs ≡ is_first_byte (get_or bs 0 0) && every is_name_byte (drop 1 bs)
unfolding is_house
house_is [] e = absurd (e refl)
house_is (b ∷ bs) e = refl

module _ (bs : List ℕ) (some : length bs ≡ 0 → ⊥) {r : Bool} (is : r ≡ is_first_byte (get_or bs 0 0)) where
  pub house_first : r ≡ true → every is_name_byte (take (length bs - 1) (drop 1 bs)) ≡ is_house bs
  house_first e = ap (every is_name_byte) (rest_is bs 1) ∙ sym (rw (sym is ∙ e) at (house_is bs some))

  pub house_other : r ≡ false → false ≡ is_house bs
  house_other e = sym (rw (sym is ∙ e) at (house_is bs some))

pub number_one : (bs : List ℕ) {r : Bool} → length bs ≡ 1 → r ≡ is_digit (get_or bs 0 0) → r ≡ is_class_number bs
unfolding is_class_number
number_one bs n e = e ∙ simp (n, or-false)

module _ (bs : List ℕ) (n : length bs ≡ 2) (e : get_or bs 0 0 ≡ 49) where
  pub number_two : 48 ≤ get_or bs 1 0 → leb (get_or bs 1 0) 54 ≡ is_class_number bs
  unfolding is_class_number
  number_two h = simp (n, e, le-leb _ _ h)

  pub number_low : get_or bs 1 0 < 48 → false ≡ is_class_number bs
  unfolding is_class_number
  number_low h = simp (n, e, lt-leb _ _ h)

pub number_high : (bs : List ℕ) → length bs ≡ 2 → (get_or bs 0 0 ≡ 49 → ⊥) → false ≡ is_class_number bs
unfolding is_class_number
number_high bs n e = simp (n, ne_eqb _ _ e)

pub number_none : (bs : List ℕ) → (length bs ≡ 1 → ⊥) → (length bs ≡ 2 → ⊥) → false ≡ is_class_number bs
unfolding is_class_number
number_none bs a b = simp (ne_eqb _ _ a, ne_eqb _ _ b)

-- a mark before a name of both kinds
abbrev pub Copy : ℕ → Type 0
Copy c = (c ≡ 68) ⊎ ((c ≡ 78) ⊎ (c ≡ 83))

pub dotted_copy : (c : ℕ) (bs : List ℕ) {r : Bool} → Copy c → r ≡ is_common_name bs → r ≡ true → by_length bs Generated ≡ dotted c bs
dotted_copy c bs (inl e) f g = simp (e, sym f ∙ g)
dotted_copy c bs (inr (inl e)) f g = simp (e, sym f ∙ g)
dotted_copy c bs (inr (inr e)) f g = simp (e, sym f ∙ g)

pub dotted_no_common : (c : ℕ) (bs : List ℕ) {r : Bool} → Copy c → r ≡ is_common_name bs → r ≡ false → Wrong ≡ dotted c bs
dotted_no_common c bs (inl e) f g = simp (e, sym f ∙ g)
dotted_no_common c bs (inr (inl e)) f g = simp (e, sym f ∙ g)
dotted_no_common c bs (inr (inr e)) f g = simp (e, sym f ∙ g)

pub dotted_number : (c : ℕ) (bs : List ℕ) {r : Bool} → c ≡ 69 → r ≡ is_class_number bs → r ≡ true → Generated ≡ dotted c bs
dotted_number c bs e f g = simp (e, sym f ∙ g)

pub dotted_no_number : (c : ℕ) (bs : List ℕ) {r : Bool} → c ≡ 69 → r ≡ is_class_number bs → r ≡ false → Wrong ≡ dotted c bs
dotted_no_number c bs e f g = simp (e, sym f ∙ g)

pub dotted_other : (c : ℕ) (bs : List ℕ) → (Copy c → ⊥) → (c ≡ 69 → ⊥) → Wrong ≡ dotted c bs
dotted_other c bs f g =
    simp (ne_eqb c 68 (λ e. f (inl e)), ne_eqb c 78 (λ e. f (inr (inl e))), ne_eqb c 83 (λ e. f (inr (inr e))), ne_eqb c 69 g)

pub class_common : (bs : List ℕ) {r : Bool} → r ≡ is_common_name bs → r ≡ true → by_length bs Common ≡ name_class bs
unfolding name_class
class_common bs f g = simp (sym f ∙ g)

pub class_generated : (bs : List ℕ) {r : Bool} → r ≡ is_common_name bs → r ≡ false → generated bs ≡ name_class bs
unfolding name_class
class_generated bs f g = simp (sym f ∙ g)

pub takes_common : (kind : Kind) {class : NameClass} → class ≡ Common → true ≡ takes kind class
takes_common Plain e = sym (ap (takes Plain) e)
takes_common Preference e = sym (ap (takes Preference) e)

pub takes_long : (kind : Kind) {class : NameClass} → class ≡ TooLong → false ≡ takes kind class
takes_long Plain e = sym (ap (takes Plain) e)
takes_long Preference e = sym (ap (takes Preference) e)

pub takes_wrong : (kind : Kind) {class : NameClass} → class ≡ Wrong → false ≡ takes kind class
takes_wrong Plain e = sym (ap (takes Plain) e)
takes_wrong Preference e = sym (ap (takes Preference) e)
