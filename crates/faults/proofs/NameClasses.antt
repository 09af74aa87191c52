-- The class of a name by its bytes: it is what the documents' words say.
use Prim.Native.Nat.{ℕ, suc, ◌+◌, ◌-◌, ◌≤◌, ◌<◌}
use native.Mathlib.Omega.{arith}
use native.Mathlib.Decide.{dec_lt}
use mathlib.Core.Path.{◌≡◌, refl, sym, ap, ap₂, ◌∙◌, subst}
use mathlib.Core.Logic.{◌⊎◌, inl, inr, ◌↔◌}
use mathlib.Core.Bool.{true, false, cond, ◌&&◌, ◌||◌}
use mathlib.Core.List.{List, [], ◌∷◌}
use lib.Dec.{T, leb, eqb, leb→le, le→leb, eqb→eq}
use lib.ListN.{length, get_or, drop}
use borrow.Author.Tests.{le-leb, ne_eqb}
use Rattle.kinds.specs.Limits.{name_limit}
use Rattle.rules.specs.Lists.{every}
use Rattle.rules.proofs.Booleans.{eq_to_eqb, is_true_lem, is_false}
use Rattle.rules.proofs.Connectives.{or_law, and_law, on_cond}
use Rattle.rules.proofs.Lists.{every_all}
use Rattle.names.specs.declared.forms.NameClass.{NameClass}
use Rattle.names.specs.declared.forms.NameClass.TheVariants.{Common, Generated, TooLong, Wrong}
use Rattle.names.specs.Numerals.{is_digit, value}
use Rattle.names.specs.Names.{is_letter, is_first_byte, is_name_byte, is_house, is_atom_number, is_made_name, made_name, is_common_name, is_class_number, by_length, dotted, generated, name_class}
use Rattle.names.proofs.MadeNames.{made_name_of, made_is, made_short}
use Rattle.faults.specs.NameForms.{NameByte, HouseBytes, LongHouseName, MadeName, CommonName, Marked, ClassNumber, GeneratedName, TooLongName}

pub eq_law : (m n : ℕ) → T (eqb m n) ↔ (m ≡ n)
eq_law m n = (eqb→eq m n, eq_to_eqb m n)

le_law : (m n : ℕ) → T (leb m n) ↔ (m ≤ n)
le_law m n = (leb→le m n, le→leb m n)

between : (a b c : ℕ) → T (leb a b && leb b c) ↔ ((a ≤ b) × (b ≤ c))
between a b c = and_law (leb a b) (leb b c) (le_law a b) (le_law b c)

byte_law : (b : ℕ) → T (is_name_byte b) ↔ NameByte b
byte_law b = or_law (is_letter b) (is_digit b || eqb b 95) (between 97 b 122) (or_law (is_digit b) (eqb b 95) (between 48 b 57) (eq_law b 95))

house_law : (x : List ℕ) → T (is_house x) ↔ HouseBytes x
unfolding is_house
house_law [] = (λ t. t, λ h. h)
house_law (b ∷ x) = and_law (is_first_byte b) (every is_name_byte x) (or_law (is_letter b) (is_digit b) (between 97 b 122) (between 48 b 57)) (every_all is_name_byte NameByte byte_law x)

made_law : (x : List ℕ) → T (is_made_name x) ↔ MadeName x
unfolding made_name
made_law x = (λ t. let m = made_name_of x t in (value (drop 2 x), m.1, m.2, m.0), λ m. subst (λ y. T (is_made_name y)) (sym m.3) (made_is m.0 m.1 m.2))

made_sized : (x : List ℕ) → MadeName x → length x ≤ name_limit
unfolding made_name
made_sized x (t, l, u, e) = omega (arith, ap length e, made_short t l u)

-- a name of both kinds, of any length
abbrev CommonBytes : List ℕ → Type 0
CommonBytes x = HouseBytes x ⊎ MadeName x

common_law : (x : List ℕ) → T (is_common_name x) ↔ CommonBytes x
unfolding is_common_name
common_law x = or_law (is_house x) (is_made_name x) (house_law x) (made_law x)

common_short : (x : List ℕ) → CommonBytes x → length x ≤ name_limit → CommonName x
common_short x (inl h) l = inl (h, l)
common_short x (inr m) l = inr m

common_long : (x : List ℕ) → CommonBytes x → name_limit < length x → LongHouseName x
common_long x (inl h) l = (h, l)
common_long x (inr m) l = absurd (omega (arith, made_sized x m))

common_bytes : (x : List ℕ) → CommonName x → CommonBytes x × (length x ≤ name_limit)
common_bytes x (inl h) = (inl h.0, h.1)
common_bytes x (inr m) = (inr m, made_sized x m)

-- a name of one or two bytes

one_byte : (x : List ℕ) → length x ≡ 1 → x ≡ get_or x 0 0 ∷ []
one_byte [] e = absurd (omega arith)
one_byte (a ∷ []) e = refl
one_byte (a ∷ b ∷ x) e = absurd (omega arith)

two_bytes : (x : List ℕ) → 2 ≤ length x → x ≡ get_or x 0 0 ∷ get_or x 1 0 ∷ drop 2 x
two_bytes [] e = absurd (omega arith)
two_bytes (a ∷ []) e = absurd (omega arith)
two_bytes (a ∷ b ∷ x) e = refl

number_law : (y : List ℕ) → T (is_class_number y) ↔ ClassNumber y
unfolding is_class_number
number_law y = (λ t. there (law.0 t), λ h. law.1 (back h))
  where
    One : Type 0
    One = (length y ≡ 1) × ((48 ≤ get_or y 0 0) × (get_or y 0 0 ≤ 57))

    Two : Type 0
    Two = (length y ≡ 2) × ((get_or y 0 0 ≡ 49) × ((48 ≤ get_or y 1 0) × (get_or y 1 0 ≤ 54)))

    law : T ((eqb (length y) 1 && is_digit (get_or y 0 0)) || (eqb (length y) 2 && (eqb (get_or y 0 0) 49 && (leb 48 (get_or y 1 0) && leb (get_or y 1 0) 54)))) ↔ (One ⊎ Two)
    law =
        or_law (eqb (length y) 1 && is_digit (get_or y 0 0)) (eqb (length y) 2 && (eqb (get_or y 0 0) 49 && (leb 48 (get_or y 1 0) && leb (get_or y 1 0) 54)))
        (and_law (eqb (length y) 1) (is_digit (get_or y 0 0)) (eq_law (length y) 1) (between 48 (get_or y 0 0) 57))
        (and_law (eqb (length y) 2) (eqb (get_or y 0 0) 49 && (leb 48 (get_or y 1 0) && leb (get_or y 1 0) 54)) (eq_law (length y) 2)
        (and_law (eqb (get_or y 0 0) 49) (leb 48 (get_or y 1 0) && leb (get_or y 1 0) 54) (eq_law (get_or y 0 0) 49) (between 48 (get_or y 1 0) 54)))

    there : One ⊎ Two → ClassNumber y
    there (inl h) =
        let l = h.1.0 in
        let u = h.1.1 in
        let e : get_or y 0 0 ≡ 48 + (get_or y 0 0 - 48) = omega arith in
        inl (get_or y 0 0 - 48, omega arith, one_byte y h.0 ∙ ap (λ b. b ∷ []) e)
    there (inr h) =
        let l = h.1.1.0 in
        let u = h.1.1.1 in
        let e : get_or y 1 0 ≡ 48 + (get_or y 1 0 - 48) = omega arith in
        inr (get_or y 1 0 - 48, omega arith, full y h.0 ∙ ap₂ (λ a b. a ∷ b ∷ []) h.1.0 e)
      where
        full : (x : List ℕ) → length x ≡ 2 → x ≡ get_or x 0 0 ∷ get_or x 1 0 ∷ []
        full [] q = absurd (omega arith)
        full (a ∷ []) q = absurd (omega arith)
        full (a ∷ b ∷ []) q = refl
        full (a ∷ b ∷ c ∷ x) q = absurd (omega arith)

    back : ClassNumber y → One ⊎ Two
    back (inl (d, u, e)) =
        let n : length y ≡ 1 = ap length e in
        let a : get_or y 0 0 ≡ 48 + d = ap (λ l. get_or l 0 0) e in
        inl (n, (omega arith, omega arith))
    back (inr (d, u, e)) =
        let n : length y ≡ 2 = ap length e in
        let a : get_or y 0 0 ≡ 49 = ap (λ l. get_or l 0 0) e in
        let b : get_or y 1 0 ≡ 48 + d = ap (λ l. get_or l 1 0) e in
        inr (n, (a, (omega arith, omega arith)))

-- what a class says of the bytes
abbrev Classed : List ℕ → NameClass → Type 0
Classed x Common = CommonName x
Classed x Generated = GeneratedName x
Classed x TooLong = TooLongName x
Classed x Wrong = Unit {0}

on_size : (P : NameClass → Type 0) (y : List ℕ) (c : NameClass) → (length y ≤ name_limit → P c) → (name_limit < length y → P TooLong) → P (by_length y c)
on_size P y c h k = on_cond P (leb (length y) name_limit) c TooLong (λ t. h (leb→le (length y) name_limit t)) (λ f. k (past f (dec_lt name_limit (length y))))
  where
    past : (T (leb (length y) name_limit) → ⊥) → Dec (name_limit < length y) → name_limit < length y
    past f (yes l) = l
    past f (no l) = absurd (f (le→leb (length y) name_limit (omega arith)))

marked : (x y : List ℕ) (c : ℕ) → x ≡ c ∷ 46 ∷ y → (c ≡ 78) ⊎ ((c ≡ 83) ⊎ (c ≡ 68)) → Marked x y
marked x y c e (inl m) = inl (e ∙ ap (λ b. b ∷ 46 ∷ y) m)
marked x y c e (inr (inl m)) = inr (inl (e ∙ ap (λ b. b ∷ 46 ∷ y) m))
marked x y c e (inr (inr m)) = inr (inr (e ∙ ap (λ b. b ∷ 46 ∷ y) m))

dotted_classed : (x y : List ℕ) (c : ℕ) → x ≡ c ∷ 46 ∷ y → Classed x (dotted c y)
dotted_classed x y c e =
    on_cond (Classed x) ((eqb c 78 || (eqb c 83 || eqb c 68)) && is_common_name y) (by_length y Generated) (cond (eqb c 69 && is_class_number y) Generated Wrong)
    (λ t. let h = copy.0 t in on_size (Classed x) y Generated (λ l. inl (y, marked x y c e h.0, common_short y h.1 l)) (λ l. inr (y, marked x y c e h.0, common_long y h.1 l)))
    (λ f. on_cond (Classed x) (eqb c 69 && is_class_number y) Generated Wrong (λ t. let h = class.0 t in inr (inl (y, e ∙ ap (λ b. b ∷ 46 ∷ y) h.0, h.1))) (λ g. tt))
  where
    copy : T ((eqb c 78 || (eqb c 83 || eqb c 68)) && is_common_name y) ↔ (((c ≡ 78) ⊎ ((c ≡ 83) ⊎ (c ≡ 68))) × CommonBytes y)
    copy = and_law (eqb c 78 || (eqb c 83 || eqb c 68)) (is_common_name y) (or_law (eqb c 78) (eqb c 83 || eqb c 68) (eq_law c 78) (or_law (eqb c 83) (eqb c 68) (eq_law c 83) (eq_law c 68))) (common_law y)

    class : T (eqb c 69 && is_class_number y) ↔ ((c ≡ 69) × ClassNumber y)
    class = and_law (eqb c 69) (is_class_number y) (eq_law c 69) (number_law y)

generated_classed : (x : List ℕ) → Classed x (generated x)
generated_classed x =
    on_cond (Classed x) (eqb (length x) 1 && eqb (get_or x 0 0) 85) Generated (cond (leb 2 (length x) && eqb (get_or x 1 0) 46) (dotted (get_or x 0 0) (drop 2 x)) Wrong)
    (λ t. let h = u.0 t in inr (inr (one_byte x h.0 ∙ ap (λ b. b ∷ []) h.1)))
    (λ f. on_cond (Classed x) (leb 2 (length x) && eqb (get_or x 1 0) 46) (dotted (get_or x 0 0) (drop 2 x)) Wrong
    (λ t. let h = dot.0 t in dotted_classed x (drop 2 x) (get_or x 0 0) (two_bytes x h.0 ∙ ap (λ b. get_or x 0 0 ∷ b ∷ drop 2 x) h.1))
    (λ g. tt))
  where
    u : T (eqb (length x) 1 && eqb (get_or x 0 0) 85) ↔ ((length x ≡ 1) × (get_or x 0 0 ≡ 85))
    u = and_law (eqb (length x) 1) (eqb (get_or x 0 0) 85) (eq_law (length x) 1) (eq_law (get_or x 0 0) 85)

    dot : T (leb 2 (length x) && eqb (get_or x 1 0) 46) ↔ ((2 ≤ length x) × (get_or x 1 0 ≡ 46))
    dot = and_law (leb 2 (length x)) (eqb (get_or x 1 0) 46) (le_law 2 (length x)) (eq_law (get_or x 1 0) 46)

class_says : (x : List ℕ) → Classed x (name_class x)
unfolding name_class
class_says x =
    on_cond (Classed x) (is_common_name x) (by_length x Common) (generated x)
    (λ t. let h = (common_law x).0 t in on_size (Classed x) x Common (common_short x h) (λ l. inl (common_long x h l)))
    (λ f. generated_classed x)

-- and back

sized_short : (y : List ℕ) (c : NameClass) → length y ≤ name_limit → by_length y c ≡ c
sized_short y c l = ap (λ b. cond b c TooLong) (is_true_lem (leb (length y) name_limit) (le→leb (length y) name_limit l))

sized_long : (y : List ℕ) (c : NameClass) → name_limit < length y → by_length y c ≡ TooLong
sized_long y c l = ap (λ b. cond b c TooLong) (is_false (leb (length y) name_limit) (λ t. omega (arith, leb→le (length y) name_limit t)))

common_class : (x : List ℕ) → CommonBytes x → name_class x ≡ by_length x Common
unfolding name_class
common_class x h = ap (λ b. cond b (by_length x Common) (generated x)) (is_true_lem (is_common_name x) ((common_law x).1 h))

dotted_class : (c : ℕ) (y : List ℕ) → is_first_byte c ≡ false → eqb c 84 ≡ false → name_class (c ∷ 46 ∷ y) ≡ dotted c y
unfolding name_class is_common_name is_made_name is_house
dotted_class c y n m =
    ap₂ (λ a b. cond ((a && every is_name_byte (46 ∷ y)) || (b && is_atom_number y)) (by_length (c ∷ 46 ∷ y) Common) (generated (c ∷ 46 ∷ y))) n m
    ∙ ap (λ b. cond (b && eqb c 85) Generated (cond (leb 2 (suc (suc (length y))) && true) (dotted c y) Wrong)) (ne_eqb (suc (suc (length y))) 1 (λ e. omega arith))
    ∙ ap (λ b. cond (b && true) (dotted c y) Wrong) (le-leb 2 (suc (suc (length y))) (omega arith))

marked_class : (x y : List ℕ) → Marked x y → CommonBytes y → name_class x ≡ by_length y Generated
marked_class x y m h = go m
  where
    is_common : cond (is_common_name y) (by_length y Generated) Wrong ≡ by_length y Generated
    is_common = ap (λ b. cond b (by_length y Generated) Wrong) (is_true_lem (is_common_name y) ((common_law y).1 h))

    go : Marked x y → name_class x ≡ by_length y Generated
    go (inl e) = ap name_class e ∙ dotted_class 78 y refl refl ∙ is_common
    go (inr (inl e)) = ap name_class e ∙ dotted_class 83 y refl refl ∙ is_common
    go (inr (inr e)) = ap name_class e ∙ dotted_class 68 y refl refl ∙ is_common

end_class : (y : List ℕ) → ClassNumber y → name_class (69 ∷ 46 ∷ y) ≡ Generated
end_class y h = dotted_class 69 y refl refl ∙ ap (λ b. cond b Generated Wrong) (is_true_lem (is_class_number y) ((number_law y).1 h))

u_class : name_class (85 ∷ []) ≡ Generated
unfolding name_class is_common_name is_made_name is_house
u_class = refl

pub common_iff : (x : List ℕ) → name_class x ≡ Common ↔ CommonName x
common_iff x = (λ e. subst (Classed x) e (class_says x), λ h. let c = common_bytes x h in common_class x c.0 ∙ sized_short x Common c.1)

pub long_iff : (x : List ℕ) → name_class x ≡ TooLong ↔ TooLongName x
long_iff x = (λ e. subst (Classed x) e (class_says x), back)
  where
    back : TooLongName x → name_class x ≡ TooLong
    back (inl h) = common_class x (inl h.0) ∙ sized_long x Common h.1
    back (inr (y, m, h)) = marked_class x y m (inl h.0) ∙ sized_long y Generated h.1

pub generated_iff : (x : List ℕ) → name_class x ≡ Generated ↔ GeneratedName x
generated_iff x = (λ e. subst (Classed x) e (class_says x), back)
  where
    back : GeneratedName x → name_class x ≡ Generated
    back (inl (y, m, h)) = let c = common_bytes y h in marked_class x y m c.0 ∙ sized_short y Generated c.1
    back (inr (inl (y, e, h))) = ap name_class e ∙ end_class y h
    back (inr (inr e)) = ap name_class e ∙ u_class
