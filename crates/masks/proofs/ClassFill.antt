-- Filling the masks of the classes, one atom after another.
use Prim.Native.Nat.{ℕ, zero, suc, ◌+◌, ◌-◌, ◌^◌, ◌≤◌, ◌<◌}
use mathlib.Core.Path.{◌≡◌, refl, sym, ap, ap₂, ◌∙◌, subst}
use mathlib.Core.Bool.{Bool, true, false, cond, ◌&&◌}
use mathlib.Core.List.{List, [], ◌∷◌, ◌++◌, map}
use native.Mathlib.Decide.{ℕ_discrete}
use native.Mathlib.Omega.{arith}
use lib.Dec.{eqb, leb}
use lib.Bits.{bit_or, or_zero_l, or_zero_r}
use lib.ListN.{length, get_or, set, replicate, length-map}
use borrow.Author.Tests.{ne_eqb, eq-eqb, eqb-true, leb-true, le-leb}
use Rattle.kinds.specs.Limits.{class_limit, varying, fixed}
use Rattle.rules.specs.Lists.{keep, filter, from}
use Rattle.rules.specs.Preferred.{of_class}
use Rattle.rules.proofs.Booleans.{both_true}
use Rattle.stores.specs.Program.{role_of}
use Rattle.stores.specs.declared.roles.Role.{Role}
use Rattle.stores.specs.declared.roles.Role.TheVariants.{Minimised, Varying, Fixed, Unknown}
use Rattle.places.specs.Places.{mirror}
use Rattle.masks.specs.Masks.{mask_of, place_mask, class_masks, noted}
use Rattle.masks.proofs.MaskLoops.{or_assoc}

-- what the role tells of the word

abbrev is_class : ℕ → Bool
is_class w = leb 1 w && leb w class_limit

module _ (p q r : Bool) (w : ℕ) where
  abbrev picked : Role
  picked = cond p (Minimised w) (cond q Varying (cond r Fixed Unknown))

picks_class : (p q r : Bool) (w c : ℕ) → picked p q r w ≡ Minimised c → (c ≡ w) × (p ≡ true)
picks_class true q r w c e = (let z : w ≡ c = cc in sym z, refl)
picks_class false true r w c e = absurd (let z : ◌≡◌ {A = ℕ} 0 1 = cc in omega arith)
picks_class false false true w c e = absurd (let z : ◌≡◌ {A = ℕ} 0 1 = cc in omega arith)
picks_class false false false w c e = absurd (let z : ◌≡◌ {A = ℕ} 0 1 = cc in omega arith)

picks_varying : (p q r : Bool) (w : ℕ) → picked p q r w ≡ Varying → (p ≡ false) × (q ≡ true)
picks_varying true q r w e = absurd (let z : ◌≡◌ {A = ℕ} 0 1 = cc in omega arith)
picks_varying false true r w e = (refl, refl)
picks_varying false false true w e = absurd (let z : ◌≡◌ {A = ℕ} 0 1 = cc in omega arith)
picks_varying false false false w e = absurd (let z : ◌≡◌ {A = ℕ} 0 1 = cc in omega arith)

picks_fixed : (p q r : Bool) (w : ℕ) → picked p q r w ≡ Fixed → (p ≡ false) × (r ≡ true)
picks_fixed true q r w e = absurd (let z : ◌≡◌ {A = ℕ} 0 1 = cc in omega arith)
picks_fixed false true r w e = absurd (let z : ◌≡◌ {A = ℕ} 0 1 = cc in omega arith)
picks_fixed false false true w e = (refl, refl)
picks_fixed false false false w e = absurd (let z : ◌≡◌ {A = ℕ} 0 1 = cc in omega arith)

picks_other : (p q r : Bool) (w : ℕ) → picked p q r w ≡ Unknown → (p ≡ false) × (r ≡ false)
picks_other true q r w e = absurd (let z : ◌≡◌ {A = ℕ} 0 1 = cc in omega arith)
picks_other false true r w e = absurd (let z : ◌≡◌ {A = ℕ} 0 1 = cc in omega arith)
picks_other false false true w e = absurd (let z : ◌≡◌ {A = ℕ} 0 1 = cc in omega arith)
picks_other false false false w e = (refl, refl)

module _ (w bit : ℕ) (ks : List ℕ) (r : Role) (e : r ≡ role_of w) where
  kept : is_class w ≡ false → ks ≡ noted w bit ks
  unfolding noted
  kept h = ap (λ (p : Bool). cond p (set ks (w - 1) (bit_or (get_or ks (w - 1) 0) bit)) ks) (sym h)

  unfixed : (eqb w fixed ≡ false) → 0 ≡ cond (eqb w fixed) bit 0
  unfixed h = ap (λ (p : Bool). cond p bit 0) (sym h)

  pub note_class : (c : ℕ) → r ≡ Minimised c → (1 ≤ c) × (c ≤ class_limit) × (set ks (c - 1) (bit_or (get_or ks (c - 1) 0) bit) ≡ noted w bit ks) × (0 ≡ cond (eqb w fixed) bit 0)
  unfolding role_of noted
  note_class c q =
      let h = picks_class (is_class w) (eqb w varying) (eqb w fixed) w c (sym e ∙ q) in
      let b = both_true (leb 1 w) (leb w class_limit) h.1 in
      let z = h.0 in
      let l = leb-true 1 w b.0 in
      let u = leb-true w class_limit b.1 in (
        omega arith,
        omega arith,
        ap (λ (i : ℕ). set ks (i - 1) (bit_or (get_or ks (i - 1) 0) bit)) z ∙ ap (λ (p : Bool). cond p (set ks (w - 1) (bit_or (get_or ks (w - 1) 0) bit)) ks) (sym h.1),
        unfixed (ne_eqb w fixed (λ f. omega arith)),
      )

  pub note_varying : r ≡ Varying → (ks ≡ noted w bit ks) × (0 ≡ cond (eqb w fixed) bit 0)
  unfolding role_of
  note_varying q =
      let h = picks_varying (is_class w) (eqb w varying) (eqb w fixed) w (sym e ∙ q) in
      let v = eqb-true w varying h.1 in
      (kept h.0, unfixed (ne_eqb w fixed (λ f. omega arith)))

  pub note_fixed : r ≡ Fixed → (ks ≡ noted w bit ks) × (bit ≡ cond (eqb w fixed) bit 0)
  unfolding role_of
  note_fixed q =
      let h = picks_fixed (is_class w) (eqb w varying) (eqb w fixed) w (sym e ∙ q) in
      (kept h.0, ap (λ (p : Bool). cond p bit 0) (sym h.1))

  pub note_other : r ≡ Unknown → (ks ≡ noted w bit ks) × (0 ≡ cond (eqb w fixed) bit 0)
  unfolding role_of
  note_other q =
      let h = picks_other (is_class w) (eqb w varying) (eqb w fixed) w (sym e ∙ q) in
      (kept h.0, unfixed h.1)

-- the atoms below i whose class word is c

abbrev below : List ℕ → ℕ → ℕ → List ℕ
below ws i c = filter (λ a. eqb (get_or ws a 0) c) (from 0 i)

from_last_lem : (s c : ℕ) → from s (suc c) ≡ from s c ++ ((s + c) ∷ [])
from_last_lem s zero = let e : s ≡ s + 0 = omega arith in ap (λ (i : ℕ). i ∷ []) e
from_last_lem s (suc c) = let e : suc s + c ≡ s + suc c = omega arith in ap (λ (l : List ℕ). s ∷ l) (from_last_lem (suc s) c ∙ ap (λ (i : ℕ). from (suc s) c ++ (i ∷ [])) e)

filter_last : (p : ℕ → Bool) (l : List ℕ) (x : ℕ) → filter p (l ++ (x ∷ [])) ≡ filter p l ++ keep (p x) x []
filter_last p [] x = refl
filter_last p (a ∷ l) x = step (p a) (filter_last p l x)
  where
    step : (b : Bool) → filter p (l ++ (x ∷ [])) ≡ filter p l ++ keep (p x) x [] → keep b a (filter p (l ++ (x ∷ []))) ≡ keep b a (filter p l) ++ keep (p x) x []
    step true e = ap (λ (t : List ℕ). a ∷ t) e
    step false e = e

mask_last_atom : (n : ℕ) (l : List ℕ) (x : ℕ) (b : Bool) → place_mask n (l ++ keep b x []) ≡ cond b (bit_or (place_mask n l) (2 ^ mirror n x)) (place_mask n l)
unfolding mask_of
mask_last_atom n [] x true = or_zero_r (2 ^ mirror n x) ∙ sym (or_zero_l (2 ^ mirror n x))
mask_last_atom n [] x false = refl
mask_last_atom n (a ∷ l) x true = ap (bit_or (2 ^ mirror n a)) (mask_last_atom n l x true) ∙ sym (or_assoc (2 ^ mirror n a) (place_mask n l) (2 ^ mirror n x))
mask_last_atom n (a ∷ l) x false = ap (bit_or (2 ^ mirror n a)) (mask_last_atom n l x false)

module _ (n : ℕ) (ws : List ℕ) (i : ℕ) where
  mask_below : (c : ℕ) → place_mask n (below ws (suc i) c) ≡ cond (eqb (get_or ws i 0) c) (bit_or (place_mask n (below ws i c)) (2 ^ mirror n i)) (place_mask n (below ws i c))
  mask_below c =
      let e : 0 + i ≡ i = omega arith in
      ap (λ (l : List ℕ). place_mask n (filter (λ a. eqb (get_or ws a 0) c) l)) (from_last_lem 0 i ∙ ap (λ (x : ℕ). from 0 i ++ (x ∷ [])) e)
      ∙ ap (place_mask n) (filter_last (λ a. eqb (get_or ws a 0) c) (from 0 i) i)
      ∙ mask_last_atom n (below ws i c) i (eqb (get_or ws i 0) c)

-- one class of many gets an atom

module _ (f g : ℕ → ℕ) (w bit : ℕ) (law : (c : ℕ) → g c ≡ cond (eqb w c) (bit_or (f c) bit) (f c)) where
  other : (c : ℕ) → (w ≡ c → ⊥) → f c ≡ g c
  other c h = sym (law c ∙ ap (λ (p : Bool). cond p (bit_or (f c) bit) (f c)) (ne_eqb w c h))

  own : bit_or (f w) bit ≡ g w
  own = sym (law w ∙ ap (λ (p : Bool). cond p (bit_or (f w) bit) (f w)) (eq-eqb w w refl))

  none_noted : (lo k : ℕ) → ((c : ℕ) → lo ≤ c → c < lo + k → w ≡ c → ⊥) → map f (from lo k) ≡ map g (from lo k)
  none_noted lo zero h = refl
  none_noted lo (suc k) h = ap₂ (λ (x : ℕ) (l : List ℕ). x ∷ l) (other lo (h lo (omega arith) (omega arith))) (none_noted (suc lo) k (λ c a b. h c (omega arith) (omega arith)))

  one_noted : (lo k : ℕ) → lo ≤ w → w < lo + k → set (map f (from lo k)) (w - lo) (bit_or (get_or (map f (from lo k)) (w - lo) 0) bit) ≡ map g (from lo k)
  one_noted lo zero l u = absurd (omega arith)
  one_noted lo (suc k) l u = step (ℕ_discrete lo w) (λ a b. one_noted (suc lo) k a b)
    where
      step : Dec (lo ≡ w) → (suc lo ≤ w → w < suc lo + k → set (map f (from (suc lo) k)) (w - suc lo) (bit_or (get_or (map f (from (suc lo) k)) (w - suc lo) 0) bit) ≡ map g (from (suc lo) k))
          → set (map f (from lo (suc k))) (w - lo) (bit_or (get_or (map f (from lo (suc k))) (w - lo) 0) bit) ≡ map g (from lo (suc k))
      step (yes e) r =
          let z : w - lo ≡ 0 = omega arith in
          ap (λ (j : ℕ). set (f lo ∷ map f (from (suc lo) k)) j (bit_or (get_or (f lo ∷ map f (from (suc lo) k)) j 0) bit)) z
          ∙ ap₂ (λ (x : ℕ) (l : List ℕ). x ∷ l) (ap (λ (c : ℕ). bit_or (f c) bit) e ∙ own ∙ ap g (sym e)) (none_noted (suc lo) k (λ c a b q. omega arith))
      step (no e) r =
          let z : w - lo ≡ suc (w - suc lo) = omega arith in
          ap (λ (j : ℕ). set (f lo ∷ map f (from (suc lo) k)) j (bit_or (get_or (f lo ∷ map f (from (suc lo) k)) j 0) bit)) z
          ∙ ap₂ (λ (x : ℕ) (l : List ℕ). x ∷ l) (other lo (λ q. e (sym q))) (r (omega arith) (omega arith))

  pub noted_classes : noted w bit (map f (from 1 class_limit)) ≡ map g (from 1 class_limit)
  unfolding noted
  noted_classes = step (is_class w) refl
    where
      step : (p : Bool) → is_class w ≡ p → cond p (set (map f (from 1 class_limit)) (w - 1) (bit_or (get_or (map f (from 1 class_limit)) (w - 1) 0) bit)) (map f (from 1 class_limit)) ≡ map g (from 1 class_limit)
      step true e = let b = both_true (leb 1 w) (leb w class_limit) e in let l = leb-true 1 w b.0 in let u = leb-true w class_limit b.1 in one_noted 1 class_limit l (omega arith)
      step false e = none_noted 1 class_limit (λ c a b q. absurd (let z : true ≡ false = sym (inside c a (omega arith) q) ∙ e in let k : ◌≡◌ {A = ℕ} 0 1 = cc in omega arith))
        where
          inside : (c : ℕ) → 1 ≤ c → c ≤ class_limit → w ≡ c → is_class w ≡ true
          inside c a b q = ap₂ (λ (x y : Bool). x && y) (le-leb 1 w (omega arith)) (le-leb w class_limit (omega arith))

-- what the loop keeps

module _ (words : List ℕ) where
  pub record Noting (ks : List ℕ) (fixed_mask i : ℕ) : Type 0 where
    pub inside : i ≤ length words
    pub classes : ks ≡ map (λ c. place_mask (length words) (below words i c)) (from 1 class_limit)
    pub fixed_is : fixed_mask ≡ place_mask (length words) (below words i fixed)

  pub notes_begin : (ks : List ℕ) → ks ≡ replicate class_limit 0 → Noting ks 0 0
  unfolding mask_of
  notes_begin ks e = record { inside = omega arith; classes = e; fixed_is = refl }

  module _ (ks : List ℕ) (x i : ℕ) (h : Noting ks x i) where
    pub notes_length : length ks ≡ class_limit
    notes_length = ap length h.classes ∙ length-map (from 1 class_limit) (λ c. place_mask (length words) (below words i c))

    pub notes_go_on : (ks' : List ℕ) (y b : ℕ) → i < length words → b ≡ 2 ^ mirror (length words) i
        → ks' ≡ noted (get_or words i 0) b ks → y ≡ cond (eqb (get_or words i 0) fixed) b 0 → Noting ks' (bit_or x y) (i + 1)
    notes_go_on ks' y b l e p q =
        let s : suc i ≡ i + 1 = omega arith in
        subst (λ (j : ℕ). Noting ks' (bit_or x y) j) s (record {
          inside = omega arith;
          classes = p ∙ ap₂ (noted (get_or words i 0)) e h.classes
              ∙ noted_classes (λ c. place_mask (length words) (below words i c)) (λ c. place_mask (length words) (below words (suc i) c)) (get_or words i 0) (2 ^ mirror (length words) i) (mask_below (length words) words i);
          fixed_is = ap₂ bit_or h.fixed_is (q ∙ ap (λ (z : ℕ). cond (eqb (get_or words i 0) fixed) z 0) e) ∙ join (eqb (get_or words i 0) fixed) ∙ sym (mask_below (length words) words i fixed);
        })
      where
        join : (p : Bool) → bit_or (place_mask (length words) (below words i fixed)) (cond p (2 ^ mirror (length words) i) 0) ≡ cond p (bit_or (place_mask (length words) (below words i fixed)) (2 ^ mirror (length words) i)) (place_mask (length words) (below words i fixed))
        join true = refl
        join false = or_zero_r (place_mask (length words) (below words i fixed))

    pub notes_end : length words ≤ i → (ks ≡ class_masks words 1 class_limit) × (x ≡ place_mask (length words) (of_class words fixed))
    notes_end l =
        let e : i ≡ length words = omega (arith, h.inside) in
        (h.classes ∙ ap (λ (j : ℕ). map (λ c. place_mask (length words) (below words j c)) (from 1 class_limit)) e, h.fixed_is ∙ ap (λ (j : ℕ). place_mask (length words) (below words j fixed)) e)
