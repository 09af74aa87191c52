-- The classes as masks.
use Prim.Native.Nat.{ℕ, zero, suc, ◌+◌, ◌-◌, ◌≤◌, ◌<◌}
use mathlib.Core.Path.{◌≡◌, refl, sym, ap, ap₂, ◌∙◌, subst}
use mathlib.Core.Logic.{◌↔◌}
use mathlib.Core.Bool.{Bool, true, false, not, cond, ◌&&◌, ◌||◌}
use mathlib.Core.List.{List, [], map}
use native.Mathlib.Omega.{arith}
use lib.Dec.{T, eqb, eqb→eq}
use lib.ListN.{length, get_or}
use Rattle.kinds.specs.Limits.{class_limit}
use Rattle.rules.specs.Lists.{All, every, filter, from}
use Rattle.rules.specs.Sets.{has}
use Rattle.rules.specs.Preferred.{of_class, is_same, are_agreeing, is_within, is_sparing}
use Rattle.rules.proofs.Booleans.{bool_ext, T-imp, T-imp-out}
use Rattle.rules.specs.Renumbering.{SameAtoms}
use Rattle.rules.proofs.Lists.{all_imp, all_at}
use Rattle.rules.proofs.MappedLists.{every_map}
use Rattle.rules.proofs.Preferred.{all_of_class}
use Rattle.places.specs.Places.{mirror}
use Rattle.stores.specs.Program.{role_of, RoleForm}
use Rattle.stores.proofs.ClassWord.{minimised}
use Rattle.masks.specs.Masks.{mask_of, place_mask, class_masks, agree_m, within_m, spares_m}
use Rattle.walks.proofs.Filters.{none_left}
use Rattle.masks.proofs.MaskBits.{every_mask, agrees, part_of}

same_is : (a b : Bool) → T (is_same a b) ↔ (a ≡ b)
same_is true true = (λ h. refl, λ e. tt)
same_is true false = (λ h. absurd h, λ e. subst T e tt)
same_is false true = (λ h. absurd h, λ e. subst T (sym e) tt)
same_is false false = (λ h. refl, λ e. tt)

agree_mask : (xs : List ℕ) (s m : ℕ) → are_agreeing xs s m ≡ agree_m m s (mask_of xs)
unfolding agree_m
agree_mask xs s m =
    let q = every_mask (λ a. is_same (has s a) (has m a)) xs in
    let r = agrees s m (mask_of xs) in
    bool_ext (are_agreeing xs s m) _ (λ h. r.1 (λ i t. (same_is (has s i) (has m i)).0 (q.0 h i t))) (λ h. q.1 (λ i t. (same_is (has s i) (has m i)).1 (r.0 h i t)))

within_mask : (xs : List ℕ) (s m : ℕ) → is_within xs s m ≡ within_m m s (mask_of xs)
unfolding within_m
within_mask xs s m =
    let q = every_mask (λ a. not (has s a) || has m a) xs in
    let r = part_of s m (mask_of xs) in
    bool_ext (is_within xs s m) _ (λ h. r.1 (λ i t. T-imp-out (has s i) (has m i) (q.0 h i t))) (λ h. q.1 (λ i t. T-imp (has s i) (has m i) (r.0 h i t)))

pub class_below : (ws : List ℕ) (w : ℕ) → All (λ a. a < length ws) (of_class ws w)
class_below ws w = (all_of_class ws w (λ a. a < length ws)).1 (λ a c. c.0)

-- s and m at their places p and q
module _ (n s m p q : ℕ) (same_s : SameAtoms (mirror n) n s p) (same-m : SameAtoms (mirror n) n m q) where
  moved : (t : Bool → Bool → Bool) (xs : List ℕ) → All (λ a. a < n) xs → every (λ a. t (has s a) (has m a)) xs ≡ every (λ a. t (has p a) (has q a)) (map (mirror n) xs)
  moved t xs h = sym (every_map (mirror n) (λ a. t (has p a) (has q a)) (λ a. t (has s a) (has m a)) xs (all_imp (λ a. a < n) _ (λ a l. ap₂ t (same_s a l) (same-m a l)) xs h))

  pub agree_at : (xs : List ℕ) → All (λ a. a < n) xs → are_agreeing xs s m ≡ agree_m q p (place_mask n xs)
  agree_at xs h = moved is_same xs h ∙ agree_mask (map (mirror n) xs) p q

  within_at : (xs : List ℕ) → All (λ a. a < n) xs → is_within xs s m ≡ within_m q p (place_mask n xs)
  within_at xs h = moved (λ x y. not x || y) xs h ∙ within_mask (map (mirror n) xs) p q

module _ (ws : List ℕ) (s m p q : ℕ) (same_s : SameAtoms (mirror (length ws)) (length ws) s p) (same-m : SameAtoms (mirror (length ws)) (length ws) m q) where
  spares_mask : (i k : ℕ) → is_sparing ws (from i k) s m ≡ spares_m q p (class_masks ws i k)
  unfolding spares_m
  spares_mask i zero = refl
  spares_mask i (suc k) =
      flat (is_within (of_class ws i) s m) (are_agreeing (of_class ws i) s m) (is_sparing ws (from (suc i) k) s m)
      (within_at (length ws) s m p q same_s same-m (of_class ws i) (class_below ws i)) (agree_at (length ws) s m p q same_s same-m (of_class ws i) (class_below ws i)) (spares_mask (suc i) k)
    where
      flat : (p q r : Bool) {p' q' r' : Bool} → p ≡ p' → q ≡ q' → r ≡ r' → ((p && not q) || (q && r)) ≡ cond q' r' p'
      flat p q r {p'} {q'} {r'} e f g = by p q r ∙ rw (e, f, g)
        where
          by : (p q r : Bool) → ((p && not q) || (q && r)) ≡ cond q r p
          by true true r = refl
          by true false r = refl
          by false true r = refl
          by false false r = refl

  -- classes without atoms are passed over
  none_spares : (i k : ℕ) → ((c : ℕ) → i ≤ c → c < i + k → of_class ws c ≡ []) → is_sparing ws (from i k) s m ≡ false
  none_spares i zero h = refl
  none_spares i (suc k) h =
      ap (λ (l : List ℕ). (is_within l s m && not (are_agreeing l s m)) || (are_agreeing l s m && is_sparing ws (from (suc i) k) s m)) (h i (omega arith) (omega arith))
      ∙ none_spares (suc i) k (λ c a b. h c (omega arith) (omega arith))

  fewer : (i k j : ℕ) → ((c : ℕ) → i + k ≤ c → c < i + k + j → of_class ws c ≡ []) → is_sparing ws (from i (k + j)) s m ≡ is_sparing ws (from i k) s m
  fewer i zero j h =
      let e : 0 + j ≡ j = omega arith in
      ap (λ (n : ℕ). is_sparing ws (from i n) s m) e ∙ none_spares i j (λ c a b. h c (omega arith) (omega arith))
  fewer i (suc k) j h =
      let e : suc k + j ≡ suc (k + j) = omega arith in
      ap (λ (n : ℕ). is_sparing ws (from i n) s m) e
      ∙ ap (λ (p : Bool). (is_within (of_class ws i) s m && not (are_agreeing (of_class ws i) s m)) || (are_agreeing (of_class ws i) s m && p)) (fewer (suc i) k j (λ c a b. h c (omega arith) (omega arith)))

  pub spares_first : (k : ℕ) → k ≤ class_limit → ((c : ℕ) → k < c → c ≤ class_limit → of_class ws c ≡ []) → is_sparing ws (from 1 class_limit) s m ≡ spares_m q p (class_masks ws 1 k)
  spares_first k l h =
      let e : class_limit ≡ k + (class_limit - k) = omega arith in
      ap (λ (n : ℕ). is_sparing ws (from 1 n) s m) e ∙ fewer 1 k (class_limit - k) (λ c a b. h c (omega arith) (omega arith)) ∙ spares_mask 1 k

-- no word names a class above k

pub no_class : (ws : List ℕ) (k c : ℕ) → All (λ w. RoleForm k (role_of w)) ws → k < c → c ≤ class_limit → of_class ws c ≡ []
no_class ws k c h l u =
    let e : length ws ≡ length ws - 0 = omega arith in
    ap (λ (n : ℕ). filter (λ a. eqb (get_or ws a 0) c) (from 0 n)) e ∙ none_left (λ a. eqb (get_or ws a 0) c) (length ws) 0 (λ a q b t. other a b (eqb→eq (get_or ws a 0) c t))
  where
    other : (a : ℕ) → a < length ws → get_or ws a 0 ≡ c → ⊥
    other a b e =
        let f : RoleForm k (role_of c) = subst (λ (w : ℕ). RoleForm k (role_of w)) e (all_at (λ w. RoleForm k (role_of w)) 0 ws h a b) in
        let g : c ≤ k = subst (RoleForm k) (sym (minimised c (omega arith) u)) f in
        omega arith
