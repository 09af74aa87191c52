-- What the loops over masks keep.
use Prim.Native.Nat.{ℕ, suc, ◌+◌, ◌*◌, ◌%◌, ◌^◌, ◌≤◌, ◌<◌, max}
use mathlib.Core.Path.{◌≡◌, sym, ap, ap₂, ◌∙◌, subst}
use mathlib.Core.Bool.{Bool, false, not, cond}
use mathlib.Core.List.{List, []}
use native.Mathlib.Nat.{mod-eq_of_lt, one-mul}
use native.Mathlib.Numerals.{add-one}
use native.Mathlib.Omega.{arith}
use lib.Dec.{eqb}
use lib.Pow.{pow-lt, pow_pos}
use lib.Bits.{bit_and, bit_or, or_zero_l, or_zero_r}
use lib.ListN.{length, get_or, drop, drop_of_length-le}
use lib.Seq.{drop-cons}
use borrow.Author.Tests.{ne_eqb, eq-eqb}
use Rattle.rules.specs.Lists.{All}
use Rattle.rules.proofs.Lists.{all_at}
use Rattle.rules.specs.Rules.{count_if}
use Rattle.places.specs.Places.{mirror}
use Rattle.masks.specs.Masks.{mask_of, place_mask, first_m, agree_m, within_m, spares_m}
use Rattle.masks.proofs.Bits.{bit, bit_or_lem, ext}

-- 1 << n in a u64
pub shifted : (n : ℕ) → n ≤ 60 → (1 * 2 ^ n) % 2 ^ 64 ≡ 2 ^ n
shifted n h = ap (λ (x : ℕ). x % 2 ^ 64) (one-mul (2 ^ n)) ∙ mod-eq_of_lt (pow-lt {i = n} {j = 64} (omega arith))

pub shl_pos : (n : ℕ) → n ≤ 60 → 1 ≤ (1 * 2 ^ n) % 2 ^ 64
shl_pos n h = rw (shifted n h) (pow_pos n)

-- the mask of a list, one atom further

pub or_assoc : (a b c : ℕ) → bit_or (bit_or a b) c ≡ bit_or a (bit_or b c)
or_assoc a b c = ext _ _ (λ i.
    bit_or_lem (bit_or a b) c i ∙ ap (λ (z : ℕ). max z (bit c i)) (bit_or_lem a b i) ∙ max_assoc (bit a i) (bit b i) (bit c i)
    ∙ sym (bit_or_lem a (bit_or b c) i ∙ ap (λ (z : ℕ). max (bit a i) z) (bit_or_lem b c i)))
  where
    max_assoc : (x y z : ℕ) → max (max x y) z ≡ max x (max y z)
    max_assoc x y z = omega arith

module _ (n : ℕ) (xs : List ℕ) where
  pub atom_below : All (λ a. a < n) xs → (i x : ℕ) → i < length xs → x ≡ get_or xs i 0 → x < n
  atom_below h i x l e = subst (λ (y : ℕ). y < n) (sym e) (all_at (λ a. a < n) 0 xs h i l)

  pub mask_first : place_mask n xs ≡ bit_or 0 (place_mask n xs)
  mask_first = sym (or_zero_l (place_mask n xs))

  pub mask_more : (m i b : ℕ) → i < length xs → b ≡ 2 ^ mirror n (get_or xs i 0) → place_mask n xs ≡ bit_or m (place_mask n (drop i xs)) → place_mask n xs ≡ bit_or (bit_or m b) (place_mask n (drop (i + 1) xs))
  unfolding mask_of
  mask_more m i b h q e =
      e ∙ ap (λ (l : List ℕ). bit_or m (place_mask n l)) (drop-cons xs i 0 h)
      ∙ sym (or_assoc m (2 ^ mirror n (get_or xs i 0)) (place_mask n (drop (suc i) xs)))
      ∙ ap₂ (λ (z k : ℕ). bit_or (bit_or m z) (place_mask n (drop k xs))) (sym q) (sym (add-one i))

  pub mask_last : (m i : ℕ) → length xs ≤ i → place_mask n xs ≡ bit_or m (place_mask n (drop i xs)) → m ≡ place_mask n xs
  unfolding mask_of
  mask_last m i h e = sym (e ∙ ap (λ (l : List ℕ). bit_or m (place_mask n l)) (drop_of_length-le xs h) ∙ or_zero_r m)

-- the first broken rule, one rule further

module _ (s : ℕ) (cs ws : List ℕ) (e : length ws ≡ length cs) where
  first_cons : (i : ℕ) → i < length cs → first_m s (drop i cs) (drop i ws) ≡ count_if (not (eqb (bit_and s (get_or cs i 0)) (get_or ws i 0))) (first_m s (drop (suc i) cs) (drop (suc i) ws))
  unfolding first_m
  first_cons i h = let k : i < length ws = omega arith in rw (drop-cons cs i 0 h, drop-cons ws i 0 k)

  pub first_none : (i : ℕ) → i ≤ length cs → length cs ≤ i → first_m s cs ws ≡ i + first_m s (drop i cs) (drop i ws) → length cs ≡ first_m s cs ws
  unfolding first_m
  first_none i l g q =
      let r : first_m s cs ws ≡ i + first_m s [] (drop i ws) = rw (drop_of_length-le cs g) at q in
      omega arith

  pub first_found_lem : (i : ℕ) → i < length cs → first_m s cs ws ≡ i + first_m s (drop i cs) (drop i ws) → bit_and s (get_or cs i 0) ≡ get_or ws i 0 → i ≡ first_m s cs ws
  first_found_lem i h q f =
      let g : first_m s (drop i cs) (drop i ws) ≡ 0 = first_cons i h ∙ ap (λ (t : Bool). count_if (not t) (first_m s (drop (suc i) cs) (drop (suc i) ws))) (eq-eqb _ _ f) in
      omega arith

  pub first_more : (i : ℕ) → i < length cs → first_m s cs ws ≡ i + first_m s (drop i cs) (drop i ws) → (bit_and s (get_or cs i 0) ≡ get_or ws i 0 → ⊥)
      → first_m s cs ws ≡ (i + 1) + first_m s (drop (i + 1) cs) (drop (i + 1) ws)
  first_more i h q f =
      rw (add-one i)
      (let g : first_m s (drop i cs) (drop i ws) ≡ suc (first_m s (drop (suc i) cs) (drop (suc i) ws)) = first_cons i h ∙ ap (λ (t : Bool). count_if (not t) (first_m s (drop (suc i) cs) (drop (suc i) ws))) (ne_eqb _ _ f) in
      omega arith)

-- the first class on which two sets differ, one class further

module _ (m s : ℕ) (ks : List ℕ) where
  spares_cons : (i : ℕ) → i < length ks → spares_m m s (drop i ks) ≡ cond (agree_m m s (get_or ks i 0)) (spares_m m s (drop (suc i) ks)) (within_m m s (get_or ks i 0))
  unfolding spares_m
  spares_cons i h = rw (drop-cons ks i 0 h)

  pub spares_none : (i : ℕ) → length ks ≤ i → spares_m m s ks ≡ spares_m m s (drop i ks) → false ≡ spares_m m s ks
  unfolding spares_m
  spares_none i g e = sym (e ∙ ap (spares_m m s) (drop_of_length-le ks g))

  pub spares_found : (i : ℕ) → i < length ks → spares_m m s ks ≡ spares_m m s (drop i ks)
      → (bit_and s (get_or ks i 0) ≡ bit_and m (get_or ks i 0) → ⊥)
      → eqb (bit_and (bit_and s (get_or ks i 0)) m) (bit_and s (get_or ks i 0)) ≡ spares_m m s ks
  unfolding agree_m within_m
  spares_found i h e f =
      sym (e ∙ spares_cons i h ∙ ap (λ (t : Bool). cond t (spares_m m s (drop (suc i) ks)) (within_m m s (get_or ks i 0))) (ne_eqb _ _ f))

  pub spares_more : (i : ℕ) → i < length ks → spares_m m s ks ≡ spares_m m s (drop i ks)
      → bit_and s (get_or ks i 0) ≡ bit_and m (get_or ks i 0)
      → spares_m m s ks ≡ spares_m m s (drop (i + 1) ks)
  unfolding agree_m within_m
  spares_more i h e f =
      rw (add-one i)
      (e ∙ spares_cons i h ∙ ap (λ (t : Bool). cond t (spares_m m s (drop (suc i) ks)) (within_m m s (get_or ks i 0))) (eq-eqb _ _ f))
