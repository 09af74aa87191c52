-- What the loop over the rules of a group keeps, and what the code reads of the masks.
use Prim.Native.Nat.{ℕ, suc, ◌+◌, ◌-◌, ◌*◌, ◌%◌, ◌^◌, ◌≤◌, ◌<◌}
use mathlib.Core.Path.{◌≡◌, refl, sym, ap, ap₂, ◌∙◌, subst}
use mathlib.Core.Bool.{Bool, true, false, not, cond, ◌||◌}
use mathlib.Core.List.{List}
use native.Mathlib.Nat.{pow-suc}
use native.Mathlib.Omega.{arith}
use lib.Dec.{eqb}
use lib.Pow.{pow_mono}
use lib.Bits.{bit_and, bit_xor}
use lib.ListN.{length, get_or, drop}
use Rattle.kinds.specs.Limits.{walk_atoms, class_limit}
use Rattle.rules.specs.Lists.{some, from}
use Rattle.rules.specs.Sets.{has}
use Rattle.masks.specs.Masks.{spares_m}
use Rattle.masks.proofs.MaskBits.{bit_test}
use Rattle.masks.proofs.MaskLoops.{shifted, spares_none, spares_found, spares_more}
use Rattle.masks.proofs.Unions.{union_agrees}
use Rattle.groups.specs.Groups.{group_at, root_group, broken_at, broken_from, broken_in, place_limit, Bounded, Paired}
use Rattle.groups.specs.Plans.{classes_from, starts_from, care_from, want_from, plan_words, classes_in, minimised_in, starts_in, care_in, want_in, HasTables}
use Rattle.groups.proofs.PlanParts.{part_at, part_length}
use Rattle.descent.specs.Descent.{Found, Nothing, units_of, found_mark, Told}
use Rattle.descent.specs.Search.{may_be, better}
use Rattle.descent.proofs.Told.{told_nothing, told_found}

-- a rule's masks and a class, read from the plan
module _ (p : List ℕ) (i : ℕ) where
  pub rule_planned : (s : ℕ) → i < place_limit → eqb (bit_and s (get_or p (care_from + i) 0)) (get_or p (want_from + i) 0) ≡ broken_at (care_in p) (want_in p) s i
  rule_planned s h = ap₂ (λ (x y : ℕ). eqb (bit_and s x) y) (sym (part_at care_from place_limit p i h)) (sym (part_at want_from place_limit p i h))

module _ (p : List ℕ) (m s i : ℕ) (whole : length p ≡ plan_words) (e : spares_m m s (classes_in p) ≡ spares_m m s (drop i (classes_in p))) where
  class_room : length (classes_in p) ≡ class_limit
  class_room = part_length classes_from class_limit p (omega arith)

  module _ (h : i < class_limit) where
    class_at : get_or (classes_in p) i 0 ≡ get_or p (classes_from + i) 0
    class_at = part_at classes_from class_limit p i h

    pub class_found : (bit_and s (get_or p (classes_from + i) 0) ≡ bit_and m (get_or p (classes_from + i) 0) → ⊥) → eqb (bit_and (bit_and s (get_or p (classes_from + i) 0)) m) (bit_and s (get_or p (classes_from + i) 0)) ≡ spares_m m s (classes_in p)
    class_found = subst (λ (c : ℕ). (bit_and s c ≡ bit_and m c → ⊥) → eqb (bit_and (bit_and s c) m) (bit_and s c) ≡ spares_m m s (classes_in p)) class_at (spares_found m s (classes_in p) i (omega (arith, class_room)) e)

    pub class_more : bit_and s (get_or p (classes_from + i) 0) ≡ bit_and m (get_or p (classes_from + i) 0) → spares_m m s (classes_in p) ≡ spares_m m s (drop (i + 1) (classes_in p))
    class_more = subst (λ (c : ℕ). bit_and s c ≡ bit_and m c → spares_m m s (classes_in p) ≡ spares_m m s (drop (i + 1) (classes_in p))) class_at (spares_more m s (classes_in p) i (omega (arith, class_room)) e)

  pub class_none : class_limit ≤ i → false ≡ spares_m m s (classes_in p)
  class_none h = spares_none m s (classes_in p) i (omega (arith, class_room)) e

pub classes_agree : (p : List ℕ) (m s : ℕ) → HasTables p → bit_and (bit_xor s m) (minimised_in p) ≡ 0 → false ≡ spares_m m s (classes_in p)
classes_agree p m s tables e = union_agrees m s (classes_in p) (ap (bit_and (bit_xor s m)) (sym tables.united) ∙ e)

module _ (cs ws : List ℕ) (s a b : ℕ) where
  broken_cons : (i : ℕ) → i < b → broken_from cs ws s i b ≡ (broken_at cs ws s i || broken_from cs ws s (suc i) b)
  unfolding broken_from
  broken_cons i h = let e : b - i ≡ suc (b - suc i) = omega arith in ap (λ (k : ℕ). some (broken_at cs ws s) (from i k)) e

  -- two rules are tested at a time: between even places there is never one alone
  module _ (i : ℕ) (e : broken_from cs ws s a b ≡ broken_from cs ws s i b) where
    module _ (h : i < b) (begins : i % 2 ≡ 0) (ends : b % 2 ≡ 0) {p q : Bool} (first : p ≡ broken_at cs ws s i) (second : q ≡ broken_at cs ws s (i + 1)) where
      broken_two : broken_from cs ws s a b ≡ (p || (q || broken_from cs ws s (i + 2) b))
      broken_two =
          let one : i + 1 ≡ suc i = omega arith in
          let two : suc (i + 1) ≡ i + 2 = omega arith in
          e ∙ broken_cons i h
          ∙ ap (λ (k : ℕ). broken_at cs ws s i || broken_from cs ws s k b) (sym one)
          ∙ ap (λ (t : Bool). broken_at cs ws s i || t) (broken_cons (i + 1) (omega arith))
          ∙ (λ j. sym first j || (sym second j || broken_from cs ws s (two j) b))

      pub broken_found : (p || q) ≡ true → true ≡ broken_from cs ws s a b
      broken_found t = sym (broken_two ∙ either p q t)
        where
          either : (p q : Bool) → (p || q) ≡ true → (p || (q || broken_from cs ws s (i + 2) b)) ≡ true
          either true q t = refl
          either false true t = refl
          either false false t = absurd (let z : ◌≡◌ {A = ℕ} 0 1 = cc in omega arith)

      pub broken_more : (p || q) ≡ false → broken_from cs ws s a b ≡ broken_from cs ws s (i + 2) b
      broken_more t = broken_two ∙ neither p q t
        where
          neither : (p q : Bool) → (p || q) ≡ false → (p || (q || broken_from cs ws s (i + 2) b)) ≡ broken_from cs ws s (i + 2) b
          neither true q t = absurd (let z : ◌≡◌ {A = ℕ} 0 1 = cc in omega arith)
          neither false true t = absurd (let z : ◌≡◌ {A = ℕ} 0 1 = cc in omega arith)
          neither false false t = refl

    pub broken_none : b ≤ i → false ≡ broken_from cs ws s a b
    unfolding broken_from
    broken_none h = sym (e ∙ (let z : b - i ≡ 0 = omega arith in ap (λ (k : ℕ). some (broken_at cs ws s) (from i k)) z))

-- the group of a value, read from the plan
module _ (p : List ℕ) (k : ℕ) (h : k < walk_atoms) where
  abbrev ss : List ℕ
  ss = starts_in p

  start_at : (i j : ℕ) → i ≤ 2 → starts_from + 2 * k + i ≡ j → get_or p j 0 ≡ get_or ss (2 * k + i) 0
  start_at i j l e =
      let z : j ≡ starts_from + (2 * k + i) = omega arith in
      ap (λ (x : ℕ). get_or p x 0) z ∙ sym (part_at starts_from (root_group + 2) p (2 * k + i) (omega arith))

  pub start_fits : Bounded ss → (i j : ℕ) → i ≤ 2 → starts_from + 2 * k + i ≡ j → get_or p j 0 ≤ place_limit
  start_fits b i j l e = omega (arith, b (2 * k + i), start_at i j l e)

  pub start_even : Paired ss → (i j : ℕ) → i ≤ 2 → starts_from + 2 * k + i ≡ j → get_or p j 0 % 2 ≡ 0
  start_even b i j l e = ap (λ (x : ℕ). x % 2) (start_at i j l e) ∙ b (2 * k + i)

  pub group_in : (s : ℕ) {r : Bool} (v : Bool) → v ≡ true → r ≡ broken_from (care_in p) (want_in p) s (get_or p (starts_from + 2 * k + 1) 0) (get_or p (starts_from + 2 * k + 2) 0) → r ≡ broken_in (care_in p) (want_in p) ss (group_at k v) s
  unfolding broken_in
  group_in s v e q =
      q ∙ ap₂ (λ (x y : ℕ). broken_from (care_in p) (want_in p) s x y) (start_at 1 _ (omega arith) refl) (start_at 2 _ (omega arith) refl ∙ (let z : 2 * k + 2 ≡ 2 * k + 1 + 1 = omega arith in ap (λ (j : ℕ). get_or ss j 0) z))
      ∙ ap (λ (b : Bool). broken_in (care_in p) (want_in p) ss (group_at k b) s) (sym e)

  pub group_out : (s : ℕ) {r : Bool} (v : Bool) → v ≡ false → r ≡ broken_from (care_in p) (want_in p) s (get_or p (starts_from + 2 * k) 0) (get_or p (starts_from + 2 * k + 1) 0) → r ≡ broken_in (care_in p) (want_in p) ss (group_at k v) s
  unfolding broken_in
  group_out s v e q =
      q ∙ ap₂ (λ (x y : ℕ). broken_from (care_in p) (want_in p) s x y) (start_at 0 _ (omega arith) (omega arith)) (start_at 1 _ (omega arith) refl ∙ (let z : 2 * k + 1 ≡ 2 * k + 0 + 1 = omega arith in ap (λ (j : ℕ). get_or ss j 0) z))
      ∙ ap (λ (b : Bool). broken_in (care_in p) (want_in p) ss (group_at k b) s) (sym e)

-- the atoms that may have a value
bit_told : (x k : ℕ) → k < 60 → not (eqb (bit_and x ((1 * 2 ^ k) % 2 ^ 64)) 0) ≡ has x k
bit_told x k h = ap (λ (b : ℕ). not (eqb (bit_and x b) 0)) (shifted k (omega arith)) ∙ ap not (bit_test x k) ∙ twice (has x k)
  where
    twice : (b : Bool) → not (not b) ≡ b
    twice true = refl
    twice false = refl

module _ (outs ins k : ℕ) (h : k < 60) where
  pub may_in_lem : {one : ℕ} → one ≡ 1 → (v : Bool) → v ≡ true → not (eqb (bit_and ins ((one * 2 ^ k) % 2 ^ 64)) 0) ≡ has (may_be outs ins v) k
  may_in_lem o v e = ap (λ (x : ℕ). not (eqb (bit_and ins ((x * 2 ^ k) % 2 ^ 64)) 0)) o ∙ bit_told ins k h ∙ ap (λ (b : Bool). has (may_be outs ins b) k) (sym e)

  pub may_out_lem : (v : Bool) → v ≡ false → not (eqb (bit_and outs ((1 * 2 ^ k) % 2 ^ 64)) 0) ≡ has (may_be outs ins v) k
  may_out_lem v e = bit_told outs k h ∙ ap (λ (b : Bool). has (may_be outs ins b) k) (sym e)

-- a final choice
module _ (ks : List ℕ) (of s u b f : ℕ) where
  pub better_found : b < found_mark → spares_m of s ks ≡ true → Told b (better ks of s u) f (found_mark + u) s
  unfolding better
  better_found h e = rw e (told_found b s u f h)

  pub better_not : u < found_mark → spares_m of s ks ≡ false → Told b (better ks of s u) f u f
  unfolding better
  better_not h e = rw e (told_nothing b u f h)

-- the room for the atoms left
module _ (left s : ℕ) (some_left : 0 < left) (few : left ≤ 60) (room : s + 2 ^ left ≤ 2 ^ 60) where
  pub one_less : left ≡ suc (left - 1)
  one_less = omega arith

  halves : 2 ^ left ≡ 2 ^ (left - 1) + 2 ^ (left - 1)
  halves = ap (λ (k : ℕ). 2 ^ k) one_less ∙ pow-suc 2 (left - 1) ∙ (omega arith)

  pub bit_is : {one : ℕ} → one ≡ 1 → (one * 2 ^ (left - 1)) % 2 ^ 64 ≡ 2 ^ (left - 1)
  bit_is o = ap (λ (x : ℕ). (x * 2 ^ (left - 1)) % 2 ^ 64) o ∙ shifted (left - 1) (omega arith)

  pub room_out : s + 2 ^ (left - 1) ≤ 2 ^ 60
  room_out = omega (arith, halves)

  pub room_in : {one : ℕ} → one ≡ 1 → s + (one * 2 ^ (left - 1)) % 2 ^ 64 + 2 ^ (left - 1) ≤ 2 ^ 60
  room_in o = omega (arith, halves, bit_is o)

pub room_whole : (n : ℕ) → n ≤ 60 → 0 + 2 ^ n ≤ 2 ^ 60
room_whole n h = omega (arith, pow_mono {i = n} {j = 60} h)

-- a final choice takes no units back
pub better_rises : (ks : List ℕ) (of s u : ℕ) → u ≤ units_of (better ks of s u)
unfolding better
better_rises ks of s u = step (spares_m of s ks)
  where
    step : (b : Bool) → u ≤ units_of (cond b (Found s u) (Nothing u))
    step true = omega arith
    step false = omega arith
