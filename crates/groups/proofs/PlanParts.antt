-- The parts of a plan, read and written.
use Prim.Native.Nat.{ℕ, zero, suc, ◌+◌, ◌-◌, ◌≤◌, ◌<◌}
use mathlib.Core.Path.{◌≡◌, refl, sym, ap, ◌∙◌, subst}
use mathlib.Core.List.{List, [], ◌∷◌, ◌++◌}
use native.Mathlib.Omega.{arith}
use lib.ListN.{length, get_or, set, take, drop, length-drop, replicate, length-replicate, get_or-replicate}
use lib.Seq.{length-take-le, get_or-take, get_or-drop, drop-set-add, drop-set-lt, take-set-lt, take-set-le, drop-drop, take-take, take_at, drop_at, ext_get_or}
use borrow.Rule.Slice.PartMut.{post_of, put_mid, take_put, drop_put}
use Rattle.kinds.specs.Limits.{class_limit}
use Rattle.masks.specs.Masks.{union_of}
use Rattle.groups.specs.Groups.{root_group, Bounded, Paired}
use Rattle.groups.specs.Plans.{part, classes_from, minimised_from, starts_from, starts_in, classes_in, minimised_in, SameTables, HasTables}

module _ (a n : ℕ) (p : List ℕ) where
  pub part_at : (i : ℕ) → i < n → get_or (part a n p) i 0 ≡ get_or p (a + i) 0
  unfolding part
  part_at i h = get_or-take n (drop a p) i 0 h ∙ get_or-drop a p i 0

  pub part_length : a + n ≤ length p → length (part a n p) ≡ n
  unfolding part
  part_length h = length-take-le n (drop a p) (omega (arith, length-drop a p))

  module _ (i x : ℕ) where
    pub part_set : i < n → part a n (set p (a + i) x) ≡ set (part a n p) i x
    unfolding part
    part_set h = ap (take n) (drop-set-add a p i x) ∙ take-set-lt n (drop a p) i x h

    pub part_set_before : i < a → part a n (set p i x) ≡ part a n p
    unfolding part
    part_set_before h = ap (take n) (drop-set-lt a p i x h)

    pub part_set_after : a + n ≤ i → part a n (set p i x) ≡ part a n p
    unfolding part
    part_set_after h =
        let e : i ≡ a + (i - a) = omega arith in
        ap (λ (k : ℕ). take n (drop a (set p k x))) e ∙ ap (take n) (drop-set-add a p (i - a) x) ∙ take-set-le n (drop a p) (i - a) x (omega arith)

-- plans that are the same from a word on, or up to it, have the same parts there

pub drop_later : (e a : ℕ) (p q : List ℕ) → e ≤ a → drop e p ≡ drop e q → drop a p ≡ drop a q
drop_later e a p q h same =
    let k : a ≡ e + (a - e) = omega arith in
    let cut : (l : List ℕ) → drop a l ≡ drop (a - e) (drop e l) = λ l. ap (λ (j : ℕ). drop j l) k ∙ sym (drop-drop (a - e) e l) in
    cut p ∙ ap (drop (a - e)) same ∙ sym (cut q)

part_later : (e a n : ℕ) (p q : List ℕ) → e ≤ a → drop e p ≡ drop e q → part a n p ≡ part a n q
unfolding part
part_later e a n p q h same = ap (take n) (drop_later e a p q h same)

part_of_front : (e a n : ℕ) (l : List ℕ) → a + n ≤ e → take n (drop a (take e l)) ≡ take n (drop a l)
part_of_front e zero n l h = take-take n e l (omega arith)
part_of_front zero (suc a) n l h = absurd (omega arith)
part_of_front (suc e) (suc a) n [] h = refl
part_of_front (suc e) (suc a) n (x ∷ l) h = part_of_front e a n l (omega arith)

part_earlier : (e a n : ℕ) (p q : List ℕ) → a + n ≤ e → take e p ≡ take e q → part a n p ≡ part a n q
unfolding part
part_earlier e a n p q h same = sym (part_of_front e a n p h) ∙ ap (λ (l : List ℕ). take n (drop a l)) same ∙ part_of_front e a n q h

pub tables_part : (a n : ℕ) (p q : List ℕ) → starts_from ≤ a → SameTables p q → part a n p ≡ part a n q
tables_part a n p q h same = part_later starts_from a n p q h same

pub has_tables : (p q : List ℕ) → length q ≡ length p → SameTables q p → HasTables p → HasTables q
has_tables p q long same has =
    let starts : starts_in p ≡ starts_in q = sym (tables_part starts_from (root_group + 2) q p (omega arith) same) in
    let minimised : minimised_in q ≡ minimised_in p = sym (get_or-drop starts_from q (minimised_from - starts_from) 0) ∙ ap (λ (l : List ℕ). get_or l (minimised_from - starts_from) 0) same ∙ get_or-drop starts_from p (minimised_from - starts_from) 0 in
    let classes : classes_in p ≡ classes_in q = sym (tables_part classes_from class_limit q p (omega arith) same) in
    record { words = long ∙ has.words; united = minimised ∙ has.united ∙ ap union_of classes; bounded = subst Bounded starts has.bounded; paired = subst Paired starts has.paired }

-- words put in the place of those from a up to e
module _ (a e : ℕ) (p ys : List ℕ) (h : a ≤ e) (inside : e ≤ length p) (long : length ys ≡ e - a) where
  pub part_put : part a (e - a) (put_mid a (e - a) p ys) ≡ ys
  unfolding part
  part_put = ap (take (e - a)) (drop_at (take a p) (ys ++ post_of a (e - a) p) a (length-take-le a p (omega arith))) ∙ take_at ys (post_of a (e - a) p) (e - a) long

  pub part_put_before : (b n : ℕ) → b + n ≤ a → part b n (put_mid a (e - a) p ys) ≡ part b n p
  part_put_before b n l = part_earlier a b n (put_mid a (e - a) p ys) p l (take_put a (e - a) p ys (omega arith))

  pub part_put_after : (b n : ℕ) → e ≤ b → part b n (put_mid a (e - a) p ys) ≡ part b n p
  part_put_after b n l = part_later e b n (put_mid a (e - a) p ys) p l (drop_put a e p ys h inside long)

-- words that are all 0

pub zeros_length : (n : ℕ) (p : List ℕ) → p ≡ replicate n 0 → length p ≡ n
zeros_length n p e = ap length e ∙ length-replicate n 0

pub zeros_part : (n a k : ℕ) (p : List ℕ) → p ≡ replicate n 0 → a + k ≤ n → part a k p ≡ replicate k 0
zeros_part n a k p e h =
    let long = zeros_length n p e in
    let few : length (part a k p) ≡ k = part_length a k p (omega arith) in
    ext_get_or 0 (part a k p) (replicate k 0) (few ∙ sym (length-replicate k 0))
    (λ i l.
    let b : i < k = omega arith in
    part_at a k p i b ∙ ap (λ (x : List ℕ). get_or x (a + i) 0) e ∙ get_or-replicate n (a + i) 0 0 (omega arith) ∙ sym (get_or-replicate k i 0 0 b))
