-- Places rise from earlier to later sets, and every place below 2^n belongs to one set.
use Prim.Native.Nat.{ℕ, zero, suc, ◌+◌, ◌*◌, ◌/◌, ◌^◌, ◌≤◌, ◌<◌}
use mathlib.Core.Path.{◌≡◌, refl, sym, ap, ap₂, ◌∙◌}
use mathlib.Core.Logic.{◌↔◌}
use mathlib.Core.Bool.{Bool, true, false, cond}
use mathlib.Core.List.{◌++◌}
use native.Mathlib.Omega.{arith}
use native.Mathlib.Nat.{pow-suc}
use native.Mathlib.Decide.{dec_lt}
use lib.Dec.{T}
use Rattle.rules.specs.Lists.{sum, from}
use Rattle.rules.specs.Sets.{has, In, Out}
use Rattle.rules.specs.Renumbering.{Bijection, SameAtoms}
use Rattle.rules.proofs.Booleans.{T_of}
use Rattle.rules.proofs.Lists.{all_from, sum_app, sum_eq, sum_twice, from_append}
use Rattle.rules.proofs.MappedLists.{sum_map, from_suc}
use Rattle.rules.proofs.Sets.{has_suc, same_set, digit, first_digit, later_digits}
use Rattle.places.specs.Places.{Earlier, mirror, place, set_at, InPlaces}

pub place_zero : (x : ℕ) → place 0 x ≡ 0
unfolding place
place_zero x = refl

-- what the atoms of x weigh, one by one
abbrev weights : ℕ → ℕ → ℕ → ℕ
weights n x i = cond (has x i) (2 ^ mirror n i) 0

pub place_suc : (n x : ℕ) → place (suc n) x ≡ cond (has x 0) (2 ^ n) 0 + place n (x / 2)
unfolding place
place_suc n x =
    let z : mirror (suc n) 0 ≡ n = omega arith in
    ap₂ (λ (a b : ℕ). a + b) (ap (λ (e : ℕ). cond (has x 0) (2 ^ e) 0) z)
    (ap (sum (weights (suc n) x)) (from_suc 0 n) ∙ sum_map (weights (suc n) x) suc (from 0 n)
    ∙ sum_eq (λ i. weights (suc n) x (suc i)) (weights n (x / 2)) (from 0 n) (all_from (λ i. weights (suc n) x (suc i) ≡ weights n (x / 2) i) 0 n (λ i l u.
    let q : mirror (suc n) (suc i) ≡ mirror n i = omega arith in
    ap₂ (λ (b : Bool) (e : ℕ). cond b (2 ^ e) 0) (has_suc x i) q)))

weight_le : (b : Bool) (w : ℕ) → cond b w 0 ≤ w
weight_le true w = omega arith
weight_le false w = omega arith

pub place_lt : (n x : ℕ) → place n x < 2 ^ n
place_lt zero x = omega (arith, place_zero x)
place_lt (suc n) x = omega (arith, place_suc n x, weight_le (has x 0) (2 ^ n), place_lt n (x / 2), pow-suc 2 n)

-- the first atom out, or in
place_out : (n x : ℕ) → has x 0 ≡ false → place (suc n) x ≡ place n (x / 2)
place_out n x e = place_suc n x ∙ ap (λ (b : Bool). cond b (2 ^ n) 0 + place n (x / 2)) e ∙ (omega arith)

place_in : (n x : ℕ) → has x 0 ≡ true → place (suc n) x ≡ 2 ^ n + place n (x / 2)
place_in n x e = place_suc n x ∙ ap (λ (b : Bool). cond b (2 ^ n) 0 + place n (x / 2)) e

-- the order

earlier_suc : (n x y : ℕ) → has x 0 ≡ has y 0 → Earlier n (x / 2) (y / 2) → Earlier (suc n) x y
earlier_suc n x y e h = record {
  atom = suc h.atom;
  inside = let l = h.inside in omega arith;
  lacks = λ t. h.lacks (T_of (has_suc x h.atom) t);
  holds = T_of (sym (has_suc y h.atom)) h.holds;
  before = go;
}
  where
    go : (i : ℕ) → i < suc h.atom → has x i ≡ has y i
    go zero l = e
    go (suc i) l = has_suc x i ∙ h.before i (omega arith) ∙ sym (has_suc y i)

pub place_earlier : (n x y : ℕ) → place n x < place n y → Earlier n x y
place_earlier zero x y l = absurd (omega (arith, place_zero x, place_zero y))
place_earlier (suc n) x y l = step (has x 0) (has y 0) refl refl (place_earlier n (x / 2) (y / 2))
  where
    step : (p q : Bool) → has x 0 ≡ p → has y 0 ≡ q → (place n (x / 2) < place n (y / 2) → Earlier n (x / 2) (y / 2)) → Earlier (suc n) x y
    step true true e f r = earlier_suc n x y (e ∙ sym f) (r (omega (arith, place_in n x e, place_in n y f)))
    step true false e f r = absurd (omega (arith, place_in n x e, place_out n y f, place_lt n (y / 2)))
    step false true e f r = record { atom = 0; inside = omega arith; lacks = λ t. T_of e t; holds = T_of (sym f) tt; before = λ i k. absurd (omega arith) }
    step false false e f r = earlier_suc n x y (e ∙ sym f) (r (omega (arith, place_out n x e, place_out n y f)))

pub earlier_place : (n x y : ℕ) → Earlier n x y → place n x < place n y
earlier_place zero x y h = absurd (let l = h.inside in omega arith)
earlier_place (suc n) x y h = go h.atom h.inside h.lacks h.holds h.before (earlier_place n (x / 2) (y / 2))
  where
    same : (p : Bool) → has x 0 ≡ p → has y 0 ≡ p → place n (x / 2) < place n (y / 2) → place (suc n) x < place (suc n) y
    same true e f l = omega (arith, place_in n x e, place_in n y f)
    same false e f l = omega (arith, place_out n x e, place_out n y f)

    first : (p q : Bool) → has x 0 ≡ p → has y 0 ≡ q → (T p → ⊥) → T q → place (suc n) x < place (suc n) y
    first true q e f o t = absurd (o tt)
    first false true e f o t = omega (arith, place_out n x e, place_in n y f, place_lt n (x / 2))
    first false false e f o t = absurd t

    go : (a : ℕ) → a < suc n → Out (has x) a → In (has y) a → ((i : ℕ) → i < a → has x i ≡ has y i) → (Earlier n (x / 2) (y / 2) → place n (x / 2) < place n (y / 2)) → place (suc n) x < place (suc n) y
    go zero l o t b r = first (has x 0) (has y 0) refl refl o t
    go (suc a) l o t b r = same (has y 0) (b 0 (omega arith)) refl (r (record {
      atom = a;
      inside = omega arith;
      lacks = λ k. o (T_of (sym (has_suc x a)) k);
      holds = T_of (has_suc y a) t;
      before = λ i k. sym (has_suc x i) ∙ b (suc i) (omega arith) ∙ has_suc y i;
    }))

pub order_law : (n x y : ℕ) → place n x < place n y ↔ Earlier n x y
order_law n x y = (place_earlier n x y, earlier_place n x y)

-- the members of a place

weight : (b : Bool) (w v : ℕ) → w ≡ v * 2 → cond b w 0 ≡ cond b v 0 * 2
weight true w v e = e
weight false w v e = refl

bit_weight : (b : Bool) → cond b 1 0 ≡ digit b
bit_weight true = refl
bit_weight false = refl

-- the last atom weighs 1, and makes the others weigh twice as much
pub place_last : (n x : ℕ) → place (suc n) x ≡ digit (has x n) + 2 * place n x
unfolding place
place_last n x =
    let e : suc n ≡ n + 1 = omega arith in
    let w : 0 + n ≡ n = omega arith in
    let z : mirror (suc n) n ≡ 0 = omega arith in
    let last : weights (suc n) x n ≡ digit (has x n) = ap (λ (k : ℕ). cond (has x n) (2 ^ k) 0) z ∙ bit_weight (has x n) in
    let others : sum (weights (suc n) x) (from 0 n) ≡ 2 * sum (weights n x) (from 0 n) =
    sum_eq (weights (suc n) x) (λ i. weights n x i * 2) (from 0 n) (all_from (λ i. weights (suc n) x i ≡ weights n x i * 2) 0 n (λ i l u. weight (has x i) (2 ^ mirror (suc n) i) (2 ^ mirror n i) (
    let q : mirror (suc n) i ≡ suc (mirror n i) = omega arith in
    ap (λ (k : ℕ). 2 ^ k) q ∙ pow-suc 2 (mirror n i))))
    ∙ sum_twice (weights n x) (from 0 n) in
    ap (λ (c : ℕ). sum (weights (suc n) x) (from 0 c)) e
    ∙ ap (sum (weights (suc n) x)) (sym (from_append 0 n 1))
    ∙ ap (λ (m : ℕ). sum (weights (suc n) x) (from 0 n ++ from m 1)) w
    ∙ sum_app (weights (suc n) x) (from 0 n) (from n 1)
    ∙ (omega arith)

-- an atom of a set stands mirrored in its place
pub place_atoms : (n x : ℕ) → SameAtoms (mirror n) n x (place n x)
place_atoms zero x a l = absurd (omega arith)
place_atoms (suc n) x a l = step (dec_lt a n) (place_atoms n x)
  where
    step : Dec (a < n) → SameAtoms (mirror n) n x (place n x) → has (place (suc n) x) (mirror (suc n) a) ≡ has x a
    step (yes k) r =
        let e : mirror (suc n) a ≡ suc (mirror n a) = omega arith in
        ap₂ has (place_last n x) e ∙ later_digits (has x n) (place n x) (mirror n a) ∙ r a k
    step (no k) r =
        let e : mirror (suc n) a ≡ 0 = omega arith in
        let q : n ≡ a = omega arith in
        ap₂ has (place_last n x) e ∙ first_digit (has x n) (place n x) ∙ ap (has x) q

pub set_atoms : (n p : ℕ) → SameAtoms (mirror n) n (set_at n p) p
set_atoms n p a l =
    let m : mirror n a < n = omega arith in
    let e : mirror n (mirror n a) ≡ a = omega arith in
    sym (place_atoms n p (mirror n a) m) ∙ ap (has (place n p)) e

-- turned twice is as it was
pub turned_twice : (n p : ℕ) → p < 2 ^ n → place n (place n p) ≡ p
turned_twice n p l = same_set n (place n (place n p)) p (place_lt n (place n p)) l (λ a h. sym (set_atoms n (place n p) a h) ∙ place_atoms n p a h)

pub by_place : (n : ℕ) → Bijection (2 ^ n) (set_at n) (place n)
by_place n = record { there = λ p l. place_lt n p; back = λ x l. place_lt n x; there_back = turned_twice n; back_there = turned_twice n }

pub in_places : (n : ℕ) → InPlaces n
in_places n = record {
  order = order_law n;
  inside = place_lt n;
  one_set = λ p l. (set_at n p, place_lt n p, turned_twice n p l, λ t h e. sym (turned_twice n t h) ∙ ap (set_at n) e);
}
