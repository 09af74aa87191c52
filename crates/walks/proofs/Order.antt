-- The laws of the order of the walks: each set of n atoms once, earlier ones first; and of any other order, what every walk needs.
use Prim.Native.Nat.{ℕ, zero, suc, ◌+◌, ◌-◌, ◌^◌, ◌≤◌, ◌<◌}
use mathlib.Core.Path.{◌≡◌, refl, sym, ap, ap₂, ◌∙◌, subst}
use mathlib.Core.Logic.{◌↔◌, inl, inr}
use mathlib.Core.Bool.{Bool, true, false, not}
use mathlib.Core.List.{List, [], ◌∷◌, map}
use native.Mathlib.Omega.{arith}
use lib.Dec.{T, eqb, eqb→eq}
use lib.ListN.{length, get_or, drop, length-map}
use Rattle.rules.specs.Lists.{All, Any, keep, filter, from}
use Rattle.rules.specs.Sets.{ProperSubset, Agree}
use Rattle.rules.specs.Stable.{is_subset}
use Rattle.kinds.specs.Limits.{fixed}
use Rattle.rules.specs.Preferred.{OfClass, of_class, are_agreeing}
use Rattle.rules.proofs.Booleans.{eq_to_eqb, T_and, T-and-l, T-and-r, T-not-in, T-not-out}
use Rattle.rules.specs.Renumbering.{Bijection}
use Rattle.rules.proofs.Lists.{all_from, from_all, any_from, all_imp, all_any, any_imp, any_filter, all_filter, filter_all, all_map, map_all, any_map, distinct_map, map_from_at, length_from, distinct_from}
use Rattle.rules.proofs.Stable.{subset_law, proper_lt}
use Rattle.rules.proofs.Preferred.{agree_law}
use Rattle.places.specs.Places.{Earlier, place, set_at}
use Rattle.places.proofs.Places.{by_place, in_places}
use Rattle.walks.specs.Order.{walk_order}
use Rattle.walks.specs.FullWalk.{agreeing, is_proper, proper_subsets}
use Rattle.walks.specs.Meanings.{EachSetOnce, Ordered, First}

drop_map : (f : ℕ → ℕ) (k : ℕ) (l : List ℕ) → drop k (map f l) ≡ map f (drop k l)
drop_map f zero l = refl
drop_map f (suc k) [] = refl
drop_map f (suc k) (x ∷ l) = drop_map f k l

drop_from : (a s c : ℕ) → drop a (from s c) ≡ from (s + a) (c - a)
drop_from zero s c = let e : s ≡ s + 0 = omega arith in let f : c ≡ c - 0 = omega arith in ap₂ from e f
drop_from (suc a) s zero = let f : 0 ≡ 0 - suc a = omega arith in ap (from (s + suc a)) f
drop_from (suc a) s (suc c) = let e : suc s + a ≡ s + suc a = omega arith in let f : c - a ≡ suc c - suc a = omega arith in drop_from a (suc s) c ∙ ap₂ from e f

-- what holds of all entries holds of all sets of n atoms
abbrev pub AllSets : ℕ → List ℕ → Type 1
AllSets n l = (P : ℕ → Type 0) → All P l ↔ ((s : ℕ) → s < 2 ^ n → P s)

-- the sets of n atoms in any order: `at` has the set at each place, `place` the place of each set
module _ (n : ℕ) (at place : ℕ → ℕ) (b : Bijection (2 ^ n) at place) where
  abbrev pub sets_by : List ℕ
  sets_by = map at (from 0 (2 ^ n))

  pub all_sets : AllSets n sets_by
  all_sets P = (
    λ h s l. subst P (b.back_there s l) (from_all (λ p. P (at p)) 0 (2 ^ n) (map_all P at (from 0 (2 ^ n)) h) (place s) (omega arith) (omega (arith, b.back s l))),
    λ h. all_map P at (from 0 (2 ^ n)) (all_from (λ p. P (at p)) 0 (2 ^ n) (λ p l u. h (at p) (b.there p (omega arith)))),
  )

  pub sets_once : EachSetOnce n sets_by
  sets_once = record {
    once = distinct_map at (λ p. p < 2 ^ n) (λ p q l k e. sym (b.there_back p l) ∙ ap place e ∙ b.there_back q k) (from 0 (2 ^ n)) (all_from (λ p. p < 2 ^ n) 0 (2 ^ n) (λ p l u. omega arith)) (distinct_from 0 (2 ^ n));
    only = (all_sets (λ s. s < 2 ^ n)).1 (λ s l. l);
    each = λ s l. any_map (λ x. x ≡ s) at (from 0 (2 ^ n)) (any_from (λ p. at p ≡ s) 0 (2 ^ n) (place s) (omega arith) (omega (arith, b.back s l)) (b.back_there s l));
  }

  pub sets_from : (start : ℕ) → drop start sets_by ≡ map at (from start (2 ^ n - start))
  sets_from start =
      let e : 0 + start ≡ start = omega arith in
      drop_map at start (from 0 (2 ^ n)) ∙ ap (map at) (drop_from start 0 (2 ^ n) ∙ ap (λ (s : ℕ). from s (2 ^ n - start)) e)

-- by rising place

pub all_walk_order : (n : ℕ) → AllSets n (walk_order n)
unfolding walk_order
all_walk_order n = all_sets n (set_at n) (place n) (by_place n)

pub ordered : (n : ℕ) → Ordered n (walk_order n)
unfolding walk_order
ordered n = record {
  each_once = sets_once n (set_at n) (place n) (by_place n);
  earlier_first = λ i j l h. ((in_places n).order (get_or (walk_order n) i 0) (get_or (walk_order n) j 0)).0 (
      let k : j < 2 ^ n = omega (arith, h, length-map (from 0 (2 ^ n)) (set_at n), length_from 0 (2 ^ n)) in
      omega (arith, l, at_place i (omega arith), at_place j k));
}
  where
    at_place : (i : ℕ) → i < 2 ^ n → place n (get_or (map (set_at n) (from 0 (2 ^ n))) i 0) ≡ i
    at_place i l = let e : 0 + i ≡ i = omega arith in ap (place n) (map_from_at (set_at n) 0 0 (2 ^ n) i l ∙ ap (set_at n) e) ∙ (by_place n).there_back i l

-- places rise along the order of the walks, and along what a test keeps of it

abbrev Rising : ℕ → List ℕ → Type 0
Rising n [] = Unit {0}
Rising n (x ∷ l) = All (λ y. place n x < place n y) l × Rising n l

rising_from : (n a c : ℕ) → a + c ≤ 2 ^ n → Rising n (map (set_at n) (from a c))
rising_from n a zero h = tt
rising_from n a (suc c) h = (
  all_map (λ y. place n (set_at n a) < place n y) (set_at n) (from (suc a) c) (all_from (λ p. place n (set_at n a) < place n (set_at n p)) (suc a) c (λ p l u.
      let x = (by_place n).there_back a (omega arith) in let y = (by_place n).there_back p (omega arith) in omega arith)),
  rising_from n (suc a) c (omega arith),
)

rising_kept : (n : ℕ) (p : ℕ → Bool) (l : List ℕ) → Rising n l → Rising n (filter p l)
rising_kept n p [] h = tt
rising_kept n p (x ∷ l) h = step (p x) (rising_kept n p l h.1)
  where
    step : (b : Bool) → Rising n (filter p l) → Rising n (keep b x (filter p l))
    step true r = (all_filter (λ y. place n x < place n y) p l (all_imp (λ y. place n x < place n y) (λ y. T (p y) → place n x < place n y) (λ y k t. k) l h.0), r)
    step false r = r

-- where places rise, none before the first is earlier and P
first_earliest : (P : ℕ → Type 0) (n : ℕ) (l : List ℕ) (s k : ℕ) → Rising n l → First 0 P l s k → (t : ℕ) → Any (λ x. x ≡ t) l → place n t < place n s → P t → ⊥
first_earliest P n [] s k r f t h l p = h
first_earliest P n (x ∷ l) s zero r f t (inl e) u p = let z : place n x ≡ place n s = ap (place n) f.place in let y : place n x ≡ place n t = ap (place n) e in omega arith
first_earliest P n (x ∷ l) s zero r f t (inr h) u p =
    let q = all_any (λ y. place n x < place n y) (λ y. y ≡ t) l r.0 h in
    let z : place n x ≡ place n s = ap (place n) f.place in
    let y : place n q.0 ≡ place n t = ap (place n) q.2 in
    let v = q.1 in
    omega arith
first_earliest P n (x ∷ l) s (suc k) r f t (inl e) u p = f.earlier.0 (subst P (sym e) p)
first_earliest P n (x ∷ l) s (suc k) r f t (inr h) u p = first_earliest P n l s k r.1 (record { inside = let i = f.inside in omega arith; place = f.place; here = f.here; earlier = f.earlier.1 }) t h u p

-- so of what a test keeps of all sets
pub earliest_kept : (P : ℕ → Type 0) (n : ℕ) (p : ℕ → Bool) (s k : ℕ) → First 0 P (filter p (walk_order n)) s k → (t : ℕ) → t < 2 ^ n → T (p t) → Earlier n t s → P t → ⊥
unfolding walk_order
earliest_kept P n p s k f t l keeps e =
    first_earliest P n (filter p (walk_order n)) s k (rising_kept n p (walk_order n) (rising_from n 0 (2 ^ n) (omega arith))) f t
    (any_filter (λ x. x ≡ t) p (walk_order n) (any_imp (λ x. x ≡ t) (λ x. T (p x) × (x ≡ t)) (λ x q. (subst (λ (y : ℕ). T (p y)) (sym q) keeps, q)) (walk_order n) ((ordered n).each_once.each t l)))
    (((in_places n).order t s).1 e)

-- what stands in the walks

pub all_agreeing : (ws : List ℕ) (m : ℕ) (sets : List ℕ) → AllSets (length ws) sets → (P : ℕ → Type 0) → All P (agreeing ws m sets) ↔ ((s : ℕ) → s < 2 ^ length ws → Agree (OfClass ws fixed) s m → P s)
all_agreeing ws m sets all P =
    let agrees : ℕ → Bool = λ s. are_agreeing (of_class ws fixed) s m in
    let order = all (λ s. T (agrees s) → P s) in (
      λ h s l a. order.0 (filter_all P agrees sets h) s l ((agree_law ws s m fixed).1 a),
      λ h. all_filter P agrees sets (order.1 (λ s l t. h s l ((agree_law ws s m fixed).0 t))),
    )

pub proper_law : (s m : ℕ) → T (is_proper s m) ↔ ProperSubset s m
proper_law s m = (
  λ t. record { subset = (subset_law s m).0 (T-and-l (is_subset s m) (not (eqb s m)) t); differs = λ e. T-not-out (eqb s m) (T-and-r (is_subset s m) (not (eqb s m)) t) (eq_to_eqb s m e) },
  λ p. T_and (is_subset s m) (not (eqb s m)) ((subset_law s m).1 p.subset) (T-not-in (eqb s m) (λ t. p.differs (eqb→eq s m t))),
)

module _ (n m : ℕ) (inside : m < 2 ^ n) where
  pub all_proper : (sets : List ℕ) → AllSets n sets → (P : ℕ → Type 0) → All P (proper_subsets m sets) ↔ ((s : ℕ) → ProperSubset s m → P s)
  all_proper sets all P =
      let proper : ℕ → Bool = λ s. is_proper s m in
      let order = all (λ s. T (proper s) → P s) in (
        λ h s p. order.0 (filter_all P proper sets h) s (omega (arith, proper_lt s m p)) ((proper_law s m).1 p),
        λ h. all_filter P proper sets (order.1 (λ s l t. h s ((proper_law s m).0 t))),
      )
