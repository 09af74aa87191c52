-- Of n numbers those that pass a test, and k others that all pass put behind the first q: the list of all that pass, and their places in it.
use Prim.Native.Nat.{ℕ, ◌+◌, ◌-◌, ◌≤◌, ◌<◌}
use native.Mathlib.Omega.{arith}
use native.Mathlib.Decide.{dec_lt}
use mathlib.Core.Path.{◌≡◌, sym, ap, ap₂, subst, ◌∙◌}
use mathlib.Core.List.{List, ◌++◌, map, map-map, map-append, append_assoc}
use mathlib.Core.Bool.{Bool}
use lib.Dec.{T}
use lib.ListN.{length, get_or, take, drop, length-append, length-map}
use lib.Seq.{length-take-le, take_at, drop_at}
use Rattle.rules.specs.Lists.{All, filter, from}
use Rattle.rules.proofs.Booleans.{T_of}
use Rattle.rules.proofs.Lists.{all_imp, all_filter, all_from, length_from, from_append}
use Rattle.rules.proofs.ListLaws.{shifted, map_same, map_eq, map_itself}
use Rattle.rules.proofs.ListLaws.{entries as following}
use Rattle.rules.proofs.MappedLists.{filter_map}
use Rattle.rules.proofs.Filtered.{filter_app, filter_every, filter_same}
use Rattle.restriction.specs.Atoms.{place_in, entries}
use Rattle.restriction.proofs.Places.{member_filter, at_place, filter_place}
use Rattle.conditions.specs.Conditions.{planner}
use Rattle.conditions.specs.Numbers.{place, inserted}
use Rattle.conditions.proofs.Placed.{place_low, place_high, inserted_planner}

-- following numbers in two parts
from_parts : (q n : ℕ) → q ≤ n → from 0 n ≡ from 0 q ++ from q (n - q)
from_parts q n l =
    let e : n ≡ q + (n - q) = omega arith in
    let z : 0 + q ≡ q = omega arith in
    ap (from 0) e ∙ (sym (from_append 0 q (n - q)) ∙ ap (λ (b : ℕ). from 0 q ++ from b (n - q)) z)

pub filter_two : (t : ℕ → Bool) (q n : ℕ) → q ≤ n → filter t (from 0 n) ≡ filter t (from 0 q) ++ filter t (from q (n - q))
filter_two t q n l = ap (filter t) (from_parts q n l) ∙ filter_app t (from 0 q) (from q (n - q))

-- the entries that pass lie where they are looked for
pub filter_within : (t : ℕ → Bool) (s c : ℕ) → All (λ a. (s ≤ a) × (a < s + c)) (filter t (from s c))
filter_within t s c = all_filter _ t (from s c) (all_from _ s c (λ a l u h. (l, u)))

module _ (t u : ℕ → Bool) (q k n : ℕ) (fits : q ≤ n)
    (low : (a : ℕ) → a < q → u a ≡ t a) (among : (i : ℕ) → q ≤ i → i < q + k → T (u i)) (high : (a : ℕ) → q ≤ a → a < n → u (k + a) ≡ t a) where
  abbrev xs : List ℕ
  xs = filter t (from 0 n)

  abbrev ys : List ℕ
  ys = filter u (from 0 (n + k))

  abbrev first : List ℕ
  first = filter t (from 0 q)

  -- those below the k others, among them, and past them

  low_part : (a : ℕ) → a ≤ q → filter u (from 0 a) ≡ filter t (from 0 a)
  low_part a l = filter_same u t (from 0 a) (all_from (λ b. u b ≡ t b) 0 a (λ b m h. low b (omega arith)))

  among_part : (j : ℕ) → j ≤ k → filter u (from 0 (q + j)) ≡ first ++ from q j
  among_part j l =
      let e : q + j - q ≡ j = omega arith in
      filter_two u q (q + j) (omega arith)
      ∙ ap₂ (λ (x y : List ℕ). x ++ y) (low_part q (omega arith)) (ap (λ (c : ℕ). filter u (from q c)) e ∙ filter_every u (from q j) (all_from (λ i. T (u i)) q j (λ i m h. among i m (omega arith))))

  high_part : (e : ℕ) → q ≤ e → e ≤ n → filter u (from 0 (e + k)) ≡ (first ++ from q k) ++ map (λ (a : ℕ). k + a) (filter t (from q (e - q)))
  high_part e l m =
      let c : e + k - (q + k) ≡ e - q = omega arith in
      let s : q + k ≡ k + q = omega arith in
      filter_two u (q + k) (e + k) (omega arith)
      ∙ ap₂ (λ (x y : List ℕ). x ++ y) (among_part k (omega arith))
      (ap₂ (λ (b d : ℕ). filter u (from b d)) s c ∙ (ap (filter u) (sym (shifted k q (e - q))) ∙ (filter_map (λ (a : ℕ). k + a) u (from q (e - q))
      ∙ ap (map (λ (a : ℕ). k + a)) (filter_same (λ a. u (k + a)) t (from q (e - q)) (all_from (λ a. u (k + a) ≡ t a) q (e - q) (λ a i h. high a i (omega arith)))))))

  abbrev at : ℕ → ℕ
  at a = place q k (planner a)

  pub between_list : ys ≡ map at first ++ (from q k ++ map at (filter t (from q (n - q))))
  between_list =
      high_part n fits (omega arith)
      ∙ (append_assoc first (from q k) (map (λ (a : ℕ). k + a) (filter t (from q (n - q))))
      ∙ ap₂ (λ (x y : List ℕ). x ++ (from q k ++ y))
      (sym (map_itself at first (all_imp (λ a. (0 ≤ a) × (a < 0 + q)) (λ a. at a ≡ a) (λ a h. place_low q k a (omega (arith, h.1))) first (filter_within t 0 q))))
      (map_same (λ (a : ℕ). k + a) at (filter t (from q (n - q))) (all_imp (λ a. (q ≤ a) × (a < q + (n - q))) (λ a. k + a ≡ at a) (λ a h. let e : k + a ≡ a + k = omega arith in e ∙ sym (place_high q k a h.0)) (filter t (from q (n - q))) (filter_within t q (n - q)))))

  pub between_length : length ys ≡ length xs + k
  between_length = omega (
    arith,
    ap length (high_part n fits (omega arith)),
    length-append (first ++ from q k) (map (λ (a : ℕ). k + a) (filter t (from q (n - q)))),
    length-append first (from q k),
    length_from q k,
    length-map (filter t (from q (n - q))) (λ (a : ℕ). k + a),
    ap length (filter_two t q n fits),
    length-append first (filter t (from q (n - q))),
  )

  -- what a list with k others between has for those that pass
  pub between_entries : {A : Type 0} (d : A) (l others : List A) → length l ≡ n → length others ≡ k → entries d (inserted q others l) ys ≡ inserted (length first) others (entries d l xs)
  between_entries {A} d l others size many =
      let L : List A = inserted q others l in
      let get : ℕ → A = λ a. get_or L a d in
      let old : ℕ → A = λ a. get_or l a d in
      let second = filter t (from q (n - q)) in
      let long : q ≤ length l = omega arith in
      let planners : (r : List ℕ) → map get (map at r) ≡ map old r = λ r. map-map get at r ∙ map_eq (λ a. get (at a)) old (inserted_planner q k d l others long many) r in
      let made_ones : map get (from q k) ≡ others = subst (λ (s : ℕ). map get (from s k) ≡ others) (length-take-le q l long)
      (following d (others ++ drop q l) (take q l) k (omega (arith, length-append others (drop q l))) ∙ take_at others (drop q l) k many) in
      let parts : map old xs ≡ map old first ++ map old second = ap (map old) (filter_two t q n fits) ∙ map-append old first second in
      ap (map get) between_list
      ∙ (map-append get (map at first) (from q k ++ map at second)
      ∙ (ap₂ (λ (x y : List A). x ++ y) (planners first) (map-append get (from q k) (map at second) ∙ ap₂ (λ (x y : List A). x ++ y) made_ones (planners second))
      ∙ sym (ap₂ (λ (x y : List A). x ++ (others ++ y))
      (ap (take (length first)) parts ∙ take_at (map old first) (map old second) (length first) (length-map first old))
      (ap (drop (length first)) parts ∙ drop_at (map old first) (map old second) (length first) (length-map first old)))))

  -- places

  pub among_place : (j : ℕ) → j < k → place_in ys (q + j) ≡ length first + j
  among_place j l =
      filter_place u (n + k) (q + j) (omega arith) (among (q + j) (omega arith) (omega arith))
      ∙ (ap length (among_part j (omega arith)) ∙ (length-append first (from q j) ∙ ap (λ (c : ℕ). length first + c) (length_from q j)))

  pub planner_place : (a : ℕ) → a < n → T (t a) → place_in ys (at a) ≡ place (length first) k (planner (place_in xs a))
  planner_place a l h = step (dec_lt a q)
    where
      count : place_in xs a ≡ length (filter t (from 0 a))
      count = filter_place t n a l h

      step : Dec (a < q) → place_in ys (at a) ≡ place (length first) k (planner (place_in xs a))
      step (yes m) =
          let stands : place_in first a < length first = (at_place first a ((member_filter t q a).1 (m, h))).0 in
          let below : place_in first a ≡ length (filter t (from 0 a)) = filter_place t q a m h in
          ap (place_in ys) (place_low q k a m)
          ∙ (filter_place u (n + k) a (omega arith) (T_of (sym (low a m)) h)
          ∙ (ap length (low_part a (omega arith)) ∙ (sym count ∙ sym (place_low (length first) k (place_in xs a) (omega (arith, count, below, stands))))))
      step (no m) =
          let more = filter t (from q (a - q)) in
          let e : k + a ≡ a + k = omega arith in
          let c : length (filter u (from 0 (a + k))) ≡ place_in xs a + k = omega (
            arith,
            count,
            ap length (high_part a (omega arith) (omega arith)),
            length-append (first ++ from q k) (map (λ (b : ℕ). k + b) more),
            length-append first (from q k),
            length_from q k,
            length-map more (λ (b : ℕ). k + b),
            ap length (filter_two t q a (omega arith)),
            length-append first more,
          ) in
          ap (place_in ys) (place_high q k a (omega arith))
          ∙ (filter_place u (n + k) (a + k) (omega arith) (T_of (sym (high a (omega arith) l) ∙ ap u e) h)
          ∙ (c ∙ sym (place_high (length first) k (place_in xs a) (omega (arith, count, ap length (filter_two t q a (omega arith)), length-append first more)))))
