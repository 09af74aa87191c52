-- A program over any atoms, numbered from 0 in declared order, and the same program over the numbers: stable sets go over.
use Prim.Native.Nat.{ℕ, ◌^◌, ◌<◌}
use native.Mathlib.Omega.{arith}
use mathlib.Core.Path.{◌≡◌, sym, ap}
use mathlib.Core.List.{List, map}
use mathlib.Core.Bool.{Bool}
use lib.ListN.{length}
use Rattle.rules.specs.Lists.{All, Any, from}
use Rattle.rules.specs.Sets.{has, In, Out, Subset}
use Rattle.rules.specs.Rules.{Rule, rename}
use Rattle.rules.specs.Renumbering.{Within}
use Rattle.rules.specs.Stable.{Stable}
use Rattle.rules.proofs.Booleans.{T_of, bool_ext}
use Rattle.rules.proofs.Lists.{all_imp, all_zip, any_zip, all_map, map_all, any_map, map_any}
use Rattle.rules.proofs.Sets.{same_set, has_below}
use Rattle.rules.proofs.Rules.{Asks, model_asks, asks_model, reduct_asks, asks_reduct}
use Rattle.rules.proofs.Stable.{proper_lt}
use Rattle.rules.proofs.ListLaws.{all_each}
use Rattle.pairing.proofs.NumberedSets.{to_numbers, set_of, set_lt, set_has}

module _ {A : Type 0} (x y : A → Bool) where
  abbrev Equal : A → Type 0
  Equal c = x c ≡ y c

  in_congr : (l : List A) → All Equal l → All (In x) l → All (In y) l
  in_congr l e h = all_zip Equal (In x) (In y) (λ c g k. T_of g k) l e h

  any_congr : (l : List A) → All Equal l → Any (In x) l → Any (In y) l
  any_congr l e h = any_zip Equal (In x) (In y) (λ c g k. T_of g k) l e h

  pub turn : (l : List A) → All Equal l → All (λ c. y c ≡ x c) l
  turn l e = all_imp Equal (λ c. y c ≡ x c) (λ c q. sym q) l e

module _ {A : Type 0} (m x y : A → Bool) where
  asks_congr : (r : Rule A) → Within (λ c. x c ≡ y c) r → Asks m x r → Asks m y r
  asks_congr r e h n b = any_congr x y r.head e.head (h n (in_congr y x r.body (turn x y r.body e.body) b))

module _ {A : Type 0} (atoms : List A) (rs : List (Rule A)) where
  -- t is stable: a model of which no part that lacks an atom is a model of the reduct
  pub record StableOver (t : A → Bool) : Type 0 where
    pub model : All (Asks t t) rs
    pub minimal : (x : A → Bool) → All (λ c. In x c → In t c) atoms → (All (λ c. In t c → In x c) atoms → ⊥) → All (Asks t x) rs → ⊥

  -- the rules name declared atoms only
  abbrev pub Closed : Type 1
  Closed = (Q : A → Type 0) → All Q atoms → All (Within Q) rs

  module _ (closed : Closed) (num : A → ℕ) (d : A) (order : map num atoms ≡ from 0 (length atoms)) where
    abbrev at : (ℕ → Bool) → A → Bool
    at m c = m (num c)

    -- the rules over numbers and over atoms ask the same
    up : (m x : ℕ → Bool) → All (Asks m x) (map (rename num) rs) → All (Asks (at m) (at x)) rs
    up m x h = all_imp (λ r. Asks m x (rename num r)) (Asks (at m) (at x))
        (λ r f n b. map_any (In x) num r.head (f (all_map (Out m) num r.nots n) (all_map (In x) num r.body b))) rs (map_all (Asks m x) (rename num) rs h)

    down : (m x : ℕ → Bool) → All (Asks (at m) (at x)) rs → All (Asks m x) (map (rename num) rs)
    down m x h = all_map (Asks m x) (rename num) rs (all_imp (Asks (at m) (at x)) (λ r. Asks m x (rename num r))
        (λ r f n b. any_map (In x) num r.head (f (map_all (Out m) num r.nots n) (map_all (In x) num r.body b))) rs h)

    pub stable_up : (t : ℕ) → Stable (map (rename num) rs) t → StableOver (at (has t))
    stable_up t st = record {
      model = up (has t) (has t) (model_asks (map (rename num) rs) (has t) st.model);
      minimal = λ x sub strict asks.
          let y : ℕ = set_of num d atoms order x in
          let same = set_has num d atoms order x in
          let smaller : Subset y t = λ i h. to_numbers num d atoms order (λ i. In (has y) i → In (has t) i)
          (all_zip (λ c. at (has y) c ≡ x c) (λ c. In x c → In (at (has t)) c) (λ c. In (at (has y)) c → In (at (has t)) c) (λ c g k h. k (T_of g h)) atoms same sub)
          i (has_below (length atoms) y i (set_lt num d atoms order x) h) h in
          st.minimal y (record {
            subset = smaller;
            differs = λ e. strict (all_imp (λ c. at (has y) c ≡ x c) (λ c. In (at (has t)) c → In x c) (λ c q h. T_of q (T_of (ap (λ (z : ℕ). has z (num c)) (sym e)) h)) atoms same);
          })
          (asks_reduct (map (rename num) rs) (has t) (has y) (down (has t) (has y)
          (all_zip (Within (λ c. x c ≡ at (has y) c)) (Asks (at (has t)) x) (Asks (at (has t)) (at (has y))) (λ r g k. asks_congr (at (has t)) x (at (has y)) r g k) rs (closed (λ c. x c ≡ at (has y) c) (turn (at (has y)) x atoms same)) asks)));
    }

    -- two sets of the numbered atoms with the same members are one
    pub same : (x y : ℕ) → x < 2 ^ length atoms → y < 2 ^ length atoms → All (λ c. has x (num c) ≡ has y (num c)) atoms → x ≡ y
    same x y lx ly h = same_set (length atoms) x y lx ly (to_numbers num d atoms order (λ i. has x i ≡ has y i) h)

    pub stable_down : (t : ℕ) → t < 2 ^ length atoms → StableOver (at (has t)) → Stable (map (rename num) rs) t
    stable_down t l st = record {
      model = asks_model (map (rename num) rs) (has t) (down (has t) (has t) st.model);
      minimal = λ y q md. st.minimal (at (has y)) (all_each (λ c. In (at (has y)) c → In (at (has t)) c) (λ c. q.subset (num c)) atoms)
          (λ back. q.differs (same y t (omega (arith, proper_lt y t q)) l (all_imp (λ c. In (at (has t)) c → In (at (has y)) c) (λ c. has y (num c) ≡ has t (num c)) (λ c k. bool_ext (has y (num c)) (has t (num c)) (q.subset (num c)) k) atoms back)))
          (up (has t) (has y) (reduct_asks (map (rename num) rs) (has t) (has y) md));
    }
