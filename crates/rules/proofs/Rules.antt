-- The tests of rules and models are their definitions; the first broken rule; what the reduct asks.
use Prim.Native.Nat.{ℕ, zero, suc, ◌≤◌, ◌<◌}
use mathlib.Core.Path.{◌≡◌, refl, ap}
use mathlib.Core.List.{List, [], ◌∷◌, map}
use mathlib.Core.Bool.{Bool, true, false, not, ◌&&◌, ◌||◌}
use mathlib.Core.Logic.{◌↔◌}
use native.Mathlib.Omega.{arith}
use lib.Dec.{T}
use lib.ListN.{length, length-map}
use Rattle.rules.specs.Lists.{All, Any, every, some, sum}
use Rattle.rules.specs.Sets.{In, Out}
use Rattle.rules.specs.Rules.{Rule, rule, occurrences, Holds, Model, FirstBroken, reduct, is_holding, is_model, count_if, first_broken, rename}
use Rattle.rules.proofs.Booleans.{T_and, T-and-l, T-and-r, T-imp, T-imp-out}
use Rattle.rules.proofs.Lists.{every_all, some_any, all_imp, all_keep, keep_all_head, keep_all_tail, sum_eq}
use Rattle.rules.proofs.ListLaws.{all_each}
use Rattle.rules.proofs.MappedLists.{sum_map}

module _ {A : Type 0} where
  pub all_in : (m : A → Bool) (l : List A) → T (every m l) ↔ All (In m) l
  all_in m l = every_all m (In m) (λ a. (λ h. h, λ h. h)) l

  pub any_in : (m : A → Bool) (l : List A) → T (some m l) ↔ Any (In m) l
  any_in m l = some_any m (In m) (λ a. (λ h. h, λ h. h)) l

  pub all_out : (m : A → Bool) (l : List A) → T (not (some m l)) ↔ All (Out m) l
  all_out m [] = (λ h. tt, λ h. tt)
  all_out m (x ∷ l) = step (m x) (all_out m l)
    where
      step : (b : Bool) → T (not (some m l)) ↔ All (Out m) l → T (not (b || some m l)) ↔ ((T b → ⊥) × All (Out m) l)
      step true r = (λ h. absurd h, λ h. h.0 tt)
      step false r = (λ h. (λ e. e, r.0 h), λ h. r.1 h.1)

  pub holds_law : (m : A → Bool) (r : Rule A) → T (is_holding m r) ↔ Holds m r
  holds_law m r = (
    λ h b n. (any_in m r.head).0 (T-imp-out (every m r.body && not (some m r.nots)) (some m r.head) h (T_and (every m r.body) (not (some m r.nots)) ((all_in m r.body).1 b) ((all_out m r.nots).1 n))),
    λ h. T-imp (every m r.body && not (some m r.nots)) (some m r.head) (λ t.
        (any_in m r.head).1 (h ((all_in m r.body).0 (T-and-l (every m r.body) (not (some m r.nots)) t)) ((all_out m r.nots).0 (T-and-r (every m r.body) (not (some m r.nots)) t)))),
  )

  pub model_law : (rs : List (Rule A)) (m : A → Bool) → T (is_model rs m) ↔ Model rs m
  model_law rs m = every_all (is_holding m) (Holds m) (holds_law m) rs

  -- the first broken rule

  pub first_broken_le : (rs : List (Rule A)) (m : A → Bool) → first_broken rs m ≤ length rs
  first_broken_le [] m = omega arith
  first_broken_le (r ∷ rs) m = step (is_holding m r) (first_broken_le rs m)
    where
      step : (b : Bool) → first_broken rs m ≤ length rs → count_if b (first_broken rs m) ≤ suc (length rs)
      step true h = omega arith
      step false h = omega arith

  pub no_broken_model : (rs : List (Rule A)) (m : A → Bool) → first_broken rs m ≡ length rs → Model rs m
  no_broken_model [] m e = tt
  no_broken_model (r ∷ rs) m e = step (is_holding m r) (holds_law m r).0 (no_broken_model rs m) e
    where
      step : (b : Bool) → (T b → Holds m r) → (first_broken rs m ≡ length rs → Model rs m) → count_if b (first_broken rs m) ≡ suc (length rs) → Holds m r × Model rs m
      step true f g q = (f tt, g (omega arith))
      step false f g q = absurd (omega arith)

  pub model_no_broken : (rs : List (Rule A)) (m : A → Bool) → Model rs m → first_broken rs m ≡ length rs
  model_no_broken [] m h = refl
  model_no_broken (r ∷ rs) m h = step (is_holding m r) ((holds_law m r).1 h.0) (model_no_broken rs m h.1)
    where
      step : (b : Bool) → T b → first_broken rs m ≡ length rs → count_if b (first_broken rs m) ≡ suc (length rs)
      step true t e = ap suc e
      step false t e = absurd t

  pub first_broken_lem : (rs : List (Rule A)) (m : A → Bool) → first_broken rs m < length rs → FirstBroken rs m (first_broken rs m)
  first_broken_lem [] m l = absurd (omega arith)
  first_broken_lem (r ∷ rs) m l = step (is_holding m r) (holds_law m r).0 (holds_law m r).1 (first_broken_lem rs m) l
    where
      step : (b : Bool) → (T b → Holds m r) → (Holds m r → T b) → (first_broken rs m < length rs → FirstBroken rs m (first_broken rs m)) → count_if b (first_broken rs m) < suc (length rs) → FirstBroken (r ∷ rs) m (count_if b (first_broken rs m))
      step true f g rest u =
          let q = rest (omega arith) in
          record { inside = u; earlier = (f tt, q.earlier); broken = q.broken }
      step false f g rest u = record { inside = u; earlier = tt; broken = λ h. g h }

  -- there is only one first broken rule
  pub first_broken_one : (rs : List (Rule A)) (m : A → Bool) (i : ℕ) → FirstBroken rs m i → first_broken rs m ≡ i
  first_broken_one [] m i h = absurd (let l = h.inside in omega arith)
  first_broken_one (r ∷ rs) m zero h = step (is_holding m r) (holds_law m r).0
    where
      step : (b : Bool) → (T b → Holds m r) → count_if b (first_broken rs m) ≡ 0
      step true f = absurd (h.broken (f tt))
      step false f = refl
  first_broken_one (r ∷ rs) m (suc i) h = step (is_holding m r) ((holds_law m r).1 h.earlier.0) (first_broken_one rs m i (record { inside = let l = h.inside in omega arith; earlier = h.earlier.1; broken = h.broken }))
    where
      step : (b : Bool) → T b → first_broken rs m ≡ i → count_if b (first_broken rs m) ≡ suc i
      step true t e = ap suc e
      step false t e = absurd t

  -- what the reduct by m asks of x at one rule
  abbrev pub Asks : (A → Bool) → (A → Bool) → Rule A → Type 0
  Asks m x r = All (Out m) r.nots → All (In x) r.body → Any (In x) r.head

  pub model_asks : (rs : List (Rule A)) (m : A → Bool) → Model rs m → All (Asks m m) rs
  model_asks rs m h = all_imp (Holds m) (Asks m m) (λ r f n b. f b n) rs h

  pub asks_model : (rs : List (Rule A)) (m : A → Bool) → All (Asks m m) rs → Model rs m
  asks_model rs m h = all_imp (Asks m m) (Holds m) (λ r f b n. f n b) rs h

  pub reduct_asks : (rs : List (Rule A)) (m x : A → Bool) → Model (reduct rs m) x → All (Asks m x) rs
  reduct_asks [] m x h = tt
  reduct_asks (r ∷ rs) m x h = (
    λ n b. keep_all_head (Holds x) (not (some m r.nots)) (rule r.head r.body []) (reduct rs m) h ((all_out m r.nots).1 n) b tt,
    reduct_asks rs m x (keep_all_tail (Holds x) (not (some m r.nots)) (rule r.head r.body []) (reduct rs m) h),
  )

  pub asks_reduct : (rs : List (Rule A)) (m x : A → Bool) → All (Asks m x) rs → Model (reduct rs m) x
  asks_reduct [] m x h = tt
  asks_reduct (r ∷ rs) m x h =
      all_keep (Holds x) (not (some m r.nots)) (rule r.head r.body []) (reduct rs m) (λ t b n. h.0 ((all_out m r.nots).0 t) b) (asks_reduct rs m x h.1)

  -- the reduct by m and the program agree at m
  pub reduct_agrees : (rs : List (Rule A)) (m : A → Bool) → Model (reduct rs m) m ↔ Model rs m
  reduct_agrees rs m = (λ h. asks_model rs m (reduct_asks rs m m h), λ h. asks_reduct rs m m (model_asks rs m h))

-- other atoms, the same occurrences
pub rename_occurrences : {A B : Type 0} (f : A → B) (rs : List (Rule A)) → sum occurrences (map (rename f) rs) ≡ sum occurrences rs
rename_occurrences f rs = simp sum_map (sum_eq _ occurrences rs (all_each _ (λ r. simp length-map) rs))
