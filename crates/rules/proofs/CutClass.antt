-- Cutting a class in two, one part directly before the other, brings in no preferred set.
use Prim.Native.Nat.{ℕ, suc, ◌^◌, ◌≤◌, ◌<◌}
use mathlib.Core.Path.{◌≡◌, refl, sym, subst, ◌∙◌}
use mathlib.Core.List.{List}
use mathlib.Core.Logic.{◌⊎◌, inl, inr}
use native.Mathlib.Omega.{arith}
use native.Mathlib.Decide.{ℕ_discrete, dec_le, dec_lt}
use lib.ListN.{length, get_or}
use Rattle.kinds.specs.Limits.{class_limit, fixed}
use Rattle.rules.specs.Sets.{has, In}
use Rattle.rules.specs.Rules.{Rule}
use Rattle.rules.specs.Preferred.{Beats}
use Rattle.rules.specs.CutClass.{CutClass, NoneNew}
use Rattle.rules.proofs.Lacking.{lacking_beats}

-- the classes of ws' are those of ws or parts of them, in the same sequence
record Finer (ws ws' : List ℕ) : Type 0 where
  size : length ws' ≡ length ws
  class : (a : ℕ) → a < length ws → 1 ≤ get_or ws a 0 → get_or ws a 0 ≤ class_limit → (1 ≤ get_or ws' a 0) × (get_or ws' a 0 ≤ class_limit)
  sequence : (a b : ℕ) → a < length ws → b < length ws → 1 ≤ get_or ws' b 0 → get_or ws' b 0 ≤ get_or ws' a 0 → get_or ws' a 0 ≤ class_limit → (1 ≤ get_or ws b 0) × (get_or ws b 0 ≤ get_or ws a 0)
  is_fixed_lem : (a : ℕ) → a < length ws → get_or ws' a 0 ≡ fixed → get_or ws a 0 ≡ fixed

module _ (ws ws' : List ℕ) (finer : Finer ws ws') (rs : List (Rule ℕ)) where
  inside : (a : ℕ) → a < length ws' → a < length ws
  inside a l = omega (arith, finer.size)

  beats_finer : (s m : ℕ) → Beats ws rs s m → Beats ws' rs s m
  beats_finer s m h =
      let q = h.proper in
      let i = q.1.0 in
      let e : get_or ws q.0 0 ≡ h.class = q.1.1 in
      let class = finer.class q.0 i (omega (arith, h.is_class_holds)) (omega (arith, h.is_class_holds)) in
      lacking_beats ws' s m rs h.model (λ a c. h.agrees a (inside a c.0, finer.is_fixed_lem a (inside a c.0) c.1)) q.0 (record {
        inside = omega (arith, finer.size);
        is_class_holds = class;
        of_m = q.2;
        missing = q.3;
        within = λ b l low u.
            let place = finer.sequence q.0 b i (inside b l) low u class.1 in
            step b (inside b l) place.0 (omega (arith, place.1)) (ℕ_discrete (get_or ws b 0) h.class);
      })
    where
      step : (b : ℕ) → b < length ws → 1 ≤ get_or ws b 0 → get_or ws b 0 ≤ h.class → Dec (get_or ws b 0 ≡ h.class) → In (has s) b → In (has m) b
      step b l low u (yes e) = h.subset b (l, e)
      step b l low u (no e) = (h.earlier (get_or ws b 0) low (omega arith) b (l, refl)).0

  finer_none_new : NoneNew ws ws' rs
  finer_none_new m h = record {
    model = h.model;
    unbeaten = λ s l b. h.unbeaten s (subst (λ (n : ℕ). s < 2 ^ n) (sym finer.size) l) (beats_finer s m b);
  }

module _ (i : ℕ) (ws ws' : List ℕ) (cut : CutClass i ws ws') where
  -- an atom's word before the cut, by its word after it
  record Before (w w' : ℕ) : Type 0 where
    first : w' ≤ i → w ≡ w'
    second : i < w' → w' ≤ class_limit → suc w ≡ w'
    other : class_limit < w' → w ≡ w'
    class : w ≤ class_limit → (w ≤ w') × (w' ≤ class_limit)

  before : (a : ℕ) → a < length ws → Before (get_or ws a 0) (get_or ws' a 0)
  before a l = step (dec_lt (get_or ws a 0) i) (ℕ_discrete (get_or ws a 0) i) (dec_le (get_or ws a 0) class_limit)
    where
      same : get_or ws' a 0 ≡ get_or ws a 0 → (get_or ws a 0 ≤ i) ⊎ (class_limit < get_or ws a 0) → Before (get_or ws a 0) (get_or ws' a 0)
      same e (inl u) = record { first = λ k. sym e; second = λ k q. absurd (omega arith); other = λ k. sym e; class = λ k. (omega arith, omega (arith, cut.is_class_holds)) }
      same e (inr u) = record { first = λ k. sym e; second = λ k q. absurd (omega arith); other = λ k. sym e; class = λ k. absurd (omega arith) }

      up : get_or ws' a 0 ≡ suc (get_or ws a 0) → i ≤ get_or ws a 0 → get_or ws a 0 ≤ class_limit → Before (get_or ws a 0) (get_or ws' a 0)
      up e u c = let n = cut.room a l in record { first = λ k. absurd (omega arith); second = λ k q. sym e; other = λ k. absurd (omega arith); class = λ k. (omega arith, omega arith) }

      part : get_or ws a 0 ≡ i → (get_or ws' a 0 ≡ i) ⊎ (get_or ws' a 0 ≡ suc i) → Before (get_or ws a 0) (get_or ws' a 0)
      part e (inl q) = same (q ∙ sym e) (inl (omega arith))
      part e (inr q) = up (omega arith) (omega arith) (omega (arith, cut.is_class_holds))

      step : Dec (get_or ws a 0 < i) → Dec (get_or ws a 0 ≡ i) → Dec (get_or ws a 0 ≤ class_limit) → Before (get_or ws a 0) (get_or ws' a 0)
      step (yes u) e c = same (cut.before a l u) (inl (omega arith))
      step (no u) (yes e) c = part e (cut.parts a l e)
      step (no u) (no e) (yes c) = up (cut.later a l (omega arith) c) (omega arith) c
      step (no u) (no e) (no c) = same (cut.others a l (omega arith)) (inr (omega arith))

  cut_finer : Finer ws ws'
  cut_finer = record {
    size = cut.size;
    class = λ a l low high. let k = (before a l).class high in (omega (arith, k), k.1);
    sequence = λ a b la lb low le high. step a b low le high (before a la) (before b lb) (dec_le (get_or ws' a 0) i) (dec_le (get_or ws' b 0) i);
    is_fixed_lem = λ a l e. (before a l).other (omega arith) ∙ e;
  }
    where
      step : (a b : ℕ) → 1 ≤ get_or ws' b 0 → get_or ws' b 0 ≤ get_or ws' a 0 → get_or ws' a 0 ≤ class_limit
          → Before (get_or ws a 0) (get_or ws' a 0) → Before (get_or ws b 0) (get_or ws' b 0) → Dec (get_or ws' a 0 ≤ i) → Dec (get_or ws' b 0 ≤ i)
          → (1 ≤ get_or ws b 0) × (get_or ws b 0 ≤ get_or ws a 0)
      step a b low le high f g (yes u) (yes v) = let e = f.first u in let d = g.first v in (omega arith, omega arith)
      step a b low le high f g (yes u) (no v) = absurd (omega arith)
      step a b low le high f g (no u) (yes v) = let e = f.second (omega arith) high in let d = g.first v in (omega arith, omega arith)
      step a b low le high f g (no u) (no v) = let e = f.second (omega arith) high in let d = g.second (omega arith) (omega arith) in let n = cut.is_class_holds in (omega arith, omega arith)

  pub cut_none_new : (rs : List (Rule ℕ)) → NoneNew ws ws' rs
  cut_none_new = finer_none_new ws ws' cut_finer
