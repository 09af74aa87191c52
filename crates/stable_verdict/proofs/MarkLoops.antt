-- Whether a rule is kept, and what the loop over the marks keeps.
use Prim.Native.Nat.{ℕ, suc, ◌+◌, ◌-◌, ◌≤◌, ◌<◌}
use mathlib.Core.Path.{◌≡◌, sym, ap, ◌∙◌}
use mathlib.Core.Bool.{Bool, true, false, not}
use mathlib.Core.List.{List, [], ◌∷◌}
use native.Mathlib.Numerals.{add-one}
use native.Mathlib.Omega.{arith}
use lib.ListN.{length, get_or, take, drop, drop_of_length-le}
use lib.Seq.{drop-cons}
use Rattle.kinds.specs.Limits.{walk_atoms}
use Rattle.rules.specs.Lists.{All, some}
use Rattle.rules.specs.Sets.{has}
use Rattle.stores.specs.RuleStore.{rule_at}
use Rattle.stable_verdict.specs.ReductMarks.{is_keeping, marked_at}

-- whether the reduct keeps the rule at the front
pub kept_read : (ws : List ℕ) {nots : List ℕ} → nots ≡ (rule_at ws).nots → (m : ℕ) (b : Bool) → b ≡ some (has m) nots → not b ≡ is_keeping m (rule_at ws)
kept_read ws e m b is = ap not (is ∙ ap (some (has m)) e)

-- the set mark with so many before it, one mark further
module _ (before : ℕ) (ms : List Bool) (left j : ℕ) (e : marked_at before ms ≡ j + marked_at left (drop j ms)) where
  module _ (h : j < length ms) where
    next : (b : Bool) → get_or ms j false ≡ b → marked_at before ms ≡ j + marked_at left (b ∷ drop (suc j) ms)
    next b q = e ∙ ap (λ (l : List Bool). j + marked_at left l) (drop-cons ms j false h ∙ ap (λ (t : Bool). t ∷ drop (suc j) ms) q)

    pub marked_found : get_or ms j false ≡ true → left ≡ 0 → j ≡ marked_at before ms
    unfolding marked_at
    marked_found t z = let a : marked_at before ms ≡ j + marked_at 0 (true ∷ drop (suc j) ms) = next true t ∙ ap (λ (k : ℕ). j + marked_at k (true ∷ drop (suc j) ms)) z in omega arith

    pub marked_more : get_or ms j false ≡ true → (left ≡ 0 → ⊥) → {left' : ℕ} → left' ≡ left - 1 → marked_at before ms ≡ (j + 1) + marked_at left' (drop (j + 1) ms)
    unfolding marked_at
    marked_more t n {left'} q =
        let s : left ≡ suc left' = omega arith in
        let a : marked_at before ms ≡ j + marked_at (suc left') (true ∷ drop (suc j) ms) = next true t ∙ ap (λ (k : ℕ). j + marked_at k (true ∷ drop (suc j) ms)) s in
        rw (add-one j) (omega arith)

    pub marked_skips : get_or ms j false ≡ false → {left' : ℕ} → left' ≡ left → marked_at before ms ≡ (j + 1) + marked_at left' (drop (j + 1) ms)
    unfolding marked_at
    marked_skips f {left'} q =
        let a : marked_at before ms ≡ j + marked_at left' (false ∷ drop (suc j) ms) = next false f ∙ ap (λ (k : ℕ). j + marked_at k (false ∷ drop (suc j) ms)) (sym q) in
        rw (add-one j) (omega arith)

  pub marked_none : j ≤ length ms → length ms ≤ j → length ms ≡ marked_at before ms
  unfolding marked_at
  marked_none f l = let a : marked_at before ms ≡ j + marked_at left [] = e ∙ ap (λ (x : List Bool). j + marked_at left x) (drop_of_length-le ms l) in omega arith
