-- A rule whose names are in order: the counts, a filled `not` list, and the rule's three counts in the scratch.
use Prim.Native.Nat.{ℕ, ◌+◌, ◌^◌, ◌<◌}
use native.Mathlib.Omega.{arith}
use mathlib.Core.Path.{◌≡◌, refl, sym, ◌∙◌}
use mathlib.Core.Bool.{Bool, true, false, not}
use mathlib.Core.List.{List, [], ◌∷◌}
use borrow.Author.Tests.{not-false}
use Rattle.kinds.specs.Limits.{within}
use Rattle.kinds.specs.declared.limits.Kind.{Kind}
use Rattle.kinds.specs.declared.refusals.Refusal.TheVariants.{Limit, FilledNot}
use Rattle.output.specs.Emitted.{Emitted}
use Rattle.gathering.specs.declared.gathered.Gathered.{Gathered}
use Rattle.std.specs.Prelude.{Ok, Err}
use Rattle.gathering.specs.Gathered.{filled_count, rule_counts, with_rule, kept_rule, Kept}
use Rattle.gathering.proofs.HeldState.{within_limits, occurrences_small}

module _ (kind : Kind) (g : Gathered) (heads bodies nots end : ℕ) (before : List ℕ) {fits : Bool}
    (e : fits ≡ within kind (rule_counts g.counts (heads + bodies + nots))) where
  pub over_limit : not fits ≡ true → Kept kind g heads bodies nots end before before (Err Limit)
  unfolding kept_rule
  over_limit d = record { answer = rw (sym e, d); words = refl }

  module _ (d : not fits ≡ false) {full : Bool} (f : full ≡ filled_count kind nots) where
    pub filled_not : full ≡ true → Kept kind g heads bodies nots end before before (Err FilledNot)
    unfolding kept_rule
    filled_not t = record { answer = rw (sym e, d, sym f, t); words = refl }

    pub kept : full ≡ false → {after : List ℕ} {r : ℕ} → Emitted before g.words (heads ∷ bodies ∷ nots ∷ []) after r → Kept kind g heads bodies nots end before after (Ok (with_rule g (heads + bodies + nots) end))
    unfolding kept_rule
    kept t w = record { answer = rw (sym e, d, sym f, t); words = w.bytes }

  pub counts_small : not fits ≡ false → g.words < 2 ^ 62 → (heads < 65536) × (bodies < 65536) × (nots < 65536) × (g.words < 2 ^ 62)
  counts_small d h =
      let t = (within_limits kind (rule_counts g.counts (heads + bodies + nots)) (sym e ∙ not-false fits d)).occurrences in
      let s = occurrences_small kind in
      (omega arith, omega arith, omega arith, h)
