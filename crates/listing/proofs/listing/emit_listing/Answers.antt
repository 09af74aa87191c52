use mathlib.Core.Path.{refl, ◌∙◌}
use native.Mathlib.Omega.{arith}
use Rattle.output.proofs.Emitting.{same_length as emitted-length}
use Rattle.lister.proofs.FromStart.{next_same}
use Rattle.listing.proofs.ListedStates.{between, begins, passed, ended, state_small, count_small, falls, listed, state_range, few_starts, few_sets, last_range, length_kept}
use borrow.Author.Rules.{rules}
use borrow.Enum.Refused.{opened}
use Rattle.listing.proofs.listing.emit_listing.Goals as goal

pub loop-next-init : goal.loop-next-init
loop-next-init c = ((c.requires.tables, refl), begins _ _ _ _)

pub emit_last-requires : goal.emit_last-requires
emit_last-requires c = last_range c.loop-next.invariant.1 _ c.loop-next-test.true

pub returns-in_default : goal.returns-in_default
returns-in_default c = ended c.loop-next.invariant.1 (c.next_masks-found.ensures.value ∙ next_same _ _ c.loop-next.invariant.0.1 _ _ _ _) (opened c.in_default.in_default-own.keys2) c.emit_last.ensures

pub emit_state-next-requires : goal.emit_state-next-requires
emit_state-next-requires c = (few_starts c.requires.named, state_range c.requires.named _ _ c.loop-next-test.true)

pub overflow_add-start : goal.overflow_add-start
overflow_add-start c = omega (arith, state_small c.loop-next.invariant.1 (c.next_masks-found.ensures.value ∙ next_same _ _ c.loop-next.invariant.0.1 _ _ _ _) (between _ _ _ _ _ _) c.in-State.is (few_sets c.requires.named))

pub loop-next-smaller : goal.loop-next-smaller
loop-next-smaller c = falls c.loop-next.invariant.1 (c.next_masks-found.ensures.value ∙ next_same _ _ c.loop-next.invariant.0.1 _ _ _ _) (between _ _ _ _ _ _) c.in-State.is

pub loop-next-preserved : goal.loop-next-preserved
loop-next-preserved c = ((c.next_masks-found.ensures.has_tables_2.0, c.next_masks-found.ensures.has_tables_2.1 ∙ c.loop-next.invariant.0.1), listed c.loop-next.invariant.1 (c.next_masks-found.ensures.value ∙ next_same _ _ c.loop-next.invariant.0.1 _ _ _ _) (between _ _ _ _ _ _) c.in-State.is c.turned-set.ensures c.emit_state-next.ensures)
