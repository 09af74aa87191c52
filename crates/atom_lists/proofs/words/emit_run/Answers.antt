use Rattle.atom_lists.proofs.ListLaws.{run_next, run_ends, single_is}
use Rattle.atom_lists.specs.ListWords.{single}
use Rattle.output.proofs.Emitting.{start, turn, finish, range_here, range_renamed, renamed, length_kept}
use mathlib.Core.Path.{sym}
use Rattle.atom_lists.proofs.words.emit_run.Goals as goal

pub loop-word-init : goal.loop-word-init
loop-word-init c = start c.requires

pub push-next-requires : goal.push-next-requires
push-next-requires c = range_renamed (range_here c.loop-word.invariant (run_next single _ _ c.loop-word-test.true)) (single_is _)

pub loop-word-preserved : goal.loop-word-preserved
loop-word-preserved c = turn c.loop-word.invariant (run_next single _ _ c.loop-word-test.true) (renamed c.push-next.ensures (sym (single_is _)))

pub shape_of-out : goal.shape_of-out
shape_of-out c = length_kept c.loop-word.invariant

pub returns : goal.returns
returns c = finish c.loop-word.invariant (run_ends single _ _ c.loop-word-test.false)
