use Rattle.atom_lists.proofs.ListLaws.{run_next, run_ends}
use Rattle.output.proofs.Emitting.{start, turn, finish, range_here, length_kept}
use Rattle.steps.proofs.steps.step789.Goals as goal

pub loop-b-init : goal.loop-b-init
loop-b-init c = start c.requires

pub step789_atom-next-requires : goal.step789_atom-next-requires
step789_atom-next-requires c = range_here c.loop-b.invariant (run_next _ _ _ c.loop-b-test.true)

pub loop-b-preserved : goal.loop-b-preserved
loop-b-preserved c = turn c.loop-b.invariant (run_next _ _ _ c.loop-b-test.true) c.step789_atom-next.ensures

pub shape_of-out : goal.shape_of-out
shape_of-out c = length_kept c.loop-b.invariant

pub returns : goal.returns
returns c = finish c.loop-b.invariant (run_ends _ _ _ c.loop-b-test.false)
