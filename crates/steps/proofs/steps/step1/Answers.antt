use Rattle.atom_lists.proofs.ListLaws.{run_next, run_ends}
use Rattle.output.proofs.Emitting.{start, turn, finish, range_here, length_kept}
use native.Mathlib.Omega.{arith}
use Rattle.steps.proofs.steps.step1.Goals as goal

pub loop-a-init : goal.loop-a-init
loop-a-init c = start c.requires.1

pub step1_atom-next-requires : goal.step1_atom-next-requires
step1_atom-next-requires c = (omega arith, c.requires.0, range_here c.loop-a.invariant (run_next _ _ _ c.loop-a-test.true))

pub loop-a-preserved : goal.loop-a-preserved
loop-a-preserved c = turn c.loop-a.invariant (run_next _ _ _ c.loop-a-test.true) c.step1_atom-next.ensures

pub shape_of-out : goal.shape_of-out
shape_of-out c = length_kept c.loop-a.invariant

pub returns : goal.returns
returns c = finish c.loop-a.invariant (run_ends _ _ _ c.loop-a-test.false)
