use Rattle.atom_lists.proofs.ListLaws.{run_next, run_ends}
use Rattle.steps.proofs.StepLaws.{own_low, own_small, own_words}
use Rattle.output.proofs.Emitting.{start, turn, finish, range_here, length_kept, renamed, range_renamed}
use native.Mathlib.Omega.{arith}
use mathlib.Core.Path.{sym}
use Rattle.steps.proofs.steps.step6.Goals as goal

pub loop-a-init : goal.loop-a-init
loop-a-init c = start c.requires.3

pub class_of-class-requires : goal.class_of-class-requires
class_of-class-requires c = omega (arith, c.requires.1.inside)

pub step6_atom-next-requires : goal.step6_atom-next-requires
step6_atom-next-requires c = (omega (arith, c.requires.1.inside), own_low c.requires.1 c.loop-a-test.true c.class_of-class.ensures, own_small c.requires.1 c.loop-a-test.true c.class_of-class.ensures, c.requires.2, range_renamed (range_here c.loop-a.invariant (run_next _ _ _ c.loop-a-test.true)) (own_words c.requires.1 c.loop-a-test.true c.class_of-class.ensures _))

pub loop-a-preserved : goal.loop-a-preserved
loop-a-preserved c = turn c.loop-a.invariant (run_next _ _ _ c.loop-a-test.true) (renamed c.step6_atom-next.ensures (sym (own_words c.requires.1 c.loop-a-test.true c.class_of-class.ensures _)))

pub shape_of-out : goal.shape_of-out
shape_of-out c = length_kept c.loop-a.invariant

pub returns : goal.returns
returns c = finish c.loop-a.invariant (run_ends _ _ _ c.loop-a-test.false)
