use Rattle.translated.proofs.NameLaws.{end_next, ends_end}
use Rattle.output.proofs.Emitting.{start, turn, finish, range_here, length_kept}
use native.Mathlib.Omega.{arith}
use Rattle.translated.proofs.translated_names.end_names.Goals as goal

pub loop-j-init : goal.loop-j-init
loop-j-init c = start c.requires.1

pub end_name-next-requires : goal.end_name-next-requires
end_name-next-requires c = (omega arith, range_here c.loop-j.invariant (end_next c.loop-j-test.true))

pub loop-j-preserved : goal.loop-j-preserved
loop-j-preserved c = turn c.loop-j.invariant (end_next c.loop-j-test.true) c.end_name-next.ensures

pub shape_of-out : goal.shape_of-out
shape_of-out c = length_kept c.loop-j.invariant

pub returns : goal.returns
returns c = finish c.loop-j.invariant (ends_end c.loop-j-test.false)

pub returns-2 : goal.returns-2
returns-2 c = finish (turn c.loop-j.invariant (end_next c.loop-j-test.true) c.end_name-next.ensures) (ends_end (omega arith))
