use native.Mathlib.Omega.{arith}
use Rattle.output.proofs.Emitting.{turn, finish, range_here, length_kept}
use Rattle.made_names.proofs.NamesPut.{names_begin, names_next}
use Rattle.name_store.proofs.NumberedNames.{numbered_none}
use Rattle.made_names.proofs.writing.put_names.Goals as goal

pub loop-number-init : goal.loop-number-init
loop-number-init c = names_begin _ _ _ c.requires.1

pub put_name-next-requires : goal.put_name-next-requires
put_name-next-requires c = range_here c.loop-number.invariant (names_next _ _ (omega arith))

pub loop-number-preserved : goal.loop-number-preserved
loop-number-preserved c = turn c.loop-number.invariant (names_next _ _ (omega arith)) c.put_name-next.ensures

pub shape_of-out : goal.shape_of-out
shape_of-out c = length_kept c.loop-number.invariant

pub returns : goal.returns
returns c = finish c.loop-number.invariant (numbered_none _ _ _ (omega arith))

pub returns-2 : goal.returns-2
returns-2 c = finish (turn c.loop-number.invariant (names_next _ _ (omega arith)) c.put_name-next.ensures) (numbered_none _ _ _ (omega arith))
