use native.Mathlib.Omega.{arith}
use Rattle.output.proofs.Emitting.{turn, finish, range_here}
use Rattle.name_store.proofs.NumberedNames.{numbered_none}
use Rattle.clause_rules.proofs.ClauseNames.{names_begin, names_next}
use Rattle.clause_rules.proofs.atom_names.put_names.Goals as goal

pub loop-atom-init : goal.loop-atom-init
loop-atom-init c = names_begin _ _ c.requires

pub put_name-at-requires : goal.put_name-at-requires
put_name-at-requires c = (omega (arith, c.loop-atom-test.true, c.requires), range_here c.loop-atom.invariant (names_next _ _ c.loop-atom-test.true))

pub loop-atom-preserved : goal.loop-atom-preserved
loop-atom-preserved c = turn c.loop-atom.invariant (names_next _ _ c.loop-atom-test.true) c.put_name-at.ensures

pub returns : goal.returns
returns c = finish c.loop-atom.invariant (numbered_none _ _ _ c.loop-atom-test.false)
