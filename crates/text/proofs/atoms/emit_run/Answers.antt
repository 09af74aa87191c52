use Rattle.text.proofs.AtomItems.{run_next, run_ends}
use Rattle.output.proofs.Emitting.{turn, finish, range_here}
use borrow.Author.Rules.{rules}
use Rattle.text.proofs.atoms.emit_run.Goals as goal

pub emit_atom-next-requires : goal.emit_atom-next-requires
emit_atom-next-requires c = (search rules, range_here c.loop-i.invariant (run_next _ _ _ c.loop-i-test.true))

pub loop-i-preserved : goal.loop-i-preserved
loop-i-preserved c = turn c.loop-i.invariant (run_next _ _ _ c.loop-i-test.true) c.emit_atom-next.ensures

pub returns : goal.returns
returns c = finish c.loop-i.invariant (run_ends _ _ _ c.loop-i-test.false)
