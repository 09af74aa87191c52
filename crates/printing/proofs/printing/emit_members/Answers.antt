use Rattle.printing.proofs.PrintedLines.{member_next, members_end}
use Rattle.output.proofs.Emitting.{turn, finish, range_here}
use Rattle.printing.proofs.printing.emit_members.Goals as goal

pub emit_member-next-requires : goal.emit_member-next-requires
emit_member-next-requires c = (c.requires.0, c.loop-atom-test.true, range_here c.loop-atom.invariant (member_next _ _ _ _ c.loop-atom-test.true))

pub loop-atom-preserved : goal.loop-atom-preserved
loop-atom-preserved c = turn c.loop-atom.invariant (member_next _ _ _ _ c.loop-atom-test.true) c.emit_member-next.ensures

pub returns : goal.returns
returns c = finish c.loop-atom.invariant (members_end _ _ _ _ c.loop-atom-test.false)
