use Rattle.text.proofs.AtomItems.{next_atom, no_atoms}
use Rattle.output.proofs.Emitting.{turn, finish, range_here}
use Rattle.rules.proofs.Lists.{all_at}
use Rattle.std.proofs.Common.{arith, length, ◌<◌}
use Rattle.text.proofs.atoms.emit_atoms.Goals as goal

pub emit_atom-next-requires : goal.emit_atom-next-requires
emit_atom-next-requires c = (all_at (λ a. a < length c.args.names.now.starts.now) 0 c.args.atoms.now c.requires.0 _ c.loop-atom-test.true, range_here c.loop-atom.invariant (next_atom _ c.args.atoms.now _ c.loop-atom-test.true))

pub loop-atom-preserved : goal.loop-atom-preserved
loop-atom-preserved c = turn c.loop-atom.invariant (next_atom _ c.args.atoms.now _ c.loop-atom-test.true) c.emit_atom-next.ensures

pub returns : goal.returns
returns c = finish c.loop-atom.invariant (no_atoms _ c.args.atoms.now (omega arith))
