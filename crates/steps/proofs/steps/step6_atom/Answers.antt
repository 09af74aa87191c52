use Rattle.steps.proofs.StepLaws.{first_ahead, second_ahead, third_ahead}
use Rattle.text.proofs.AtomItems.{last_run}
use Rattle.output.proofs.Emitting.{start, turn, finish, range_begin, range_here}
use mathlib.Core.Path.{refl}
use Rattle.steps.proofs.steps.step6_atom.Goals as goal

pub emit-one-requires : goal.emit-one-requires
emit-one-requires c = range_begin c.requires.4 (first_ahead c.args.o c.args.class c.args.a)

pub emit-two-requires : goal.emit-two-requires
emit-two-requires c = range_here (turn (start c.requires.4) (first_ahead c.args.o c.args.class c.args.a) c.emit-one.ensures) (second_ahead c.args.o c.args.class c.args.a)

pub emit-three-requires : goal.emit-three-requires
emit-three-requires c = range_here (turn (turn (start c.requires.4) (first_ahead c.args.o c.args.class c.args.a) c.emit-one.ensures) (second_ahead c.args.o c.args.class c.args.a) c.emit-two.ensures) (third_ahead c.args.o c.args.class c.args.a)

pub emit-requires : goal.emit-requires
emit-requires c = range_here (turn (turn (turn (start c.requires.4) (first_ahead c.args.o c.args.class c.args.a) c.emit-one.ensures) (second_ahead c.args.o c.args.class c.args.a) c.emit-two.ensures) (third_ahead c.args.o c.args.class c.args.a) c.emit-three.ensures) (last_run _)

pub returns : goal.returns
returns c = finish (turn (turn (turn (turn (start c.requires.4) (first_ahead c.args.o c.args.class c.args.a) c.emit-one.ensures) (second_ahead c.args.o c.args.class c.args.a) c.emit-two.ensures) (third_ahead c.args.o c.args.class c.args.a) c.emit-three.ensures) (last_run _) c.emit.ensures) refl
