use native.Mathlib.Omega.{arith}
use Rattle.lines.proofs.NameLists.{listed, not_listed}
use Rattle.lines.proofs.LineShapes.{no_names, more_behind, declaring}
use Rattle.lines.proofs.forms.declared_shape.Goals as goal

pub returns-in_default : goal.returns-in_default
returns-in_default c = no_names c.args.kind c.args.line.now c.args.from c.args.word (not_listed c.names_at.ensures c.in_default.is)

pub nothing_at-requires : goal.nothing_at-requires
nothing_at-requires c = omega (arith, (listed c.names_at.ensures c.in-Some.is).inside)

pub returns-then-nothing_at : goal.returns-then-nothing_at
returns-then-nothing_at c = declaring c.args.kind c.args.line.now c.args.from c.args.word (listed c.names_at.ensures c.in-Some.is) c.nothing_at.ensures c.if-nothing_at.true c.requires

pub returns : goal.returns
returns c = more_behind c.args.kind c.args.line.now c.args.from c.args.word (listed c.names_at.ensures c.in-Some.is) c.nothing_at.ensures c.if-nothing_at.false
