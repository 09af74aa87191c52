use Prim.Native.Nat.{zero-le}
use Rattle.kinds.specs.Words.{atoms_word, min_word, vary_word, fix_word, rule_word}
use Rattle.lines.specs.declared.forms.Keyword.TheVariants.{Atoms, Min, Vary, Fix}
use Rattle.lines.specs.Forms.{atoms, min, vary, fix}
use Rattle.lines.proofs.NameLists.{opened_inside}
use Rattle.lines.proofs.LineShapes.{whole_rule, whole_word, same_shape, of_word, of_rule, of_none}
use Rattle.lines.proofs.forms.opened_shape.Goals as goal

pub opened_at-requires : goal.opened_at-requires
opened_at-requires c = (zero-le, whole_rule)

pub rule_shape-requires : goal.rule_shape-requires
rule_shape-requires c = opened_inside rule_word c.args.line.now 0 c.opened_at.ensures c.in-Some.is

pub returns-in-Some : goal.returns-in-Some
returns-in-Some c = same_shape c.args.kind c.args.line.now (of_rule c.args.line.now c.opened_at.ensures c.in-Some.is) c.rule_shape.result c.rule_shape.ensures

pub opened_at-requires-2 : goal.opened_at-requires-2
opened_at-requires-2 c = (zero-le, whole_word min)

pub declared_shape-requires : goal.declared_shape-requires
declared_shape-requires c = opened_inside min_word c.args.line.now 0 c.opened_at-2.ensures c.in-Some-opened_at.is

pub returns-in-Some-opened_at : goal.returns-in-Some-opened_at
returns-in-Some-opened_at c = same_shape c.args.kind c.args.line.now (of_word c.args.line.now Min c.opened_at-2.ensures c.in-Some-opened_at.is) c.declared_shape.result c.declared_shape.ensures

pub opened_at-requires-3 : goal.opened_at-requires-3
opened_at-requires-3 c = (zero-le, whole_word vary)

pub declared_shape-requires-in-Some-opened_at-2 : goal.declared_shape-requires-in-Some-opened_at-2
declared_shape-requires-in-Some-opened_at-2 c = opened_inside vary_word c.args.line.now 0 c.opened_at-3.ensures c.in-Some-opened_at-2.is

pub returns-in-Some-opened_at-2 : goal.returns-in-Some-opened_at-2
returns-in-Some-opened_at-2 c = same_shape c.args.kind c.args.line.now (of_word c.args.line.now Vary c.opened_at-3.ensures c.in-Some-opened_at-2.is) c.declared_shape-in-Some-opened_at-2.result c.declared_shape-in-Some-opened_at-2.ensures

pub opened_at-requires-4 : goal.opened_at-requires-4
opened_at-requires-4 c = (zero-le, whole_word fix)

pub declared_shape-requires-in-Some-opened_at-3 : goal.declared_shape-requires-in-Some-opened_at-3
declared_shape-requires-in-Some-opened_at-3 c = opened_inside fix_word c.args.line.now 0 c.opened_at-4.ensures c.in-Some-opened_at-3.is

pub returns-in-Some-opened_at-3 : goal.returns-in-Some-opened_at-3
returns-in-Some-opened_at-3 c = same_shape c.args.kind c.args.line.now (of_word c.args.line.now Fix c.opened_at-4.ensures c.in-Some-opened_at-3.is) c.declared_shape-in-Some-opened_at-3.result c.declared_shape-in-Some-opened_at-3.ensures

pub opened_at-requires-5 : goal.opened_at-requires-5
opened_at-requires-5 c = (zero-le, whole_word atoms)

pub declared_shape-requires-in-Some-opened_at-4 : goal.declared_shape-requires-in-Some-opened_at-4
declared_shape-requires-in-Some-opened_at-4 c = opened_inside atoms_word c.args.line.now 0 c.opened_at-5.ensures c.in-Some-opened_at-4.is

pub returns-in-Some-opened_at-4 : goal.returns-in-Some-opened_at-4
returns-in-Some-opened_at-4 c = same_shape c.args.kind c.args.line.now (of_word c.args.line.now Atoms c.opened_at-5.ensures c.in-Some-opened_at-4.is) c.declared_shape-in-Some-opened_at-4.result c.declared_shape-in-Some-opened_at-4.ensures

pub returns : goal.returns
returns c = of_none c.args.line.now c.opened_at.ensures c.in_default.is c.opened_at-2.ensures c.in_default-opened_at.is c.opened_at-3.ensures c.in_default-opened_at-2.is c.opened_at-4.ensures c.in_default-opened_at-3.is c.opened_at-5.ensures c.in_default-opened_at-4.is
