use mathlib.Core.Path.{◌∙◌}
use Rattle.std.proofs.Common.{rules}
use Rattle.names.proofs.MadeNumbers.{made_none, made_other, made_undotted, made_dotted}
use Rattle.names.proofs.forms.made_number.Goals as goal

pub returns-in-84 : goal.returns-in-84
returns-in-84 c = c.atom_number.ensures ∙ made_dotted c.args.bytes.now (search rules) (search rules)

pub returns-in_default : goal.returns-in_default
returns-in_default c = made_none c.args.bytes.now c.in_default.len_below

pub returns-in_default-2 : goal.returns-in_default-2
returns-in_default-2 c = made_undotted c.args.bytes.now (search rules) (search rules)

pub returns-in_default-3 : goal.returns-in_default-3
returns-in_default-3 c = made_other c.args.bytes.now (search rules)
