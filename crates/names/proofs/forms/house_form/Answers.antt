use native.Mathlib.Omega.{arith}
use mathlib.Core.Path.{◌∙◌}
use Rattle.names.proofs.NameForms.{house_empty, house_first, house_other}
use Rattle.names.proofs.forms.house_form.Goals as goal

pub returns-in-empty : goal.returns-in-empty
returns-in-empty c = house_empty c.args.bytes.now (omega arith)

pub returns-then-is_first_byte : goal.returns-then-is_first_byte
returns-then-is_first_byte c = c.all_name_bytes.ensures ∙ house_first c.args.bytes.now (λ e. omega arith) c.is_first_byte.ensures c.if-is_first_byte.true

pub returns-else-is_first_byte : goal.returns-else-is_first_byte
returns-else-is_first_byte c = c.if-is_first_byte.false ∙ house_other c.args.bytes.now (λ e. omega arith) c.is_first_byte.ensures c.if-is_first_byte.false
