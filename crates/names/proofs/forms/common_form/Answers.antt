use mathlib.Core.Path.{◌∙◌}
use Rattle.names.proofs.MadeNumbers.{common_house, common_made}
use Rattle.names.proofs.forms.common_form.Goals as goal

pub returns-then-house_form : goal.returns-then-house_form
returns-then-house_form c = c.if-house_form.true ∙ common_house c.args.bytes.now c.house_form.ensures c.if-house_form.true

pub returns-else-house_form : goal.returns-else-house_form
returns-else-house_form c = common_made c.args.bytes.now c.house_form.ensures c.if-house_form.false c.made_number.ensures c.is_some.ensures
