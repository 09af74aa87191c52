use mathlib.Core.Path.{◌∙◌}
use Rattle.names.proofs.NameForms.{class_common, class_generated}
use Rattle.names.proofs.forms.name_class.Goals as goal

pub returns-then-common_form : goal.returns-then-common_form
returns-then-common_form c = c.sized_class.ensures ∙ class_common _ c.common_form.ensures c.if-common_form.true

pub returns : goal.returns
returns c = c.generated_class.ensures ∙ class_generated _ c.common_form.ensures c.if-common_form.false
