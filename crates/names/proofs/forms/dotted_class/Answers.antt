use mathlib.Core.Path.{◌∙◌}
use Rattle.names.proofs.NameForms.{dotted_copy, dotted_no_common, dotted_number, dotted_no_number, dotted_other}
use Rattle.names.proofs.forms.dotted_class.Goals as goal

pub returns-then-common_form : goal.returns-then-common_form
returns-then-common_form c = c.sized_class.ensures ∙ dotted_copy _ _ c.in-78.is c.common_form.ensures c.if-common_form.true

pub returns-then-class_number : goal.returns-then-class_number
returns-then-class_number c = dotted_number _ _ c.in-69.is c.class_number.ensures c.if-class_number.true

pub returns-else-common_form : goal.returns-else-common_form
returns-else-common_form c = dotted_no_common _ _ c.in-78.is c.common_form.ensures c.if-common_form.false

pub returns-else-class_number : goal.returns-else-class_number
returns-else-class_number c = dotted_no_number _ _ c.in-69.is c.class_number.ensures c.if-class_number.false

pub returns-in_default : goal.returns-in_default
returns-in_default c = dotted_other _ _ c.in_default.in_default-own.rest.0.1 c.in_default.in_default-own.rest.1
