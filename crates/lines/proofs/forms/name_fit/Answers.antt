use mathlib.Core.Path.{sym, ap, ◌∙◌}
use Rattle.names.specs.declared.forms.NameClass.TheVariants.{Generated}
use Rattle.lines.specs.Shapes.{class_fit}
use Rattle.lines.proofs.NameLists.{fit_is}
use Rattle.lines.proofs.forms.name_fit.Goals as goal

pub returns-in-Common : goal.returns-in-Common
returns-in-Common c = fit_is c.args.kind _ c.name_class.ensures c.in-Common.is

pub returns-in-Plain : goal.returns-in-Plain
returns-in-Plain c = ap (λ k. class_fit k Generated) (sym c.in-Plain.is) ∙ fit_is _ _ c.name_class.ensures c.in-Generated.is

pub returns-in-Preference : goal.returns-in-Preference
returns-in-Preference c = ap (λ k. class_fit k Generated) (sym c.in-Preference.is) ∙ fit_is _ _ c.name_class.ensures c.in-Generated.is

pub returns-in-TooLong : goal.returns-in-TooLong
returns-in-TooLong c = fit_is c.args.kind _ c.name_class.ensures c.in-TooLong.is

pub returns-in-Wrong : goal.returns-in-Wrong
returns-in-Wrong c = fit_is c.args.kind _ c.name_class.ensures c.in-Wrong.is
