use Rattle.list_check.proofs.list_forms.not_form.Goals as goal

pub returns-in-Preference : goal.returns-in-Preference
returns-in-Preference c = simp c.in-Preference.is
