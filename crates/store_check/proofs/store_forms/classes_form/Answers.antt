use Rattle.store_check.proofs.store_forms.classes_form.Goals as goal

pub returns-in-Plain : goal.returns-in-Plain
returns-in-Plain c = simp c.in-Plain.is

pub returns-in-Preference : goal.returns-in-Preference
returns-in-Preference c = simp c.in-Preference.is c.preference_classes.ensures
