use Rattle.stores.proofs.Marks.{Marking}
use Rattle.list_check.proofs.list_forms.list_form.Given as goal

abbrev pub invariant-loop-word : goal.invariant-loop-word
invariant-loop-word l = Marking l.list l.atoms l.initial.marks l.stamp l.marks l.word-index
