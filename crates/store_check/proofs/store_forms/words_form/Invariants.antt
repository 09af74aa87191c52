use Rattle.stores.proofs.Climbing.{Climbing}
use Rattle.store_check.proofs.store_forms.words_form.Given as goal

abbrev pub invariant-loop-word : goal.invariant-loop-word
invariant-loop-word l = Climbing l.words l.classes l.before l.word-index
