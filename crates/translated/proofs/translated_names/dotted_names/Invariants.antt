use Rattle.translated.proofs.NameLaws.{NamesLeft}
use Rattle.translated.proofs.translated_names.dotted_names.Given as goal

abbrev pub invariant-loop : goal.invariant-loop
invariant-loop l = NamesLeft l.letter l.count l.bytes l.initial.out l.at l.out l.next l.from l.counter
