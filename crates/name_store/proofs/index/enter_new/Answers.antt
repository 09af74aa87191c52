use Rattle.name_store.proofs.NameEntries.{filled, is_found, not_found, found_new, found_old}
use Rattle.name_store.proofs.index.enter_new.Goals as goal

pub invariant_of-index : goal.invariant_of-index
invariant_of-index c = record { indexed = filled c.args.atom c.requires.indexed }

pub returns-then-is_some-clause-value : goal.returns-then-is_some-clause-value
returns-then-is_some-clause-value c = found_old c.args.atom c.requires.indexed c.args.name.now c.find.ensures (is_found _ c.is_some.ensures c.if-is_some.true).1

pub returns-clause-value : goal.returns-clause-value
returns-clause-value c = found_new c.args.atom c.requires.indexed c.args.name.now c.find.ensures (not_found _ c.is_some.ensures c.if-is_some.false)
