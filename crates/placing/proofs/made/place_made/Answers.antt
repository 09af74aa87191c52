use mathlib.Core.Path.{refl}
use Rattle.placing.proofs.PlacedState.{numbers_ready, classes_ready, names_ready, rules_there, moved_range, held_placed}
use Rattle.placing.proofs.made.place_made.Goals as goal

pub number_places-requires : goal.number_places-requires
number_places-requires c = numbers_ready c.requires.held.0 c.requires.held.1 c.count_unfixed-first.ensures refl

pub put_classes-classed-requires : goal.put_classes-classed-requires
put_classes-classed-requires c = classes_ready c.requires.held.0 c.requires.held.1 c.count_unfixed-first.ensures

pub put_rules-filled-requires : goal.put_rules-filled-requires
put_rules-filled-requires c = (rules_there c.requires.held.0 c.requires.held.1 c.count_unfixed-first.ensures c.number_places.new.numbers c.number_places.auto.numbers c.number_places.ensures, moved_range c.requires.held.0 c.requires.held.1 c.count_unfixed-first.ensures c.number_places.new.numbers c.number_places.auto.numbers c.number_places.ensures c.put_classes-classed.ensures)

pub place_names-named-requires : goal.place_names-named-requires
place_names-named-requires c = names_ready c.requires.held.0 c.requires.held.1 c.count_unfixed-first.ensures

pub returns : goal.returns
returns c = held_placed c.requires.held.0 c.requires.held.1 c.count_unfixed-first.ensures c.number_places.new.numbers c.number_places.auto.numbers c.number_places.ensures c.put_classes-classed.ensures c.put_rules-filled.ensures c.requires.rules_len.0 c.place_names-named.ensures c.requires.rules_len.1
