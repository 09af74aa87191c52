use Rattle.listing.proofs.StoredStates.{header, few_atoms, many_atoms, front_sized, names_stored, filled_inside, handed_sized, stores_listed, states_are}
use Rattle.printing.proofs.PrintedLines.{shown_renamed}
use mathlib.Core.Path.{refl, sym}
use native.Mathlib.Omega.{arith}
use Rattle.listing.proofs.listing.show_states.Goals as goal

pub bounds-rules-1 : goal.bounds-rules-1
bounds-rules-1 c = omega (arith, header c.requires.0 c.requires.1 c.requires.2)

pub returns-then-atoms-gt-ATOMS : goal.returns-then-atoms-gt-ATOMS
returns-then-atoms-gt-ATOMS c = shown_renamed (many_atoms c.requires.0 c.requires.1 c.requires.2 c.if-atoms-gt-ATOMS.true) c.show_refused.ensures

pub place_names-requires : goal.place_names-requires
place_names-requires c = names_stored c.requires.0 c.requires.1 c.requires.2 c.if-atoms-gt-ATOMS.false _ refl

pub show_store-requires : goal.show_store-requires
show_store-requires c = stores_listed c.requires.0 c.requires.1 c.requires.2 c.if-atoms-gt-ATOMS.false _ refl c.place_names.new.starts c.place_names.auto.starts c.place_names.ensures

pub returns : goal.returns
returns c = shown_renamed (states_are c.requires.0 c.requires.1 c.requires.2 c.if-atoms-gt-ATOMS.false _ refl c.place_names.new.starts c.place_names.auto.starts) c.show_store.ensures
