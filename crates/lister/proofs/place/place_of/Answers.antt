use Prim.Native.Nat.{ℕ}
use mathlib.Core.Path.{ap, ◌∙◌}
use native.Mathlib.Omega.{arith}
use Rattle.places.specs.Places.{place}
use Rattle.stores.proofs.StoredRules.{has_header, atoms_word_lem}
use Rattle.lister.proofs.place.place_of.Goals as goal

pub bounds-words-1 : goal.bounds-words-1
bounds-words-1 c = omega (arith, has_header _ _ c.requires.store_of)

pub overflow_cast-atoms : goal.overflow_cast-atoms
overflow_cast-atoms c = omega (arith, atoms_word_lem _ _ c.requires.store_of, c.requires.words_bound)

pub turned-requires : goal.turned-requires
turned-requires c = omega (arith, atoms_word_lem _ _ c.requires.store_of, c.requires.words_bound)

pub returns : goal.returns
returns c = c.turned.ensures ∙ ap (λ (n : ℕ). place n c.args.set) (atoms_word_lem _ _ c.requires.store_of)
