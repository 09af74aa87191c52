-- A program with a class, a varying and a fixed atom that no rule has, and what is left of it.
use mathlib.Core.Path.{◌≡◌, refl}
use mathlib.Core.List.{[], ◌∷◌}
use Rattle.kinds.specs.declared.limits.Kind.{Kind}
use Rattle.kinds.specs.declared.limits.Kind.TheVariants.{Plain, Preference}
use Rattle.rules.specs.Rules.{rule}
use Rattle.stores.specs.Program.{Program}
use Rattle.restriction.specs.Atoms.{used}
use Rattle.restriction.specs.Remaining.{restrict, left, remaining, remaining_names}
use Rattle.restriction.specs.PreferredLeft.{cut_to}

-- atoms 1 and 3 stand in its rule
declares : Kind → Program
declares kind = record { kind = kind; atoms = 5; classes = 2; words = 1 ∷ 2 ∷ 17 ∷ 17 ∷ 18 ∷ []; rules = rule (3 ∷ []) (1 ∷ []) [] ∷ [] }

leaves : remaining (declares Preference) ≡ record { kind = Preference; atoms = 2; classes = 2; words = 2 ∷ 17 ∷ []; rules = rule (1 ∷ []) (0 ∷ []) [] ∷ [] }
unfolding declares remaining restrict used
leaves = refl

names : remaining_names (declares Preference) ((10 ∷ []) ∷ (11 ∷ []) ∷ (12 ∷ []) ∷ (13 ∷ []) ∷ (14 ∷ []) ∷ []) ≡ (11 ∷ []) ∷ (13 ∷ []) ∷ []
unfolding declares remaining_names used
names = refl

plain : remaining (declares Plain) ≡ declares Plain
unfolding declares remaining
plain = refl

-- the set of atoms 0, 3 and 4, cut
cuts : cut_to (left (declares Preference)) 25 ≡ 2
unfolding declares used
cuts = refl

-- another sequence, with an atom between the two
sequence : restrict (3 ∷ 4 ∷ 1 ∷ []) (declares Preference) ≡ record { kind = Preference; atoms = 3; classes = 2; words = 17 ∷ 18 ∷ 2 ∷ []; rules = rule (0 ∷ []) (2 ∷ []) [] ∷ [] }
unfolding declares restrict
sequence = refl
