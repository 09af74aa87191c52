-- The names of a name store's bytes with the table of their places.
use Rattle.std.specs.Prelude.{ℕ, List}
use Rattle.text.specs.declared.placed.PlacedNames.{PlacedNames}
use Rattle.text.specs.Items.{stored_names}

-- the names that `starts` has a place for
abbrev pub names_in : PlacedNames → List (List ℕ)
names_in p = stored_names p.bytes.now p.starts.now
