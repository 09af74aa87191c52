-- The names that an index is over.
use Rattle.std.specs.Prelude.{ℕ, List, length}
use Rattle.name_store.specs.NameStore.{decode_names}
use Rattle.name_store.specs.declared.indexed.NameIndex.{NameIndex}

-- the first names of the bytes, as many as `starts` has places for
abbrev pub names_of : NameIndex → List (List ℕ)
names_of i = decode_names (length i.starts.now) i.bytes.now
