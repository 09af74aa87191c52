-- A name store with the names of made atoms between.
use Rattle.std.specs.Prelude.{ℕ, ◌≡◌, List, ◌++◌, map, length, drop}
use Rattle.rules.specs.Lists.{from}
use Rattle.names.specs.Names.{made_name}
use Rattle.name_store.specs.NameStore.{encode_names, decode_names}

-- the bytes of the first n names
abbrev pub first_bytes : ℕ → List ℕ → List ℕ
first_bytes n bytes = encode_names (decode_names n bytes)

-- they stand at the front
abbrev pub AtFront : ℕ → List ℕ → Type 0
AtFront n bytes = first_bytes n bytes ++ drop (length (first_bytes n bytes)) bytes ≡ bytes

-- k names of made atoms behind the first q
unfoldable pub placed_names : ℕ → ℕ → List ℕ → List ℕ
placed_names q k bytes = first_bytes q bytes ++ (encode_names (map made_name (from 1 k)) ++ drop (length (first_bytes q bytes)) bytes)
