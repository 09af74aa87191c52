-- Items with the hashes of their names.
use Rattle.std.specs.Prelude.{ℕ, List, take, drop, Option, Some, None}
use Rattle.name_store.specs.NameIndex.{name_hash}
use Rattle.lines.specs.declared.scan.Item.{Item}
use Rattle.lines.specs.Tokens.{run}
use Rattle.lines.specs.Shapes.{item_of}
use Rattle.numbering.specs.declared.hashed_items.HashedItem.{HashedItem}

-- the bytes before the first delimiter, behind so many spaces
unfoldable pub hashed_run : ℕ → List ℕ → HashedItem
hashed_run g s = record { gap = g; size = run s; hash = name_hash (take (run s) s) }

-- an item of the bytes
abbrev pub hashed_of : List ℕ → Option Item → Option HashedItem
hashed_of s (Some i) = Some (record { gap = i.gap; size = i.size; hash = name_hash (take i.size (drop i.gap s)) })
hashed_of s None = None

unfoldable pub hashed_item : List ℕ → Option HashedItem
hashed_item s = hashed_of s (item_of s)
