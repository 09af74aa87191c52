-- The bytes that each run of names adds to the translated name store.
use Rattle.std.specs.Prelude.{ℕ, zero, suc, ◌+◌, ◌-◌, ◌≤◌, List, ◌++◌, length, get_or, drop}
use Rattle.kinds.specs.Words.{bytes, byte, decimal}
use Rattle.kinds.specs.Sizes.{longest_name}
use Rattle.rules.specs.Lists.{from}
use Rattle.name_store.specs.NameStore.{name_bytes, decode_names}
use Rattle.pairing.specs.Loops.{dot}
use Rattle.atom_lists.specs.ListWords.{each}

-- a name at the front of the bytes, no longer than any
pub record FileName (bs : List ℕ) : Type 0 where
  pub inside : 1 + get_or bs 0 0 ≤ length bs
  pub short : get_or bs 0 0 ≤ longest_name

-- n names, one after the other
abbrev pub FileNames : ℕ → List ℕ → Type 0
FileNames zero bs = Unit {0}
FileNames (suc n) bs = FileName bs × FileNames n (drop (1 + get_or bs 0 0) bs)

-- N., S. or D. before a name
unfoldable pub dotted_bytes : ℕ → List ℕ → List ℕ
dotted_bytes letter name = name_bytes (dot letter name)

-- E.j
unfoldable pub end_bytes : ℕ → List ℕ
end_bytes j = name_bytes (dot (byte "E") (decimal j))

-- N. of n names, S. of q, D. of m, E.0 to E.k, U
abbrev pub generated_bytes : List ℕ → ℕ → ℕ → ℕ → ℕ → List ℕ
generated_bytes bs n q m k =
    each (dotted_bytes (byte "N")) (decode_names n bs)
    ++ (each (dotted_bytes (byte "S")) (decode_names q bs)
    ++ (each (dotted_bytes (byte "D")) (decode_names m bs)
    ++ (each end_bytes (from 0 (k + 1 - 0))
    ++ name_bytes (bytes "U"))))
