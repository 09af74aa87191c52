-- The rows of the table: what stands written when a row is put in front of later ones.
use Prim.Native.Nat.{ℕ, ◌+◌}
use native.Mathlib.Omega.{arith}
use mathlib.Core.Path.{◌≡◌, sym, ap, ap₂, ◌∙◌}
use mathlib.Core.List.{List, [], ◌∷◌, ◌++◌, map, map-append}
use lib.ListN.{length, set, length-map}
use lib.Seq.{sets}
use Rattle.conditions.specs.declared.table.TableRow.{TableRow}
use Rattle.conditions.specs.Rows.{Row}
use Rattle.conditions.specs.Table.{table_row}
use Rattle.output.proofs.Emitting.{sets_append, sets_front}

-- the rows behind it stand written
pub row_put : (n : ℕ) (r : Row) (before : List TableRow) {after : List TableRow} (row : ℕ) (rs : List Row) → after ≡ sets before (row + 1) (map (table_row n) rs)
    → set after row (table_row n r) ≡ sets before row (map (table_row n) (r ∷ rs))
row_put n r before row rs e =
    ap (λ d. set d row (table_row n r)) e
    ∙ sets_front before row (table_row n r ∷ []) (row + 1) (map (table_row n) rs) (omega arith)

-- those before it, too
pub rows_put : (n : ℕ) (before : List TableRow) {mid : List TableRow} (next : ℕ) {row : ℕ} (ls rs : List Row) → row ≡ next + length ls → mid ≡ sets before next (map (table_row n) ls)
    → sets mid row (map (table_row n) rs) ≡ sets before next (map (table_row n) (ls ++ rs))
rows_put n before next {row} ls rs e f =
    let at : row ≡ next + length (map (table_row n) ls) = omega (arith, length-map ls (table_row n)) in
    ap₂ (λ d (k : ℕ). sets d k (map (table_row n) rs)) f at
    ∙ sets_append before next (map (table_row n) ls) (map (table_row n) rs)
    ∙ ap (sets before next) (sym (map-append (table_row n) ls rs))
