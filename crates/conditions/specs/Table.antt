-- The table of a condition's connectives as the code holds it: a row each, atoms by their numbers while the file is read.
use Rattle.std.specs.Prelude.{ℕ}
use Rattle.conditions.specs.declared.table.Connective.{Connective}
use Rattle.conditions.specs.declared.table.Connective.TheVariants.{Not, And, Or}
use Rattle.conditions.specs.declared.table.TableRow.{TableRow}
use Rattle.conditions.specs.Rows.{Row, not_row, and-row, or-row}
use Rattle.conditions.specs.Numbers.{in_file}

abbrev pub entry : Connective → ℕ → ℕ → TableRow
entry k l r = record { kind = k; left = l; right = r }

-- a row: its connective and the atoms of its parts, n atoms being declared
unfoldable pub table_row : ℕ → Row → TableRow
table_row n (not_row t c) = entry Not (in_file n c) 0
table_row n (and-row t l r) = entry And (in_file n l) (in_file n r)
table_row n (or-row t l r) = entry Or (in_file n l) (in_file n r)
