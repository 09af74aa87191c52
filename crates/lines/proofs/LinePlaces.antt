-- The lines of a text by their places.
use Prim.Native.Nat.{ℕ, zero, suc, ◌+◌, ◌-◌, ◌≤◌, ◌<◌}
use native.Mathlib.Omega.{arith}
use mathlib.Core.Path.{◌≡◌, refl, sym, ap, ap₂, ◌∙◌}
use mathlib.Core.Logic.{◌≢◌}
use mathlib.Core.Bool.{cond}
use mathlib.Core.List.{List, [], ◌∷◌}
use lib.Dec.{eqb}
use lib.ListN.{length, take, drop, length-drop}
use lib.Seq.{drop-drop, length-take-le}
use Rattle.kinds.specs.Words.{line_end_lem}
use Rattle.rules.proofs.Lists.{part_sized}
use Rattle.lines.specs.Lines.{line_length, lines_from, lines}
use Rattle.lines.proofs.LineBlocks.{line_le}

lines_from_lem : (k : ℕ) (s : List ℕ) → lines_from k s ≡ lines_from 0 (drop k s)
unfolding lines_from
lines_from_lem zero s = refl
lines_from_lem (suc k) [] = refl
lines_from_lem (suc k) (b ∷ s) = lines_from_lem k s

pub cut_first : (t : List ℕ) → t ≢ [] → lines t ≡ take (line_length t) t ∷ lines (drop (line_length t) t)
unfolding lines lines_from line_length
cut_first [] n = absurd (n refl)
cut_first (b ∷ s) n = let k = cond (eqb b line_end_lem) 0 (line_length s) in ap (λ l. (b ∷ take k s) ∷ l) (lines_from_lem k s)

first_line_lem : (s : List ℕ) → 1 ≤ length s → (lines s ≡ take (line_length s) s ∷ lines (drop (line_length s) s)) × (1 ≤ line_length s)
unfolding line_length
first_line_lem [] h = absurd (omega arith)
first_line_lem (b ∷ s) h = (cut_first (b ∷ s) (λ e. absurd (let z : suc (length s) ≡ 0 = ap length e in omega arith)), omega arith)

-- the line at a place
module _ (s : List ℕ) (at : ℕ) (l : at < length s) {n : ℕ} (e : n ≡ line_length (drop at s)) where
  pub line_inside : (at + n ≤ length s) × (at < at + n)
  line_inside = let f = (first_line_lem (drop at s) (omega (arith, length-drop at s))).1 in (omega (arith, line_le (drop at s), length-drop at s), omega arith)

  -- its bytes, as the code takes them
  abbrev pub line : List ℕ
  line = take (at + n - at) (drop at s)

  pub lines_at : lines (drop at s) ≡ line ∷ lines (drop (at + n) s)
  lines_at =
      (first_line_lem (drop at s) (omega (arith, length-drop at s))).0
      ∙ ap (λ m. take m (drop at s) ∷ lines (drop m (drop at s))) (sym e)
      ∙ ap₂ ◌∷◌ (sym (part_sized at n (drop at s))) (ap lines (drop-drop n at s))

  pub line_short : length line ≤ length s
  line_short = omega (arith, ap length (part_sized at n (drop at s)) ∙ length-take-le n (drop at s) (omega (arith, line_inside.0, length-drop at s)), line_inside.0)
