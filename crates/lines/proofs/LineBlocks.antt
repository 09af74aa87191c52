-- The end of a line by blocks of bytes.
use Prim.Native.Nat.{ℕ, zero, suc, ◌+◌, ◌-◌, ◌≤◌, zero-le}
use native.Mathlib.Nat.{add-sub_cancel_left}
use native.Mathlib.Omega.{arith}
use mathlib.Core.Path.{◌≡◌, sym, ap, ◌∙◌}
use mathlib.Core.List.{List, [], ◌∷◌}
use mathlib.Core.Bool.{Bool, true, false, cond, ◌||◌}
use lib.Dec.{eqb}
use lib.ListN.{length, take, drop, length-drop}
use lib.Seq.{drop-drop}
use Rattle.rules.specs.Lists.{some}
use Rattle.kinds.specs.Words.{line_end_lem}
use Rattle.lines.specs.Lines.{line_length}

abbrev pub is_end : ℕ → Bool
is_end b = eqb b line_end_lem

-- k bytes in which no line ends
passed : (k : ℕ) (t : List ℕ) → k ≤ length t → some is_end (take k t) ≡ false → line_length t ≡ k + line_length (drop k t)
unfolding line_length
passed zero t l e = sym (omega arith)
passed (suc k) [] l e = absurd (omega arith)
passed (suc k) (b ∷ t) l e = go (is_end b) e (passed k t (omega arith))
  where
    go : (x : Bool) → (x || some is_end (take k t)) ≡ false → (some is_end (take k t) ≡ false → line_length t ≡ k + line_length (drop k t)) → suc (cond x 0 (line_length t)) ≡ suc k + line_length (drop k t)
    go true e r = absurd (let z : ◌≡◌ {A = ℕ} 0 1 = cc in omega arith)
    go false e r = omega (arith, r e)

-- the block as the code takes it
pub block_passed : (s : List ℕ) (i : ℕ) {r : Bool} → i + 16 ≤ length s → r ≡ some is_end (take (i + 16 - i) (drop i s)) → r ≡ false → line_length (drop i s) ≡ 16 + line_length (drop (i + 16) s)
block_passed s i l e d =
    let p : take (i + 16 - i) (drop i s) ≡ take 16 (drop i s) = rw add-sub_cancel_left in
    passed 16 (drop i s) (omega (arith, length-drop i s)) (ap (some is_end) (sym p) ∙ sym e ∙ d)
    ∙ ap (λ t. 16 + line_length t) (drop-drop 16 i s)

pub line_le : (t : List ℕ) → line_length t ≤ length t
unfolding line_length
line_le [] = zero-le
line_le (b ∷ t) = go (is_end b) (line_le t)
  where
    go : (x : Bool) → line_length t ≤ length t → suc (cond x 0 (line_length t)) ≤ suc (length t)
    go true h = omega arith
    go false h = omega arith

pub line_fits : (s : List ℕ) (i : ℕ) → line_length (drop i s) ≤ length s - i
line_fits s i = omega (arith, line_le (drop i s), length-drop i s)
