-- The part of a list from i up to e.
use Prim.Native.Nat.{ℕ, suc, ◌+◌, ◌-◌, ◌≤◌, ◌<◌}
use mathlib.Core.Path.{◌≡◌}
use mathlib.Core.List.{List, [], ◌∷◌}
use native.Mathlib.Omega.{arith}
use native.Mathlib.Numerals.{add-one}
use lib.ListN.{length, get_or, take, drop}
use lib.Seq.{drop-cons}

pub part_cons : (ws : List ℕ) (i e : ℕ) → i < e → e ≤ length ws → take (e - i) (drop i ws) ≡ get_or ws i 0 ∷ take (e - (i + 1)) (drop (i + 1) ws)
part_cons ws i e h k =
    let n : e - i ≡ suc (e - (i + 1)) = omega arith in
    let l : i < length ws = omega arith in
    rw (n, drop-cons ws i 0 l, add-one)

pub part_none : (ws : List ℕ) (i e : ℕ) → e ≤ i → take (e - i) (drop i ws) ≡ []
part_none ws i e h = let n : e - i ≡ 0 = omega arith in rw n
