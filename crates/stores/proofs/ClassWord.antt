-- What `role_of` gives on each way through a match on the class word.
use mathlib.Core.Path.{◌≡◌}
use Prim.Native.Nat.{ℕ, ◌≤◌, ◌<◌}
use native.Mathlib.Omega.{arith}
use borrow.Author.Tests.{le-leb, lt-leb, ne_eqb}
use Rattle.stores.specs.Program.{role_of}
use Rattle.stores.specs.declared.roles.Role.TheVariants.{Minimised, Varying, Fixed, Unknown}

pub minimised : (w : ℕ) → 1 ≤ w → w ≤ 16 → Minimised w ≡ role_of w
unfolding role_of
minimised w l h = simp (le-leb 1 w l, le-leb w 16 h)

pub varies : (w : ℕ) → w ≡ 17 → Varying ≡ role_of w
unfolding role_of
varies w e = simp e

pub is_fixed_lem : (w : ℕ) → w ≡ 18 → Fixed ≡ role_of w
unfolding role_of
is_fixed_lem w e = simp e

pub below : (w : ℕ) → w < 1 → Unknown ≡ role_of w
unfolding role_of
below w h = let e : w ≡ 0 = omega arith in simp e

pub above : (w : ℕ) → 16 < w → (w ≡ 17 → ⊥) → (w ≡ 18 → ⊥) → Unknown ≡ role_of w
unfolding role_of
above w h p q = simp (le-leb 1 w (omega arith), lt-leb w 16 h, ne_eqb w 17 p, ne_eqb w 18 q)
