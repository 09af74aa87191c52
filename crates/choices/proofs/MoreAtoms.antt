-- One more atom decided, and the sets below a choice.
use Prim.Native.Nat.{ℕ, suc, ◌+◌, ◌*◌, ◌/◌, ◌%◌, ◌^◌, ◌<◌}
use mathlib.Core.Path.{◌≡◌, sym, ap, ◌∙◌}
use mathlib.Core.Bool.{true, false}
use native.Mathlib.Omega.{arith}
use native.Mathlib.Nat.{mod-eq_of_lt, div-eq_of_lt, add-mod_right, add-div_right, pow-suc}
use lib.Dec.{eqb}
use lib.Pow.{pow_pos, mod-pow-add}
use borrow.Author.Tests.{eqb-true, eqb-false}
use Rattle.rules.specs.Sets.{has}
use Rattle.rules.proofs.Sets.{cut_has}

pub top_out : (d x : ℕ) → x < 2 ^ d → has x d ≡ false
top_out d x h = ap (λ (y : ℕ). eqb (y % 2) 1) (div-eq_of_lt h)

pub top_in : (d x : ℕ) → x < 2 ^ d → has (x + 2 ^ d) d ≡ true
top_in d x h = ap (λ (y : ℕ). eqb (y % 2) 1) (add-div_right x (pow_pos d) ∙ ap (λ (y : ℕ). y + 1) (div-eq_of_lt h))

pub low_in : (d x a : ℕ) → x < 2 ^ d → a < d → has (x + 2 ^ d) a ≡ has x a
low_in d x a h l = sym (cut_has (x + 2 ^ d) d a l) ∙ ap (λ (y : ℕ). has y a) (add-mod_right x (2 ^ d) ∙ mod-eq_of_lt h)

pub wide_out : (d x : ℕ) → x < 2 ^ d → x < 2 ^ suc d
wide_out d x h = omega (arith, pow-suc 2 d)

pub wide_in : (d x : ℕ) → x < 2 ^ d → x + 2 ^ d < 2 ^ suc d
wide_in d x h = omega (arith, pow-suc 2 d)

-- a set cut down to one more atom
cut_more : (d m w : ℕ) → m / 2 ^ d % 2 ≡ w → m % 2 ^ suc d ≡ w * 2 ^ d + m % 2 ^ d
cut_more d m w e =
    let s : suc d ≡ 1 + d = omega arith in
    ap (λ (j : ℕ). m % 2 ^ j) s ∙ mod-pow-add m 1 d ∙ ap (λ (y : ℕ). y * 2 ^ d + m % 2 ^ d) e

pub cut_out : (d m : ℕ) → has m d ≡ false → m % 2 ^ suc d ≡ m % 2 ^ d
cut_out d m h =
    let q : m / 2 ^ d % 2 ≡ 1 → ⊥ = eqb-false (m / 2 ^ d % 2) 1 h in
    let z : m / 2 ^ d % 2 ≡ 0 = omega arith in
    cut_more d m 0 z ∙ (omega arith)

pub cut_in : (d m : ℕ) → has m d ≡ true → m % 2 ^ suc d ≡ m % 2 ^ d + 2 ^ d
cut_in d m h = cut_more d m 1 (eqb-true (m / 2 ^ d % 2) 1 h) ∙ (omega arith)

-- s is a set of n atoms, and has of the first d those that x has
pub record Extends (n d x s : ℕ) : Type 0 where
  pub set : s < 2 ^ n
  pub same : (a : ℕ) → a < d → has s a ≡ has x a
