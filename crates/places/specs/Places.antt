-- The order of the sets of n atoms (document 02, W-206): of two sets the earlier is the one lacking the first declared atom on which they differ.
use Rattle.std.specs.Prelude.{ℕ, ◌-◌, ◌^◌, ◌<◌, ◌≡◌, ◌↔◌, cond}
use Rattle.rules.specs.Lists.{sum, from}
use Rattle.rules.specs.Sets.{has, In, Out}

pub record Earlier (n x y : ℕ) : Type 0 where
  pub atom : ℕ
  pub inside : atom < n
  pub lacks : Out (has x) atom
  pub holds : In (has y) atom
  pub before : (i : ℕ) → i < atom → has x i ≡ has y i

-- the bit of a place at which atom i of n stands: the first atom's is the highest
abbrev pub mirror : ℕ → ℕ → ℕ
mirror n i = n - 1 - i

-- the place of x among n atoms: the sum of 2^(n-1-i) over its atoms i
unfoldable pub place : ℕ → ℕ → ℕ
place n x = sum (λ i. cond (has x i) (2 ^ mirror n i) 0) (from 0 n)

-- the set at a place: what turns a set round turns its place back
abbrev pub set_at : ℕ → ℕ → ℕ
set_at n p = place n p

-- places rise from earlier to later sets, and every place from 0 below 2^n belongs to one set
pub record InPlaces (n : ℕ) : Type 0 where
  pub order : (x y : ℕ) → place n x < place n y ↔ Earlier n x y
  pub inside : (x : ℕ) → place n x < 2 ^ n
  pub one_set : (p : ℕ) → p < 2 ^ n → (s : ℕ) × (s < 2 ^ n) × (place n s ≡ p) × ((t : ℕ) → t < 2 ^ n → place n t ≡ p → t ≡ s)
