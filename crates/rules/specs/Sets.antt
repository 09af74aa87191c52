-- A set of atoms is its number, the sum of 2^i over its atoms i (document 01, "The two kinds of file").
use Rattle.std.specs.Prelude.{ℕ, ◌/◌, ◌%◌, ◌^◌, Bool, ◌↔◌, ◌≢◌, T, eqb}

-- whether atom i is in the set with number x
abbrev pub has : ℕ → ℕ → Bool
has x i = eqb (x / 2 ^ i % 2) 1

-- a set, given by its test
module _ {A : Type 0} where
  abbrev pub In : (A → Bool) → A → Type 0
  In m a = T (m a)

  abbrev pub Out : (A → Bool) → A → Type 0
  Out m a = T (m a) → ⊥

abbrev pub Subset : ℕ → ℕ → Type 0
Subset x m = (i : ℕ) → In (has x) i → In (has m) i

pub record ProperSubset (x m : ℕ) : Type 0 where
  pub subset : Subset x m
  pub differs : x ≢ m

-- x and m agree on the atoms that are P
abbrev pub Agree : (ℕ → Type 0) → ℕ → ℕ → Type 0
Agree P x m = (a : ℕ) → P a → In (has x) a ↔ In (has m) a

-- cutting down keeps the members below n
abbrev pub cut : ℕ → ℕ → ℕ
cut n x = x % 2 ^ n
