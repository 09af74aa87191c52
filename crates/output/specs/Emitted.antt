-- What a function that writes elements from a place on leaves, also where there is no room for them.
use Rattle.std.specs.Prelude.{ℕ, ◌+◌, ◌^◌, ◌<◌, ◌≡◌, List, length}
use Rattle.std.proofs.lemmas.List.Edits.{sets}

-- the output with w written from `at`, as far as it goes, and the place after w
pub record Emitted {A : Type 0} (before : List A) (at : ℕ) (w after : List A) (next : ℕ) : Type 0 where
  pub place : next ≡ at + length w
  pub bytes : after ≡ sets before at w

-- the places of w are numbers that the code can hold
pub record InRange {A : Type 0} (at : ℕ) (w : List A) : Type 0 where
  pub below : at + length w < 2 ^ 63
