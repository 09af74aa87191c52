-- The words of a list of atoms, atom after atom.
use Rattle.std.specs.Prelude.{ℕ, ◌+◌, Bool, List, [], ◌∷◌}
use Rattle.rules.specs.Lists.{keep, flat}

-- the words of each entry
unfoldable pub each : {A : Type 0} → (A → List ℕ) → List A → List ℕ
each g xs = flat g xs

-- an atom itself
unfoldable pub single : ℕ → List ℕ
single a = a ∷ []

-- an atom that passes a test, with its number raised
unfoldable pub raised : (ℕ → Bool) → ℕ → ℕ → List ℕ
raised t b a = keep (t a) (b + a) []
