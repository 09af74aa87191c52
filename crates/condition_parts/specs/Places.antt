-- Brackets and words of a condition, at their places in the bytes.
use Rattle.std.specs.Prelude.{ℕ, ◌<◌, ◌≤◌, ◌≡◌, Bool, true, false, List, [], ◌∷◌, length, drop, Option, Some, None}
use Rattle.name_store.specs.NameStore.{same_bytes}
use Rattle.lines.specs.Tokens.{Token, opening, closing, word, tokens}

-- a later place of the bytes
pub record Past (s : List ℕ) (at p : ℕ) : Type 0 where
  pub inside : p ≤ length s
  pub onward : at < p

-- the first token is an opening bracket
abbrev pub is_opening : List Token → Bool
is_opening [] = false
is_opening (opening ∷ ts) = true
is_opening (closing ∷ ts) = false
is_opening (word x ∷ ts) = false

-- it is the word w
abbrev pub is_leading : List ℕ → List Token → Bool
is_leading w [] = false
is_leading w (opening ∷ ts) = false
is_leading w (closing ∷ ts) = false
is_leading w (word x ∷ ts) = same_bytes x w

abbrev pub OpeningSays : List ℕ → ℕ → Option ℕ → Type 0
OpeningSays s at (Some p) = Past s at p × (tokens (drop at s) ≡ opening ∷ tokens (drop p s))
OpeningSays s at None = is_opening (tokens (drop at s)) ≡ false

pub record OpeningIs (s : List ℕ) (at : ℕ) (r : Option ℕ) : Type 0 where
  pub says : OpeningSays s at r

abbrev pub WordSays : List ℕ → ℕ → List ℕ → Option ℕ → Type 0
WordSays s at w (Some p) = Past s at p × (tokens (drop at s) ≡ word w ∷ tokens (drop p s))
WordSays s at w None = is_leading w (tokens (drop at s)) ≡ false

pub record WordIs (s : List ℕ) (at : ℕ) (w : List ℕ) (r : Option ℕ) : Type 0 where
  pub says : WordSays s at w r
