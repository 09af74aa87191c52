-- The descent as a search over the choices visited, in sequence.
use Rattle.std.specs.Prelude.{ℕ, suc, ◌+◌, ◌^◌, ◌<◌, ◌≡◌, Bool, true, false, cond, ◌&&◌, List, [], ◌∷◌, T}
use Rattle.rules.specs.Lists.{filter}
use Rattle.rules.specs.Sets.{has}
use Rattle.places.specs.Places.{place}
use Rattle.choices.specs.Choices.{Choice, choice, Course, visited}
use Rattle.descent.specs.Descent.{Outcome, Nothing, go_on, Asked}

-- each choice is judged, its unit counted, until a set is found
unfoldable pub first_found : (Choice → ℕ → Outcome) → List Choice → ℕ → Outcome
first_found judge [] u = Nothing u
first_found judge (k ∷ ks) u = go_on (judge k (suc u)) (λ v. first_found judge ks v)

-- the set with atom d decided
abbrev pub decide : ℕ → Bool → ℕ → ℕ
decide d v x = cond v (x + 2 ^ d) x

-- the first d atoms have values that they may have
abbrev pub Fits : Course → ℕ → ℕ → Type 0
Fits c d x = (a : ℕ) → a < d → T (c.may a (has x a))

-- what the descent asks is what the course says of a choice of n atoms, which choices are kept, and what they are judged
pub record Tied (c : Course) (n : ℕ) (kept : Choice → Bool) (judge : Choice → ℕ → Outcome) (t : Asked) : Type 0 where
  pub closes : (d k x : ℕ) (v : Bool) → suc d + k ≡ n → x < 2 ^ d → c.closed d x ≡ false → t.closes k v (place n (decide d v x)) ≡ c.closed (suc d) (decide d v x)
  pub visits : (d k x : ℕ) (v : Bool) → suc d + k ≡ n → x < 2 ^ d → T (kept (choice d x)) → t.visits k v (place n (decide d v x)) ≡ (c.may d v && kept (choice (suc d) (decide d v x)))
  -- below a choice that is not kept, none is
  pub dropped : (left d x : ℕ) → d + left ≡ n → x < 2 ^ d → kept (choice d x) ≡ false → filter kept (visited c left d x) ≡ []
  pub partial : (k : Choice) (u : ℕ) → k.decided < n → judge k u ≡ Nothing u
  pub closed : (x u : ℕ) → x < 2 ^ n → c.closed n x ≡ true → judge (choice n x) u ≡ Nothing u
  pub ends : (x u : ℕ) → x < 2 ^ n → Fits c n x → c.closed n x ≡ false → judge (choice n x) u ≡ t.ends (place n x) u
