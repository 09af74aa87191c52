-- Partial choices and those that a walk visits (document 02, W-207).
use Rattle.std.specs.Prelude.{ℕ, zero, suc, ◌+◌, ◌-◌, ◌^◌, ◌<◌, Bool, true, false, not, cond, ◌&&◌, List, [], ◌∷◌, ◌++◌, eqb, ltb, leb}
use Rattle.rules.specs.Lists.{All, every, some, from}
use Rattle.rules.specs.Sets.{has}
use Rattle.rules.specs.Rules.{Rule}
use Rattle.places.specs.Places.{place}

-- the first atoms are decided; of these the set has those that are in
pub record Choice : Type 0 where
  pub decided : ℕ
  pub taken : ℕ

abbrev pub choice : ℕ → ℕ → Choice
choice d x = record { decided = d; taken = x }

abbrev pub is_in : ℕ → ℕ → ℕ → Bool
is_in d x a = ltb a d && has x a

abbrev pub is_out : ℕ → ℕ → ℕ → Bool
is_out d x a = ltb a d && not (has x a)

-- all its body is in, all its head and all its `not` atoms are out, and all of them are decided
abbrev pub is_broken : ℕ → ℕ → Rule ℕ → Bool
is_broken d x r = every (is_in d x) r.body && (every (is_out d x) r.nots && every (is_out d x) r.head)

-- some rule is broken, whatever is decided next
unfoldable pub is_closed : List (Rule ℕ) → ℕ → ℕ → Bool
is_closed rs d x = some (is_broken d x) rs

-- the atoms of the rules are below n
abbrev pub RuleBelow : ℕ → Rule ℕ → Type 0
RuleBelow n r = All (λ a. a < n) r.body × All (λ a. a < n) r.nots × All (λ a. a < n) r.head

abbrev pub RulesBelow : ℕ → List (Rule ℕ) → Type 0
RulesBelow n rs = All (RuleBelow n) rs

-- What a walk does with a choice, by atoms decided and set: nothing lies below a closed one, and atom a may have the value v where `may a v`.
pub record Course : Type 0 where
  pub closed : ℕ → ℕ → Bool
  pub may : ℕ → Bool → Bool

-- the choices visited from (d, x) on, with `left` atoms to be decided: out before in
unfoldable pub visited : Course → ℕ → ℕ → ℕ → List Choice
visited c zero d x = choice d x ∷ []
visited c (suc left) d x =
    let out = cond (c.may d false) (visited c left (suc d) x) [] in
    let into = cond (c.may d true) (visited c left (suc d) (x + 2 ^ d)) [] in
    choice d x ∷ cond (c.closed d x) [] (out ++ into)

-- all n atoms are decided
abbrev pub is_final : ℕ → Choice → Bool
is_final n k = eqb k.decided n

-- the final choice s
abbrev pub is_set : ℕ → ℕ → Choice → Bool
is_set n s k = is_final n k && eqb k.taken s

-- the last place of a choice lies before the start: "a choice lying wholly before the start"
abbrev pub is_before : ℕ → ℕ → Choice → Bool
is_before n start k = leb (place n k.taken + 2 ^ (n - k.decided)) start

-- each atom of s below n has a value that it may have
unfoldable pub is_fitting : Course → ℕ → ℕ → Bool
is_fitting c n s = every (λ a. c.may a (has s a)) (from 0 n)
