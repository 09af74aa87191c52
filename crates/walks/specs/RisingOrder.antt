-- Document 01's order, by rising number. It stays for one theorem: where neither order's budget is spent, verdicts and the set of states agree (document 02, W-206).
use Rattle.std.specs.Prelude.{ℕ, ◌^◌, ◌<◌, ◌≡◌, ◌↔◌, List, length, drop}
use Rattle.rules.specs.Lists.{Any, from}
use Rattle.rules.specs.Rules.{Rule}
use Rattle.places.specs.Places.{place}
use Rattle.walks.specs.Walk.{capped, capped_next}
use Rattle.walks.specs.FullWalk.{agreeing, proper_subsets, preferred_by, stable_by, next_by, full_preferred, full_stable, full_next}
use Rattle.walks.specs.Listings.{listed, NeverSpent}
use Rattle.walks.specs.declared.answers.Verdict.{Verdict}
use Rattle.walks.specs.declared.answers.Verdict.TheVariants.{Yes, Broken, Beaten, Spent, Refused}
use Rattle.walks.specs.declared.answers.NextState.{NextState}

unfoldable pub rising_order : ℕ → List ℕ
rising_order n = from 0 (2 ^ n)

abbrev pub rising_needs : List ℕ → List (Rule ℕ) → ℕ → Verdict
rising_needs ws rs m = preferred_by ws rs m (agreeing ws m (rising_order (length ws)))

abbrev pub rising_preferred : List ℕ → List (Rule ℕ) → ℕ → ℕ → Verdict
rising_preferred ws rs m budget = capped budget (rising_needs ws rs m)

abbrev pub rising_stable : ℕ → List (Rule ℕ) → ℕ → ℕ → Verdict
rising_stable n rs m budget = capped budget (stable_by rs m (proper_subsets m (rising_order n)))

abbrev pub rising_next : List ℕ → List (Rule ℕ) → ℕ → ℕ → NextState
rising_next ws rs start budget = capped_next budget (next_by (rising_needs ws rs) (drop start (rising_order (length ws))))

-- a verdict's case and broken rule, without the better set and the units
abbrev pub case_of : Verdict → Verdict
case_of (Yes u) = Yes 0
case_of (Broken i) = Broken i
case_of (Beaten s u) = Beaten 0 0
case_of (Spent u) = Spent 0
case_of (Refused f) = Refused f

-- the same case and broken rule, where neither is spent
abbrev pub SameUnspent : Verdict → Verdict → Type 0
SameUnspent v w = ((u : ℕ) → v ≡ Spent u → ⊥) → ((u : ℕ) → w ≡ Spent u → ⊥) → case_of v ≡ case_of w

-- a number is the place of its set in this order; the two orders have budgets of their own
pub record OrdersAgree : Type 0 where
  pub preferred : (ws : List ℕ) (rs : List (Rule ℕ)) (m b c : ℕ) → SameUnspent (full_preferred ws rs m b) (rising_preferred ws rs m c)
  pub stable : (n : ℕ) (rs : List (Rule ℕ)) (m b c : ℕ) → m < 2 ^ n → SameUnspent (full_stable n rs m b) (rising_stable n rs m c)
  pub states : (ws : List ℕ) (rs : List (Rule ℕ)) (b c k : ℕ) → 2 ^ length ws < k
      → NeverSpent (place (length ws)) ws rs (λ t. full_next ws rs t b)
      → NeverSpent (λ s. s) ws rs (λ t. rising_next ws rs t c)
      → (s : ℕ) → Any (λ x. x ≡ s) (listed (place (length ws)) (λ t. full_next ws rs t b) k 0) ↔ Any (λ x. x ≡ s) (listed (λ s. s) (λ t. rising_next ws rs t c) k 0)
