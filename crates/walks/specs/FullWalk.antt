-- The full walk, set by set (document 01, in the order of document 02, W-206). It stays for a theorem: where neither is spent, its verdict, better set and next state are those of the walk that stops at a broken rule (document 02, W-207). What the answers mean is proved from it too.
use Rattle.std.specs.Prelude.{ℕ, ◌^◌, ◌<◌, ◌≡◌, Bool, true, not, ◌&&◌, List, eqb, length, drop}
use Rattle.kinds.specs.Limits.{fixed}
use Rattle.rules.specs.Lists.{filter}
use Rattle.rules.specs.Sets.{has}
use Rattle.rules.specs.Rules.{Rule, reduct, is_model}
use Rattle.rules.specs.Stable.{is_subset}
use Rattle.rules.specs.Preferred.{of_class, are_agreeing, is_beating}
use Rattle.walks.specs.Order.{walk_order}
use Rattle.walks.specs.Walk.{verdict_by, capped, first_state, capped_next, preferred_verdict, stable_verdict, next_verdict}
use Rattle.walks.specs.declared.answers.Verdict.{Verdict}
use Rattle.walks.specs.declared.answers.Verdict.TheVariants.{Yes, Broken, Beaten, Spent, Refused}
use Rattle.walks.specs.declared.answers.NextState.{NextState}
use Rattle.walks.specs.declared.answers.NextState.TheVariants.{State, Nothing, Spent as NextSpent, Refused as NextRefused}

-- those of some sets that agree with m on the fixed atoms
abbrev pub agreeing : List ℕ → ℕ → List ℕ → List ℕ
agreeing ws m sets = filter (λ s. are_agreeing (of_class ws fixed) s m) sets

abbrev pub is_proper : ℕ → ℕ → Bool
is_proper s m = is_subset s m && not (eqb s m)

-- those of some sets that are proper subsets of m
abbrev pub proper_subsets : ℕ → List ℕ → List ℕ
proper_subsets m sets = filter (λ s. is_proper s m) sets

-- the verdicts and the next state by some walk over sets
abbrev pub preferred_by : List ℕ → List (Rule ℕ) → ℕ → List ℕ → Verdict
preferred_by ws rs m walk = verdict_by (λ s. s) rs m (λ s. is_beating ws rs s m) walk

abbrev pub stable_by : List (Rule ℕ) → ℕ → List ℕ → Verdict
stable_by rs m walk = verdict_by (λ s. s) rs m (λ s. is_model (reduct rs (has m)) (has s)) walk

abbrev pub next_by : (ℕ → Verdict) → List ℕ → NextState
next_by verdict walk = first_state (λ s. s) (λ s. true) verdict walk 0

unfoldable pub full_preferred_needs : List ℕ → List (Rule ℕ) → ℕ → Verdict
full_preferred_needs ws rs m = preferred_by ws rs m (agreeing ws m (walk_order (length ws)))

unfoldable pub full_stable_needs : ℕ → List (Rule ℕ) → ℕ → Verdict
full_stable_needs n rs m = stable_by rs m (proper_subsets m (walk_order n))

unfoldable pub full_next_needs : List ℕ → List (Rule ℕ) → ℕ → NextState
full_next_needs ws rs start = next_by (full_preferred_needs ws rs) (drop start (walk_order (length ws)))

unfoldable pub full_preferred : List ℕ → List (Rule ℕ) → ℕ → ℕ → Verdict
full_preferred ws rs m budget = capped budget (full_preferred_needs ws rs m)

unfoldable pub full_stable : ℕ → List (Rule ℕ) → ℕ → ℕ → Verdict
full_stable n rs m budget = capped budget (full_stable_needs n rs m)

unfoldable pub full_next : List ℕ → List (Rule ℕ) → ℕ → ℕ → NextState
full_next ws rs start budget = capped_next budget (full_next_needs ws rs start)

-- an answer without its units
abbrev pub bare : Verdict → Verdict
bare (Yes u) = Yes 0
bare (Broken i) = Broken i
bare (Beaten s u) = Beaten s 0
bare (Spent u) = Spent 0
bare (Refused f) = Refused f

abbrev pub bare_next : NextState → NextState
bare_next (State s u) = State s 0
bare_next (Nothing u) = Nothing 0
bare_next (NextSpent u) = NextSpent 0
bare_next (NextRefused f) = NextRefused f

abbrev pub SameVerdict : Verdict → Verdict → Type 0
SameVerdict v w = ((u : ℕ) → v ≡ Spent u → ⊥) → ((u : ℕ) → w ≡ Spent u → ⊥) → bare v ≡ bare w

abbrev pub SameNext : NextState → NextState → Type 0
SameNext v w = ((u : ℕ) → v ≡ NextSpent u → ⊥) → ((u : ℕ) → w ≡ NextSpent u → ⊥) → bare_next v ≡ bare_next w

-- the two walks have budgets of their own
pub record WalksAgree : Type 0 where
  pub preferred : (ws : List ℕ) (rs : List (Rule ℕ)) (m b c : ℕ) → SameVerdict (preferred_verdict ws rs m b) (full_preferred ws rs m c)
  pub stable : (n : ℕ) (rs : List (Rule ℕ)) (m b c : ℕ) → m < 2 ^ n → SameVerdict (stable_verdict n rs m b) (full_stable n rs m c)
  pub next : (ws : List ℕ) (rs : List (Rule ℕ)) (start b c : ℕ) → SameNext (next_verdict ws rs start b) (full_next ws rs start c)
