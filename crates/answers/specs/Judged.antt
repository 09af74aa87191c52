-- What the answers of the verdicts and of the next state mean (document 01, "Verdicts"), where nothing is refused.
use Rattle.std.specs.Prelude.{ℕ, ◌^◌, ◌≤◌, ◌<◌, ◌≡◌, Ok, List}
use Rattle.kinds.specs.Limits.{walk_atoms, budget_limit}
use Rattle.kinds.specs.declared.limits.Kind.{Kind}
use Rattle.kinds.specs.declared.limits.Kind.TheVariants.{Plain, Preference}
use Rattle.stores.specs.Program.{Program}
use Rattle.stores.specs.RuleStore.{StoreOf}
use Rattle.walks.specs.Walk.{preferred_verdict, stable_verdict, next_verdict}
use Rattle.places.specs.Places.{place}
use Rattle.walks.specs.Answers.{preferred_answer, stable_answer, next_answer, place_answer}
use Rattle.walks.specs.Meanings.{PreferredMeans, StableMeans, NextMeans}

-- a call that is not refused: a store of the kind with at most 60 atoms, and a budget of at most 2^40
pub record Called (kind : Kind) (rules : List ℕ) (p : Program) (budget : ℕ) : Type 0 where
  pub store : StoreOf rules p
  pub is_kind : p.kind ≡ kind
  pub few : p.atoms ≤ walk_atoms
  pub allowed : budget ≤ budget_limit

-- each answer means what it says
pub record Judges (rules : List ℕ) (p : Program) (number budget : ℕ) : Type 0 where
  pub preferred : Called Preference rules p budget → number < 2 ^ p.atoms
      → (preferred_answer rules number budget ≡ preferred_verdict p.words p.rules number budget) × PreferredMeans p.words p.rules number budget
  pub stable : Called Plain rules p budget → number < 2 ^ p.atoms
      → (stable_answer rules number budget ≡ stable_verdict p.atoms p.rules number budget) × StableMeans p.atoms p.rules number budget
  pub next_state : Called Preference rules p budget → number ≤ 2 ^ p.atoms
      → (next_answer rules number budget ≡ next_verdict p.words p.rules number budget) × NextMeans p.words p.rules number budget
  -- a set's place asks for no budget
  pub place : Called Preference rules p 0 → number < 2 ^ p.atoms → place_answer rules number ≡ Ok (place p.atoms number)
