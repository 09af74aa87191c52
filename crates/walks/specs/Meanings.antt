-- What each answer means (document 01, "Verdicts").
use Rattle.std.specs.Prelude.{ℕ, suc, ◌+◌, ◌^◌, ◌≤◌, ◌<◌, ◌≡◌, ◌↔◌, ◌⊎◌, List, [], ◌∷◌, length, get_or, take}
use Rattle.kinds.specs.declared.refusals.Refusal.{Refusal}
use Rattle.rules.specs.Lists.{All, Any, Distinct}
use Rattle.rules.specs.Sets.{has, ProperSubset}
use Rattle.rules.specs.Rules.{Rule, Model, FirstBroken, reduct}
use Rattle.rules.specs.Stable.{Stable}
use Rattle.rules.specs.Preferred.{Beats, Preferred}
use Rattle.places.specs.Places.{Earlier, place}
use Rattle.choices.specs.Choices.{Choice, choice}
use Rattle.walks.specs.Walk.{preferred_walk, stable_walk, candidates, preferred_verdict, stable_verdict, next_verdict}
use Rattle.walks.specs.declared.answers.Verdict.TheVariants.{Yes, Broken, Beaten, Spent, Refused}
use Rattle.walks.specs.declared.answers.NextState.TheVariants.{State, Nothing, Spent as NextSpent, Refused as NextRefused}

-- each set of n atoms once, and nothing else
pub record EachSetOnce (n : ℕ) (l : List ℕ) : Type 0 where
  pub once : Distinct l
  pub only : All (λ s. s < 2 ^ n) l
  pub each : (s : ℕ) → s < 2 ^ n → Any (λ x. x ≡ s) l

-- each set of n atoms once, earlier ones first (document 02, W-206)
pub record Ordered (n : ℕ) (l : List ℕ) : Type 0 where
  pub each_once : EachSetOnce n l
  pub earlier_first : (i j : ℕ) → i < j → j < length l → Earlier n (get_or l i 0) (get_or l j 0)

-- x is the first entry of a list that is P, and k entries stand before it; `none` is any entry
pub record First {A : Type 0} (none : A) (P : A → Type 0) (l : List A) (x : A) (k : ℕ) : Type 0 where
  pub inside : k < length l
  pub place : get_or l k none ≡ x
  pub here : P x
  pub earlier : All (λ y. P y → ⊥) (take k l)

-- all n atoms are decided and the set is P
abbrev pub FinalAnd : ℕ → (ℕ → Type 0) → Choice → Type 0
FinalAnd n P k = (k.decided ≡ n) × P k.taken

-- the first choice that is final and whose set is P is s, with k choices before it
abbrev pub FirstFinal : ℕ → (ℕ → Type 0) → List Choice → ℕ → ℕ → Type 0
FirstFinal n P l s k = First (choice 0 0) (FinalAnd n P) l (choice n s) k

-- its place counted from 1 being the units
abbrev pub FirstAt : ℕ → (ℕ → Type 0) → List Choice → ℕ → ℕ → Type 0
FirstAt n P l s u = (k : ℕ) × (u ≡ suc k) × FirstFinal n P l s k

-- s is the earliest set of n atoms, from place a on, that is P
pub record EarliestFrom (P : ℕ → Type 0) (n a s : ℕ) : Type 0 where
  pub inside : s < 2 ^ n
  pub after : a ≤ place n s
  pub here : P s
  pub earliest : (t : ℕ) → t < 2 ^ n → a ≤ place n t → Earlier n t s → P t → ⊥

-- the preferred verdict

-- the units needed, one a choice visited: the whole walk where m is preferred, else up to the first final choice that beats it, that one included
abbrev pub PreferredUnits : List ℕ → List (Rule ℕ) → ℕ → ℕ → Type 0
PreferredUnits ws rs m u =
    (Preferred ws rs m × (u ≡ length (preferred_walk ws rs m)))
    ⊎ ((s : ℕ) × Model rs (has m) × FirstAt (length ws) (λ s. Beats ws rs s m) (preferred_walk ws rs m) s u)

pub record PreferredMeans (ws : List ℕ) (rs : List (Rule ℕ)) (m budget : ℕ) : Type 0 where
  pub yes : (u : ℕ) → preferred_verdict ws rs m budget ≡ Yes u ↔ (Preferred ws rs m × (u ≡ length (preferred_walk ws rs m)) × (u ≤ budget))
  -- no model: the first broken rule
  pub broken : (i : ℕ) → preferred_verdict ws rs m budget ≡ Broken i ↔ FirstBroken rs (has m) i
  -- the first final choice of the walk that beats m, with its place
  pub beaten : (s u : ℕ) → preferred_verdict ws rs m budget ≡ Beaten s u ↔ (Model rs (has m) × FirstAt (length ws) (λ s. Beats ws rs s m) (preferred_walk ws rs m) s u × (u ≤ budget))
  -- no earlier set beats m
  pub earliest : (s u : ℕ) → preferred_verdict ws rs m budget ≡ Beaten s u → (t : ℕ) → t < 2 ^ length ws → Earlier (length ws) t s → Beats ws rs t m → ⊥
  -- exactly when the units needed exceed the budget
  pub spent : (u : ℕ) → preferred_verdict ws rs m budget ≡ Spent u ↔ ((u ≡ budget) × ((n : ℕ) × PreferredUnits ws rs m n × (budget < n)))
  pub never_refused : (f : Refusal) → preferred_verdict ws rs m budget ≡ Refused f → ⊥

-- the stable verdict

abbrev pub StableUnits : ℕ → List (Rule ℕ) → ℕ → ℕ → Type 0
StableUnits n rs m u =
    (Stable rs m × (u ≡ length (stable_walk n rs m)))
    ⊎ ((s : ℕ) × Model rs (has m) × FirstAt n (λ s. Model (reduct rs (has m)) (has s)) (stable_walk n rs m) s u)

pub record StableMeans (n : ℕ) (rs : List (Rule ℕ)) (m budget : ℕ) : Type 0 where
  pub yes : (u : ℕ) → stable_verdict n rs m budget ≡ Yes u ↔ (Stable rs m × (u ≡ length (stable_walk n rs m)) × (u ≤ budget))
  pub broken : (i : ℕ) → stable_verdict n rs m budget ≡ Broken i ↔ FirstBroken rs (has m) i
  -- the first final choice of the walk that is a model of the reduct, with its place
  pub beaten : (s u : ℕ) → stable_verdict n rs m budget ≡ Beaten s u ↔ (Model rs (has m) × FirstAt n (λ s. Model (reduct rs (has m)) (has s)) (stable_walk n rs m) s u × (u ≤ budget))
  -- no earlier one is
  pub earliest : (s u : ℕ) → stable_verdict n rs m budget ≡ Beaten s u → (t : ℕ) → ProperSubset t m → Earlier n t s → Model (reduct rs (has m)) (has t) → ⊥
  pub spent : (u : ℕ) → stable_verdict n rs m budget ≡ Spent u ↔ ((u ≡ budget) × ((k : ℕ) × StableUnits n rs m k × (budget < k)))
  pub never_refused : (f : Refusal) → stable_verdict n rs m budget ≡ Refused f → ⊥

-- the next state

-- a choice costs 1 unit and, if it is final and a model, the units of its verdict
abbrev pub ChoiceUnits : List ℕ → List (Rule ℕ) → Choice → ℕ → Type 0
ChoiceUnits ws rs k c =
    ((FinalAnd (length ws) (λ s. Model rs (has s)) k → ⊥) × (c ≡ 1))
    ⊎ ((u : ℕ) × (k.decided ≡ length ws) × PreferredUnits ws rs k.taken u × (c ≡ suc u))

-- the units of each choice of a list together
abbrev pub TotalUnits : (Choice → ℕ → Type 0) → List Choice → ℕ → Type 0
TotalUnits Units [] u = u ≡ 0
TotalUnits Units (k ∷ l) u = (c v : ℕ) × Units k c × TotalUnits Units l v × (u ≡ c + v)

-- the first preferred set among the candidates, with the units of those up to it
abbrev pub FoundState : List ℕ → List (Rule ℕ) → ℕ → ℕ → ℕ → Type 0
FoundState ws rs start s u = (k : ℕ) × FirstFinal (length ws) (Preferred ws rs) (candidates ws rs start) s k × TotalUnits (ChoiceUnits ws rs) (take (suc k) (candidates ws rs start)) u

-- no candidate is preferred, with the units of all
abbrev pub NoState : List ℕ → List (Rule ℕ) → ℕ → ℕ → Type 0
NoState ws rs start u = All (λ k. FinalAnd (length ws) (Preferred ws rs) k → ⊥) (candidates ws rs start) × TotalUnits (ChoiceUnits ws rs) (candidates ws rs start) u

abbrev pub NextUnits : List ℕ → List (Rule ℕ) → ℕ → ℕ → Type 0
NextUnits ws rs start u = ((s : ℕ) × FoundState ws rs start s u) ⊎ NoState ws rs start u

pub record NextMeans (ws : List ℕ) (rs : List (Rule ℕ)) (start budget : ℕ) : Type 0 where
  pub state : (s u : ℕ) → next_verdict ws rs start budget ≡ State s u ↔ (FoundState ws rs start s u × (u ≤ budget))
  -- the earliest preferred set with its place at the start or after it
  pub earliest : (s u : ℕ) → next_verdict ws rs start budget ≡ State s u → EarliestFrom (Preferred ws rs) (length ws) start s
  pub nothing : (u : ℕ) → next_verdict ws rs start budget ≡ Nothing u ↔ (NoState ws rs start u × (u ≤ budget))
  pub none_after : (u : ℕ) → next_verdict ws rs start budget ≡ Nothing u → (s : ℕ) → s < 2 ^ length ws → start ≤ place (length ws) s → Preferred ws rs s → ⊥
  pub spent : (u : ℕ) → next_verdict ws rs start budget ≡ NextSpent u ↔ ((u ≡ budget) × ((n : ℕ) × NextUnits ws rs start n × (budget < n)))
  pub never_refused : (f : Refusal) → next_verdict ws rs start budget ≡ NextRefused f → ⊥
