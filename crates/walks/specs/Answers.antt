-- The answers over a store's words: refusals 10, 11, 12, 13 in this order, then what is asked for (document 01, "Who can be turned back").
use Rattle.std.specs.Prelude.{ℕ, ◌^◌, Bool, cond, Result, Ok, Err, List, leb, ltb}
use Rattle.kinds.specs.Limits.{walk_atoms, budget_limit}
use Rattle.kinds.specs.declared.limits.Kind.{Kind}
use Rattle.kinds.specs.declared.limits.Kind.TheVariants.{Plain, Preference}
use Rattle.kinds.specs.declared.refusals.Refusal.{Refusal}
use Rattle.kinds.specs.declared.refusals.Refusal.TheVariants.{RuleStore as NoStore, TooManyAtoms, SetNumber, Budget}
use Rattle.stores.specs.RuleStore.{decode, rule_store, is_of}
use Rattle.walks.specs.declared.answers.Verdict.{Verdict}
use Rattle.walks.specs.declared.answers.Verdict.TheVariants.{Refused as VerdictRefused}
use Rattle.walks.specs.declared.answers.NextState.{NextState}
use Rattle.walks.specs.declared.answers.NextState.TheVariants.{Refused as NextRefused}
use Rattle.places.specs.Places.{place}
use Rattle.walks.specs.Walk.{preferred_verdict, stable_verdict, next_verdict}

-- the caller's faults in their order; `inside` says of 2^n whether the set or the start lies within
abbrev pub unlimited : {A : Type 0} → (Refusal → A) → Kind → List ℕ → (ℕ → Bool) → A → A
unlimited refuse kind ws inside answer =
    cond (is_of kind (rule_store ws))
    (cond (leb (decode ws).atoms walk_atoms)
    (cond (inside (2 ^ (decode ws).atoms)) answer (refuse SetNumber))
    (refuse TooManyAtoms))
    (refuse NoStore)

-- and of a call with a budget
abbrev pub guarded : {A : Type 0} → (Refusal → A) → Kind → List ℕ → (ℕ → Bool) → ℕ → A → A
guarded refuse kind ws inside budget answer = unlimited refuse kind ws inside (cond (leb budget budget_limit) answer (refuse Budget))

unfoldable pub preferred_answer : List ℕ → ℕ → ℕ → Verdict
preferred_answer ws set budget = guarded VerdictRefused Preference ws (ltb set) budget (preferred_verdict (decode ws).words (decode ws).rules set budget)

unfoldable pub stable_answer : List ℕ → ℕ → ℕ → Verdict
stable_answer ws set budget = guarded VerdictRefused Plain ws (ltb set) budget (stable_verdict (decode ws).atoms (decode ws).rules set budget)

unfoldable pub next_answer : List ℕ → ℕ → ℕ → NextState
next_answer ws start budget = guarded NextRefused Preference ws (leb start) budget (next_verdict (decode ws).words (decode ws).rules start budget)

-- a set's place (document 02, W-206)
unfoldable pub place_answer : List ℕ → ℕ → Result ℕ Refusal
place_answer ws set = unlimited Err Preference ws (ltb set) (Ok (place (decode ws).atoms set))
