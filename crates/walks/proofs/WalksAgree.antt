-- Where neither is spent, verdict, better set and next state are those of the full walk (document 02, W-207).
use Prim.Native.Nat.{ℕ, ◌≤◌, ◌<◌}
use mathlib.Core.Path.{◌≡◌, sym, ap, ◌∙◌}
use native.Mathlib.Omega.{arith}
use native.Mathlib.Decide.{dec_le}
use Rattle.walks.specs.Walk.{capped, capped_next, preferred_needs, stable_needs, next_needs, preferred_verdict, stable_verdict, next_verdict}
use Rattle.walks.specs.FullWalk.{full_preferred_needs, full_stable_needs, full_next_needs, full_preferred, full_stable, full_next, bare, bare_next, SameVerdict, SameNext, WalksAgree}
use Rattle.walks.specs.declared.answers.Verdict.{Verdict}
use Rattle.walks.specs.declared.answers.Verdict.TheVariants.{Spent}
use Rattle.walks.specs.declared.answers.NextState.{NextState}
use Rattle.walks.specs.declared.answers.NextState.TheVariants.{Spent as NextSpent}
use Rattle.walks.proofs.Searches.{Answered, units_of, capped_within, capped_over}
use Rattle.walks.proofs.FirstStates.{NextAnswered, next_units, next_within, next_over_lem}
use Rattle.walks.proofs.FullWalk.{full_answered, full_stable_lem}
use Rattle.walks.proofs.Agreement.{preferred_same, stable_same}
use Rattle.walks.proofs.Meanings.{preferred_answered, stable_judged}
use Rattle.walks.proofs.NextAgreement.{next_same_bare}
use Rattle.walks.proofs.NextStates.{next_found, full_found}

-- an answer that is not spent is the one without a budget
module _ {A : Type 0} (units : A → ℕ) (Answer : A → Type 0) (spent : ℕ → A) (cap : ℕ → A → A)
    (inside : (b : ℕ) (v : A) → Answer v → units v ≤ b → cap b v ≡ v) (over : (b : ℕ) (v : A) → Answer v → b < units v → cap b v ≡ spent b) where
  unspent : (b : ℕ) (v : A) → Answer v → ((u : ℕ) → cap b v ≡ spent u → ⊥) → cap b v ≡ v
  unspent b v a n = step (dec_le (units v) b)
    where
      step : Dec (units v ≤ b) → cap b v ≡ v
      step (yes h) = inside b v a h
      step (no h) = absurd (n b (over b v a (omega arith)))

  same_unspent : (without : A → A) (v w : A) → Answer v → Answer w → without v ≡ without w → (b c : ℕ) → ((u : ℕ) → cap b v ≡ spent u → ⊥) → ((u : ℕ) → cap c w ≡ spent u → ⊥) → without (cap b v) ≡ without (cap c w)
  same_unspent without v w p q e b c n o = ap without (unspent b v p n) ∙ e ∙ sym (ap without (unspent c w q o))

abbrev verdicts : (v w : Verdict) → Answered v → Answered w → bare v ≡ bare w → (b c : ℕ) → SameVerdict (capped b v) (capped c w)
verdicts v w p q e b c = same_unspent units_of Answered Spent capped capped_within capped_over bare v w p q e b c

abbrev nexts : (v w : NextState) → NextAnswered v → NextAnswered w → bare_next v ≡ bare_next w → (b c : ℕ) → SameNext (capped_next b v) (capped_next c w)
nexts v w p q e b c = same_unspent next_units NextAnswered NextSpent capped_next next_within next_over_lem bare_next v w p q e b c

pub walks_agree : WalksAgree
unfolding preferred_verdict stable_verdict next_verdict full_preferred full_stable full_next
walks_agree = record {
  preferred = λ ws rs m b c. verdicts (preferred_needs ws rs m) (full_preferred_needs ws rs m) (preferred_answered ws rs m) (full_answered ws rs m) (preferred_same ws rs m) b c;
  stable = λ n rs m b c l. verdicts (stable_needs n rs m) (full_stable_needs n rs m) (stable_judged n rs m l).answered (full_stable_lem n rs m l).answered (stable_same n rs m) b c;
  next = λ ws rs t b c. nexts (next_needs ws rs t) (full_next_needs ws rs t) ((next_found ws rs).answered t) ((full_found ws rs).answered t) (next_same_bare ws rs t) b c;
}
