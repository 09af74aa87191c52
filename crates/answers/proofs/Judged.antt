-- The answers mean what the verdicts mean.
use Prim.Native.Nat.{ℕ, ◌^◌}
use mathlib.Core.Path.{◌≡◌, refl, sym, ap, ◌∙◌}
use mathlib.Core.Bool.{Bool, true}
use mathlib.Core.List.{List}
use lib.Dec.{leb, ltb}
use borrow.Author.Tests.{le-leb, lt-ltb}
use Rattle.std.specs.Prelude.{Some, Ok, Err}
use Rattle.kinds.specs.Limits.{walk_atoms, budget_limit}
use Rattle.kinds.specs.declared.limits.Kind.{Kind}
use Rattle.kinds.specs.declared.limits.Kind.TheVariants.{Plain, Preference}
use Rattle.kinds.specs.declared.refusals.Refusal.{Refusal}
use Rattle.stores.specs.Program.{Program}
use Rattle.stores.specs.RuleStore.{decode, rule_store, is_of}
use Rattle.stores.proofs.RuleStores.{only_decoded, kind_answered}
use Rattle.walks.specs.declared.answers.Verdict.TheVariants.{Refused as NotJudged}
use Rattle.walks.specs.declared.answers.NextState.TheVariants.{Refused as NotSearched}
use Rattle.places.specs.Places.{place}
use Rattle.walks.specs.Walk.{preferred_verdict, stable_verdict, next_verdict}
use Rattle.walks.specs.Answers.{guarded, preferred_answer, stable_answer, next_answer, place_answer}
use Rattle.walks.proofs.Meanings.{preferred_means, stable_means}
use Rattle.walks.proofs.NextStates.{next_means}
use Rattle.answers.specs.Judged.{Called, Judges}

same_kind : (k : Kind) → is_of k (Some k) ≡ true
same_kind Plain = refl
same_kind Preference = refl

module _ {kind : Kind} {rules : List ℕ} {p : Program} {budget : ℕ} (c : Called kind rules p budget) where
  -- no refusal holds
  passes : {A : Type 0} (refuse : Refusal → A) (inside : ℕ → Bool) (answer : Program → A) → inside (2 ^ p.atoms) ≡ true → guarded refuse kind rules inside budget (answer (decode rules)) ≡ answer p
  passes refuse inside answer t =
      let e : decode rules ≡ p = sym (only_decoded rules p c.store) in
      let s : is_of kind (rule_store rules) ≡ true = ap (is_of kind) (kind_answered rules p c.store ∙ ap Some c.is_kind) ∙ same_kind kind in
      let a : leb (decode rules).atoms walk_atoms ≡ true = ap (λ (q : Program). leb q.atoms walk_atoms) e ∙ le-leb p.atoms walk_atoms c.few in
      let i : inside (2 ^ (decode rules).atoms) ≡ true = ap (λ (q : Program). inside (2 ^ q.atoms)) e ∙ t in
      rw (s, a, i, le-leb budget budget_limit c.allowed) (ap answer e)

pub judges : (rules : List ℕ) (p : Program) (number budget : ℕ) → Judges rules p number budget
unfolding preferred_answer stable_answer next_answer place_answer
judges rules p number budget = record {
  preferred = λ c l. (
    passes c NotJudged (ltb number) (λ q. preferred_verdict q.words q.rules number budget) (lt-ltb number (2 ^ p.atoms) l),
    preferred_means p.words p.rules number budget,
  );
  stable = λ c l. (
    passes c NotJudged (ltb number) (λ q. stable_verdict q.atoms q.rules number budget) (lt-ltb number (2 ^ p.atoms) l),
    stable_means p.atoms p.rules number l budget,
  );
  next_state = λ c l. (
    passes c NotSearched (leb number) (λ q. next_verdict q.words q.rules number budget) (le-leb number (2 ^ p.atoms) l),
    next_means p.words p.rules number budget,
  );
  place = λ c l. passes c Err (ltb number) (λ q. Ok (place q.atoms number)) (lt-ltb number (2 ^ p.atoms) l);
}
