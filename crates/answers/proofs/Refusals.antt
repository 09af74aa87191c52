-- The refusals, test by test.
use Prim.Native.Nat.{ℕ, ◌^◌, ◌≤◌, ◌<◌}
use native.Mathlib.Omega.{arith}
use mathlib.Core.Path.{◌≡◌, refl, sym, ap, ◌∙◌, subst}
use mathlib.Core.Logic.{◌↔◌, inl, inr}
use mathlib.Core.Bool.{Bool, true, false, cond}
use mathlib.Core.List.{List, [], ◌++◌}
use lib.Dec.{T, leb, ltb, leb→le, ltb→lt}
use lib.ListN.{length, drop}
use borrow.Author.Tests.{le-leb, lt-leb, leb-false, ltb-false}
use Rattle.std.specs.Prelude.{Option, Some, None, Result, Ok, Err}
use Rattle.kinds.specs.Limits.{stream_limit, walk_atoms, budget_limit}
use Rattle.kinds.specs.declared.limits.Kind.{Kind}
use Rattle.kinds.specs.declared.limits.Kind.TheVariants.{Plain, Preference}
use Rattle.kinds.specs.declared.refusals.Refusal.{Refusal}
use Rattle.kinds.specs.declared.refusals.Refusal.TheVariants.{Output, RuleStore, TooManyAtoms, SetNumber, Budget, NameStore}
use Rattle.rules.specs.Lists.{over}
use Rattle.stores.specs.RuleStore.{decode, is_store, rule_store, is_of}
use Rattle.stores.proofs.RuleStores.{store_law, kind_answered, of_kind_lem}
use Rattle.name_store.specs.NameStore.{are_names}
use Rattle.name_store.proofs.NameStores.{names_law}
use Rattle.faults.proofs.EarliestFault.{said_refused, said_accepted}
use Rattle.lines.specs.Said.{refused}
use Rattle.answers.specs.Writing.{fitted, written_bytes, stores_answer, stores_text, write_answer, write_output}
use Rattle.answers.specs.WritingCanonical.{stores_canonical, canonical_answer, canonical_output}
use Rattle.answers.specs.Translating.{translation_text, stores_translation, translate_answer, translate_output}
use Rattle.walks.specs.declared.answers.Verdict.TheVariants.{Refused as NotJudged}
use Rattle.walks.specs.declared.answers.NextState.TheVariants.{Refused as NotSearched}
use Rattle.walks.specs.Walk.{preferred_verdict, stable_verdict, next_verdict}
use Rattle.places.specs.Places.{place}
use Rattle.walks.specs.Answers.{unlimited, guarded, preferred_answer, stable_answer, next_answer, place_answer}
use Rattle.walks.proofs.Meanings.{preferred_means, stable_means}
use Rattle.walks.proofs.NextStates.{next_means}
use Rattle.answers.specs.Printed.{shown}
use Rattle.answers.specs.Listed.{whole_listing, streamed, states_of}
use Rattle.answers.specs.Programs.{printed, translate_printed, states_printed}
use Rattle.answers.specs.Refusals.{PrintsInto, Streams, PrintRefuses, Tested, NoOther, Passes, NoStore, NoStoreOf, NoNames, TooShort, StoresRefused, StoresPass, NumberRefused, Writes, WritesText, WriteRefuses, CanonicalRefuses, TranslateRefuses, CallRefused, VerdictRefuses}

-- one test of an answer: where it fails, the refusal x
module _ {A : Type 0} (refuse : Refusal → A) (inj : (x y : Refusal) → refuse x ≡ refuse y → x ≡ y) {Sentence : Type 0} (b : Bool) (law : Sentence ↔ (T b → ⊥)) (x : Refusal) where
  pub refused_by : {v : A} (later : Refusal → Type 0) (r : Refusal) → (T b → v ≡ refuse r ↔ later r) → cond b v (refuse x) ≡ refuse r ↔ Tested x Sentence later r
  refused_by {v} later r rest = step b law rest
    where
      step : (b : Bool) → Sentence ↔ (T b → ⊥) → (T b → v ≡ refuse r ↔ later r) → cond b v (refuse x) ≡ refuse r ↔ Tested x Sentence later r
      step true l q = (
        λ e. inr (λ s. l.0 s tt, (q tt).0 e),
        λ h. (q tt).1 (later_only h),
      )
        where
          later_only : Tested x Sentence later r → later r
          later_only (inl h) = absurd (l.0 h.1 tt)
          later_only (inr h) = h.1
      step false l q = (
        λ e. inl (sym (inj x r e), l.1 (λ t. t)),
        λ h. here h,
      )
        where
          here : Tested x Sentence later r → refuse x ≡ refuse r
          here (inl h) = ap refuse (sym h.0)
          here (inr h) = absurd (h.0 (l.1 (λ t. t)))

  pub passed_by : {v : A} {Later : Type 0} (w : A) → (refuse x ≡ w → ⊥) → (T b → v ≡ w ↔ Later) → cond b v (refuse x) ≡ w ↔ Passes Sentence Later
  passed_by {v} {Later} w other rest = step b law rest
    where
      step : (b : Bool) → Sentence ↔ (T b → ⊥) → (T b → v ≡ w ↔ Later) → cond b v (refuse x) ≡ w ↔ Passes Sentence Later
      step true l q = (λ e. (λ s. l.0 s tt, (q tt).0 e), λ h. (q tt).1 h.1)
      step false l q = (λ e. absurd (other e), λ h. absurd (h.0 (l.1 (λ t. t))))

-- what each test says

pub no_store : (rules : List ℕ) → NoStore rules ↔ (T (is_store rules) → ⊥)
no_store rules = (λ h t. let s = (store_law rules).0 t in h s.0 s.1, λ h p s. h ((store_law rules).1 (p, s)))

no_names : (rules bytes : List ℕ) → NoNames rules bytes ↔ (T (are_names (decode rules).kind (decode rules).atoms bytes) → ⊥)
no_names rules bytes = (λ h t. let s = (names_law (decode rules).kind (decode rules).atoms bytes).0 t in h s.0 s.1, λ h n s. h ((names_law (decode rules).kind (decode rules).atoms bytes).1 (n, s)))

-- a number past a limit
pub past : (n limit : ℕ) → limit < n ↔ (T (leb n limit) → ⊥)
past n limit = (λ h t. omega (arith, leb→le n limit t), λ h. step (leb n limit) refl h)
  where
    step : (b : Bool) → leb n limit ≡ b → (T b → ⊥) → limit < n
    step true e f = absurd (f tt)
    step false e f = leb-false n limit e

-- a store of the other kind is none
no_store_of : (kind : Kind) (rules : List ℕ) → NoStoreOf kind rules ↔ (T (is_of kind (rule_store rules)) → ⊥)
no_store_of kind rules = (
  λ h t. step (rule_store rules) refl h t,
  λ h p s k. h (subst (λ (r : Option Kind). T (is_of kind r)) (sym (kind_answered rules p s)) (subst (λ (c : Kind). T (is_of kind (Some c))) (sym k) (same kind))),
)
  where
    same : (k : Kind) → T (is_of k (Some k))
    same Plain = tt
    same Preference = tt

    is_kind : (k j : Kind) → T (is_of k (Some j)) → j ≡ k
    is_kind Plain Plain t = refl
    is_kind Plain Preference t = absurd t
    is_kind Preference Plain t = absurd t
    is_kind Preference Preference t = refl

    none : (k : Kind) → T (is_of k None) → ⊥
    none Plain t = t
    none Preference t = t

    step : (r : Option Kind) → rule_store rules ≡ r → NoStoreOf kind rules → T (is_of kind r) → ⊥
    step (Some k) e h t = let o = of_kind_lem rules k e in h (decode rules) o.0 (o.1 ∙ is_kind kind k t)
    step None e h t = none kind t

-- an output, by its answer

written_inj : (x y : Refusal) → ◌≡◌ {A = Result ℕ Refusal} (Err x) (Err y) → x ≡ y
written_inj x y e = cc

never_text : {x : Refusal} {size : ℕ} → Err x ≡ Ok size → ⊥
never_text e = let z : ◌≡◌ {A = ℕ} 0 1 = cc in omega arith

no_refusal : {size : ℕ} {r : Refusal} → Ok size ≡ Err r → ⊥
no_refusal e = let z : ◌≡◌ {A = ℕ} 0 1 = cc in omega arith

size_of : {k size : ℕ} → ◌≡◌ {A = Result ℕ Refusal} (Ok k) (Ok size) ↔ (size ≡ k)
size_of {k} {size} = (λ e. let z : k ≡ size = cc in sym z, λ e. ap Ok (sym e))

none_other : {v : Result ℕ Refusal} {size : ℕ} (r : Refusal) → v ≡ Ok size → v ≡ Err r ↔ NoOther r
none_other r e = (λ f. no_refusal (sym e ∙ f), λ h. absurd h)

module _ (text : List ℕ) (room : ℕ) where
  fitted_refused : (r : Refusal) → fitted text room ≡ Err r ↔ Tested Output (TooShort text room) NoOther r
  fitted_refused r = refused_by Err written_inj (leb (length text) room) (past (length text) room) Output NoOther r (λ t. none_other r refl)

  fitted_written : (size : ℕ) → fitted text room ≡ Ok size ↔ ((TooShort text room → ⊥) × (size ≡ length text))
  fitted_written size = passed_by Err written_inj (leb (length text) room) (past (length text) room) Output (Ok size) never_text (λ t. size_of)

-- what is written, by the answer
writes : (answer : Result ℕ Refusal) (text before : List ℕ) → ((size : ℕ) → answer ≡ Ok size → size ≡ length text) → Writes answer text before (over (written_bytes answer text) before)
writes answer text before sizes = record {
  refused = λ r e. ap (λ (a : Result ℕ Refusal). over (written_bytes a text) before) e;
  written = λ size e. ap (λ (a : Result ℕ Refusal). over (written_bytes a text) before) e ∙ ap (λ (k : ℕ). text ++ drop k before) (sym (sizes size e));
}

-- a writer, from its two tests
module _ {NoRules : Type 0} (rules names text before : List ℕ) (a b : Bool) (law : NoRules ↔ (T a → ⊥)) (named : T a → NoNames rules names ↔ (T b → ⊥)) where
  abbrev answer : Result ℕ Refusal
  answer = cond a (cond b (fitted text (length before)) (Err NameStore)) (Err RuleStore)

  passes : (size : ℕ) → answer ≡ Ok size ↔ Passes NoRules (StoresPass rules names text (length before) (size ≡ length text))
  passes size =
      passed_by Err written_inj a law RuleStore (Ok size) never_text (λ t.
      passed_by Err written_inj b (named t) NameStore (Ok size) never_text (λ u. fitted_written text (length before) size))

  writes_text : WritesText NoRules rules names text before answer (over (written_bytes answer text) before)
  writes_text = record {
    refused = λ r. refused_by Err written_inj a law RuleStore (StoresRefused rules names text (length before)) r (λ t.
        refused_by Err written_inj b (named t) NameStore (Tested Output (TooShort text (length before)) NoOther) r (λ u. fitted_refused text (length before) r));
    written = passes;
    output = writes answer text before (λ size e. ((passes size).0 e).1.1.1);
  }

stores_text_lem : (rules names text before : List ℕ)
    → WritesText (NoStore rules) rules names text before (stores_answer rules names text (length before)) (over (written_bytes (stores_answer rules names text (length before)) text) before)
stores_text_lem rules names text before = writes_text rules names text before (is_store rules) (are_names (decode rules).kind (decode rules).atoms names) (no_store rules) (λ t. no_names rules names)

pub write_refuses : (rules names before : List ℕ) → WriteRefuses rules names before
unfolding write_answer write_output
write_refuses rules names before = stores_text_lem rules names (stores_text rules names) before

pub canonical_refuses : (rules names before : List ℕ) → CanonicalRefuses rules names before
unfolding canonical_answer canonical_output
canonical_refuses rules names before = stores_text_lem rules names (stores_canonical rules names) before

-- the translator: past the first test the kind is Preference

kind_is : (rules : List ℕ) → T (is_of Preference (rule_store rules)) → (decode rules).kind ≡ Preference
kind_is rules t = step (rule_store rules) refl t
  where
    step : (r : Option Kind) → rule_store rules ≡ r → T (is_of Preference r) → (decode rules).kind ≡ Preference
    step (Some Plain) e t = absurd t
    step (Some Preference) e t = (of_kind_lem rules Preference e).1
    step None e t = absurd t

no_preference_names : (rules bytes : List ℕ) → T (is_of Preference (rule_store rules)) → NoNames rules bytes ↔ (T (are_names Preference (decode rules).atoms bytes) → ⊥)
no_preference_names rules bytes t = subst (λ (k : Kind). NoNames rules bytes ↔ (T (are_names k (decode rules).atoms bytes) → ⊥)) (kind_is rules t) (no_names rules bytes)

pub translate_refuses : (rules names before : List ℕ) → TranslateRefuses rules names before
unfolding translate_answer translate_output
translate_refuses rules names before =
    writes_text rules names (stores_translation rules names) before (is_of Preference (rule_store rules)) (are_names Preference (decode rules).atoms names)
    (no_store_of Preference rules) (no_preference_names rules names)

-- the verdicts and the lister

module _ {A : Type 0} (refuse : Refusal → A) (inj : (x y : Refusal) → refuse x ≡ refuse y → x ≡ y) (kind : Kind) (rules : List ℕ) (Outside : ℕ → Type 0) (inside : ℕ → Bool)
    (law : (top : ℕ) → Outside top ↔ (T (inside top) → ⊥)) (answer : A) where
  number_refused : (later : Refusal → Type 0) (r : Refusal) → (T (inside (2 ^ (decode rules).atoms)) → answer ≡ refuse r ↔ later r) → unlimited refuse kind rules inside answer ≡ refuse r ↔ NumberRefused kind rules Outside later r
  number_refused later r rest =
      refused_by refuse inj (is_of kind (rule_store rules)) (no_store_of kind rules) RuleStore (Tested TooManyAtoms (walk_atoms < (decode rules).atoms) (Tested SetNumber (Outside (2 ^ (decode rules).atoms)) later)) r (λ t.
      refused_by refuse inj (leb (decode rules).atoms walk_atoms) (past (decode rules).atoms walk_atoms) TooManyAtoms (Tested SetNumber (Outside (2 ^ (decode rules).atoms)) later) r (λ u.
      refused_by refuse inj (inside (2 ^ (decode rules).atoms)) (law (2 ^ (decode rules).atoms)) SetNumber later r rest))

module _ {A : Type 0} (refuse : Refusal → A) (inj : (x y : Refusal) → refuse x ≡ refuse y → x ≡ y) (kind : Kind) (rules : List ℕ) (Outside : ℕ → Type 0) (inside : ℕ → Bool)
    (law : (top : ℕ) → Outside top ↔ (T (inside top) → ⊥)) (budget : ℕ) (answer : A) (never : T (inside (2 ^ (decode rules).atoms)) → (r : Refusal) → answer ≡ refuse r → ⊥) where
  call_refused : (r : Refusal) → guarded refuse kind rules inside budget answer ≡ refuse r ↔ CallRefused kind rules Outside budget r
  call_refused r =
      number_refused refuse inj kind rules Outside inside law (cond (leb budget budget_limit) answer (refuse Budget)) (Tested Budget (budget_limit < budget) NoOther) r (λ v.
      refused_by refuse inj (leb budget budget_limit) (past budget budget_limit) Budget NoOther r (λ w. (λ e. never v r e, λ h. absurd h)))

pub outside : (number top : ℕ) → top ≤ number ↔ (T (ltb number top) → ⊥)
outside number top = (λ h t. omega (arith, ltb→lt number top t), λ h. step (ltb number top) refl h)
  where
    step : (b : Bool) → ltb number top ≡ b → (T b → ⊥) → top ≤ number
    step true e f = absurd (f tt)
    step false e f = ltb-false number top e

pub verdict_refuses : (rules : List ℕ) (number budget : ℕ) → VerdictRefuses rules number budget
unfolding preferred_answer stable_answer next_answer place_answer
verdict_refuses rules number budget = record {
  preferred = λ r. call_refused NotJudged (λ x y e. cc) Preference rules (λ top. top ≤ number) (ltb number) (outside number) budget
      (preferred_verdict (decode rules).words (decode rules).rules number budget) (λ v. (preferred_means (decode rules).words (decode rules).rules number budget).never_refused) r;
  stable = λ r. call_refused NotJudged (λ x y e. cc) Plain rules (λ top. top ≤ number) (ltb number) (outside number) budget
      (stable_verdict (decode rules).atoms (decode rules).rules number budget)
      (λ v. (stable_means (decode rules).atoms (decode rules).rules number (ltb→lt number (2 ^ (decode rules).atoms) v) budget).never_refused) r;
  next_state = λ r. call_refused NotSearched (λ x y e. cc) Preference rules (λ top. top < number) (leb number) (past number) budget
      (next_verdict (decode rules).words (decode rules).rules number budget)
      (λ v. (next_means (decode rules).words (decode rules).rules number budget).never_refused) r;
  place = λ r. number_refused Err (λ x y e. cc) Preference rules (λ top. top ≤ number) (ltb number) (outside number) (Ok (place (decode rules).atoms number)) NoOther r (λ v. (
    λ e. absurd (let z : ◌≡◌ {A = ℕ} 0 1 = cc in omega arith),
    λ h. absurd h,
  ));
}

-- the programs

streams : {printed : List ℕ} (whole : List ℕ) → printed ≡ streamed whole → Streams whole printed
streams whole e = record { fits = λ l. e ∙ rw (le-leb (length whole) stream_limit l); past = λ l. e ∙ rw (lt-leb (length whole) stream_limit l) }

pub print_refuses : (text : List ℕ) → PrintRefuses text
unfolding translate_printed states_printed printed states_of
print_refuses text = record {
  too_long = λ l. (rw (lt-leb (length text) stream_limit l), rw (lt-leb (length text) stream_limit l));
  refused = λ s r line h. let e = (said_refused text r line).1 h in (rw (le-leb (length text) stream_limit s, e), rw (le-leb (length text) stream_limit s, e));
  plain = λ s p names a k. let e = (said_accepted text p names).1 a in (rw (le-leb (length text) stream_limit s, e, k), rw (le-leb (length text) stream_limit s, e, k));
  many_atoms = λ s p names a k m. let e = (said_accepted text p names).1 a in rw (le-leb (length text) stream_limit s, e, k, lt-leb p.atoms walk_atoms m);
  translated = λ s p names a k. let e = (said_accepted text p names).1 a in streams (translation_text p names) (rw (le-leb (length text) stream_limit s, e, k));
  listed = λ s p names a k few. let e = (said_accepted text p names).1 a in streams (whole_listing p names) (rw (le-leb (length text) stream_limit s, e, k, le-leb p.atoms walk_atoms few));
}

pub prints_into : (text before : List ℕ) → PrintsInto text before
unfolding shown
prints_into text before = record {
  all = λ l. ap (λ (b : Bool). over (cond b text []) before) (le-leb (length text) (length before) l);
  nothing = λ l. ap (λ (b : Bool). over (cond b text []) before) (lt-leb (length text) (length before) l);
}
