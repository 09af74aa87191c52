-- A line of a clause file is answered with its lowest fault, and passes exactly when it has none.
use Prim.Native.Nat.{ℕ, ◌<◌}
use mathlib.Core.Path.{◌≡◌, refl, sym, ap, ap₂, ◌∙◌, subst₂}
use mathlib.Core.Logic.Iff
use mathlib.Core.Logic.{◌⊎◌, inl, inr, ◌↔◌}
use mathlib.Core.List.{List, [], ◌∷◌, map}
use mathlib.Core.Bool.{Bool, true, false, cond, not, ◌&&◌, ◌||◌}
use lib.Dec.{T, ltb, ltb→lt, lt→ltb}
use Rattle.kinds.specs.Limits.{atom_limit, rule_limit, occurrence_limit}
use Rattle.kinds.specs.declared.limits.Kind.TheVariants.{Preference}
use Rattle.kinds.specs.declared.refusals.Refusal.{Refusal}
use Rattle.kinds.specs.declared.refusals.Refusal.TheVariants.{BrokenClauses, LiteralBeyond, Limit}
use Rattle.rules.specs.Lists.{some, is_empty}
use Rattle.rules.proofs.Booleans.{T-and-r}
use Rattle.rules.proofs.Connectives.{not_law, and_law, or_law}
use Rattle.clauses.specs.Items.{items, is_comment}
use Rattle.lines.specs.Lines.{is_ended}
use Rattle.clauses.specs.Tokens.{Token, token_of, is_wrong, is_beyond, line_tokens}
use Rattle.clauses.specs.Gathered.{Gathered, nothing, with_tokens, begun, occurrences_in}
use Rattle.clauses.specs.Faults.{State, unheaded, headed, Step, next, fault, first, header_with, header_line, clause_line, step_items, step_line}
use Rattle.clauses.specs.ClausesSaid.{is_filled}
use Rattle.clauses.specs.Sentences.{Header, Breaks, GoesBeyond, PassesLimit, LineRefused, Leads, LinePassed}
use Rattle.clauses.proofs.HeadedLines.{no_fault}
use Rattle.clauses.proofs.LineTests.{ended_iff, filled_iff, wrong_iff, beyond_iff}
use Rattle.clauses.proofs.HeaderSentences.{one_header, HeaderSaid, header_said}

-- one test before the others

fault_by : {P Q : Type 0} (b : Bool) (x r : Refusal) (s : Step) → T b ↔ P → s ≡ fault r ↔ Q → first b x s ≡ fault r ↔ (((r ≡ x) × P) ⊎ ((P → ⊥) × Q))
fault_by {P} {Q} true x r s law rest = (λ e. inl (let z : x ≡ r = cc in sym z, law.0 tt), back)
  where
    back : ((r ≡ x) × P) ⊎ ((P → ⊥) × Q) → fault x ≡ fault r
    back (inl h) = ap fault (sym h.0)
    back (inr h) = absurd (h.0 (law.0 tt))
fault_by {P} {Q} false x r s law rest = (λ e. inr (law.1, rest.0 e), back)
  where
    back : ((r ≡ x) × P) ⊎ ((P → ⊥) × Q) → s ≡ fault r
    back (inl h) = absurd (law.1 h.1)
    back (inr h) = rest.1 h.1

last_by : {P : Type 0} (b : Bool) (x r : Refusal) (after : State) → T b ↔ P → first b x (next after) ≡ fault r ↔ ((r ≡ x) × P)
last_by true x r after law = (λ e. (let z : x ≡ r = cc in sym z, law.0 tt), λ h. ap fault (sym h.0))
last_by false x r after law = (λ e. absurd (no_fault (sym e)), λ h. absurd (law.1 h.1))

next_by_lem : {P Q : Type 0} (b : Bool) (x : Refusal) (s : Step) (after : State) → T b ↔ P → ((P → ⊥) → s ≡ next after ↔ Q) → first b x s ≡ next after ↔ ((P → ⊥) × Q)
next_by_lem true x s after law rest = (λ e. absurd (no_fault e), λ h. absurd (h.0 (law.0 tt)))
next_by_lem false x s after law rest = (λ e. (law.1, (rest law.1).0 e), λ h. (rest law.1).1 h.1)

-- a line's tests, and the state after it
record Tests (st : State) (l : List ℕ) : Type 0 where
  breaks : Bool
  goes : Bool
  passes : Bool
  then : State
  breaks_iff : T breaks ↔ Breaks st l
  goes_iff : T goes ↔ GoesBeyond st l
  passes_iff : T passes ↔ PassesLimit st l
  leads_iff : (Breaks st l → ⊥) → (after : State) → after ≡ then ↔ Leads st l after
  steps : step_line st l ≡ first breaks BrokenClauses (first goes LiteralBeyond (first passes Limit (next then)))

-- what a line that is neither a comment nor blank says
module _ (st : State) (l : List ℕ) (content : List (List ℕ) → Step) (same : (x : List ℕ) (xs : List (List ℕ)) → step_items st (x ∷ xs) ≡ content (x ∷ xs)) where
  line_steps : step_line st l ≡ first (not (is_ended l)) BrokenClauses (cond (is_filled l) (content (items l)) (next st))
  unfolding step_line
  line_steps = ap (first (not (is_ended l)) BrokenClauses) (go (is_comment l) (items l))
    where
      go : (c : Bool) (xs : List (List ℕ)) → cond c (next st) (step_items st xs) ≡ cond (not c && not (is_empty xs)) (content xs) (next st)
      go true xs = refl
      go false [] = refl
      go false (x ∷ xs) = same x xs

-- the tests of such a line behind the one that it is
gathered_tests : (e f b c d : Bool) (after st : State)
    → first e BrokenClauses (cond f (first b BrokenClauses (first c LiteralBeyond (first d Limit (next after)))) (next st))
    ≡ first (e || (f && b)) BrokenClauses (first (f && c) LiteralBeyond (first (f && d) Limit (next (cond f after st))))
gathered_tests true f b c d after st = refl
gathered_tests false true b c d after st = refl
gathered_tests false false b c d after st = refl

leads_by : {F Q : Type 0} (f : Bool) (a st after : State) → T f ↔ F → (F → after ≡ a ↔ Q) → after ≡ cond f a st ↔ (((F → ⊥) × (after ≡ st)) ⊎ (F × Q))
leads_by {F} {Q} true a st after law rest = (λ e. inr (law.0 tt, (rest (law.0 tt)).0 e), back)
  where
    back : ((F → ⊥) × (after ≡ st)) ⊎ (F × Q) → after ≡ a
    back (inl h) = absurd (h.0 (law.0 tt))
    back (inr h) = (rest h.0).1 h.1
leads_by {F} {Q} false a st after law rest = (λ e. inl (law.1, e), back)
  where
    back : ((F → ⊥) × (after ≡ st)) ⊎ (F × Q) → after ≡ st
    back (inl h) = h.1
    back (inr h) = absurd (law.1 h.0)

past_iff : (limit n : ℕ) → T (ltb limit n) ↔ (limit < n)
past_iff limit n = (ltb→lt limit n, lt→ltb limit n)

-- two tests with one refusal
first_either : (a b : Bool) (r : Refusal) (s : Step) → first a r (first b r s) ≡ first (a || b) r s
first_either true b r s = refl
first_either false b r s = refl

headed_tests : (n m : ℕ) (g : Gathered) (l : List ℕ) → Tests (headed n m g) l
unfolding clause_line
headed_tests n m g l = record {
  breaks = not (is_ended l) || (is_filled l && broken);
  goes = is_filled l && some (is_beyond n) ts;
  passes = is_filled l && ltb (occurrence_limit Preference) (occurrences_in after);
  then = cond (is_filled l) (headed n m after) (headed n m g);
  breaks_iff =
      or_law (not (is_ended l)) (is_filled l && broken) (not_law (is_ended l) (ended_iff l))
      (and_law (is_filled l) broken (filled_iff l) (or_law (some is_wrong ts) (ltb m (begun after)) (wrong_iff ts) (past_iff m (begun after))));
  goes_iff = and_law (is_filled l) (some (is_beyond n) ts) (filled_iff l) (beyond_iff n ts);
  passes_iff = and_law (is_filled l) (ltb (occurrence_limit Preference) (occurrences_in after)) (filled_iff l) (past_iff (occurrence_limit Preference) (occurrences_in after));
  leads_iff = λ b s. leads_by (is_filled l) (headed n m after) (headed n m g) s (filled_iff l) (λ f. (λ e. e, λ e. e));
  steps =
      line_steps (headed n m g) l (λ xs. clause_line n m g (map token_of xs)) (λ x xs. refl)
      ∙ ap (λ (s : Step). first (not (is_ended l)) BrokenClauses (cond (is_filled l) s (next (headed n m g)))) (first_either (some is_wrong ts) (ltb m (begun after)) BrokenClauses _)
      ∙ gathered_tests (not (is_ended l)) (is_filled l) broken (some (is_beyond n) ts) (ltb (occurrence_limit Preference) (occurrences_in after)) (headed n m after) (headed n m g);
}
  where
    ts : List Token
    ts = line_tokens l

    after : Gathered
    after = with_tokens g ts

    broken : Bool
    broken = some is_wrong ts || ltb m (begun after)

module _ (l : List ℕ) where
  header_tests : (n m : ℕ) → Header l n m → header_line (items l) ≡ header_with n m → Tests unheaded l
  header_tests n m h q = record {
    breaks = not (is_ended l) || (is_filled l && false);
    goes = is_filled l && false;
    passes = is_filled l && past;
    then = cond (is_filled l) (headed n m nothing) unheaded;
    breaks_iff =
        or_law (not (is_ended l)) (is_filled l && false) (not_law (is_ended l) (ended_iff l))
        (and_law (is_filled l) false (filled_iff l) (λ t. absurd t, λ none. none n m h));
    goes_iff = (λ t. T-and-r (is_filled l) false t, λ h. absurd h);
    passes_iff = and_law (is_filled l) past (filled_iff l) (
      λ t. (n, m, h, limits.0 t),
      λ p. limits.1 (let e = one_header l h p.2 in same (sym e.0) (sym e.1) p.3),
    );
    leads_iff = λ b s. leads_by (is_filled l) (headed n m nothing) unheaded s (filled_iff l) (λ f. (
      λ e. (n, m, h, e),
      λ p. (let e = one_header l h p.2 in p.3 ∙ ap₂ (λ (i j : ℕ). headed i j nothing) (sym e.0) (sym e.1)),
    ));
    steps =
        line_steps unheaded l header_line (λ x xs. refl)
        ∙ ap (λ (s : Step). first (not (is_ended l)) BrokenClauses (cond (is_filled l) s (next unheaded))) q
        ∙ gathered_tests (not (is_ended l)) (is_filled l) false false past (headed n m nothing) unheaded;
  }
    where
      past : Bool
      past = ltb (atom_limit Preference) n || ltb (rule_limit Preference) m

      Past : ℕ → ℕ → Type 0
      Past i j = (atom_limit Preference < i) ⊎ (rule_limit Preference < j)

      same : {i j : ℕ} → i ≡ n → j ≡ m → Past i j → Past n m
      same e f p = subst₂ Past e f p

      limits : T past ↔ Past n m
      limits = or_law (ltb (atom_limit Preference) n) (ltb (rule_limit Preference) m) (past_iff (atom_limit Preference) n) (past_iff (rule_limit Preference) m)

  no_header_tests : ((n m : ℕ) → Header l n m → ⊥) → header_line (items l) ≡ fault BrokenClauses → Tests unheaded l
  no_header_tests none q = record {
    breaks = not (is_ended l) || (is_filled l && true);
    goes = is_filled l && false;
    passes = is_filled l && false;
    then = cond (is_filled l) unheaded unheaded;
    breaks_iff = or_law (not (is_ended l)) (is_filled l && true) (not_law (is_ended l) (ended_iff l)) (and_law (is_filled l) true (filled_iff l) (λ t. none, λ n. tt));
    goes_iff = (λ t. T-and-r (is_filled l) false t, λ h. absurd h);
    passes_iff = and_law (is_filled l) false (filled_iff l) (λ t. absurd t, λ p. none p.0 p.1 p.2);
    leads_iff = λ b s. leads_by (is_filled l) unheaded unheaded s (filled_iff l) (λ f. absurd (b (inr (f, none))));
    steps =
        line_steps unheaded l header_line (λ x xs. refl)
        ∙ ap (λ (s : Step). first (not (is_ended l)) BrokenClauses (cond (is_filled l) s (next unheaded))) q
        ∙ gathered_tests (not (is_ended l)) (is_filled l) true false false unheaded unheaded;
  }

  unheaded_tests : HeaderSaid l (header_line (items l)) → Tests unheaded l
  unheaded_tests (inl h) = header_tests h.0 h.1 h.2 h.3
  unheaded_tests (inr h) = no_header_tests h.0 h.1

tests : (st : State) (l : List ℕ) → Tests st l
tests unheaded l = unheaded_tests l (header_said l)
tests (headed n m g) l = headed_tests n m g l

-- an equation, with its left side rewritten
from_left : {s t u : Step} {P : Type 0} → s ≡ t → t ≡ u ↔ P → s ≡ u ↔ P
from_left e law = (λ q. law.0 (sym e ∙ q), λ h. e ∙ law.1 h)

pub step_refused : (st : State) (l : List ℕ) (r : Refusal) → step_line st l ≡ fault r ↔ LineRefused st l r
step_refused st l r =
    let t = tests st l in
    from_left t.steps
    (fault_by t.breaks BrokenClauses r _ t.breaks_iff
    (fault_by t.goes LiteralBeyond r _ t.goes_iff (last_by t.passes Limit r t.then t.passes_iff)))

pub step_passed : (st : State) (l : List ℕ) (after : State) → step_line st l ≡ next after ↔ LinePassed st l after
step_passed st l after =
    let t = tests st l in
    let law = from_left t.steps
    (next_by_lem t.breaks BrokenClauses _ after t.breaks_iff (λ b.
    next_by_lem t.goes LiteralBeyond _ after t.goes_iff (λ g.
    next_by_lem t.passes Limit _ after t.passes_iff (λ p. Iff.trans (same t.then) (t.leads_iff b after))))) in (
      λ e. let h = law.0 e in record { whole = h.0; inside = h.1.0; within = h.1.1.0; leads = h.1.1.1 },
      λ h. law.1 (h.whole, (h.inside, (h.within, h.leads))),
    )
  where
    same : (s : State) → next s ≡ next after ↔ (after ≡ s)
    same s = (λ e. let z : s ≡ after = cc in sym z, λ e. ap next (sym e))
