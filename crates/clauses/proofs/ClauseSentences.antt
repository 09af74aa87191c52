-- A clause file is answered with its earliest faulty line and that line's lowest fault; it is accepted exactly when no line has a fault and no clause is missing.
use Prim.Native.Nat.{ℕ, suc, ◌+◌, ◌≤◌, ◌<◌}
use native.Mathlib.Omega.{arith}
use mathlib.Core.Path.{◌≡◌, refl, sym, ap, ap₂, ◌∙◌, subst}
use mathlib.Core.Logic.{◌⊎◌, inl, inr, ◌↔◌}
use mathlib.Core.Bool.{Bool, true, false, cond, ◌&&◌}
use mathlib.Core.List.{List, [], ◌∷◌, ◌++◌, append-nil}
use lib.Dec.{T, leb, eqb, eqb→eq}
use lib.ListN.{length}
use borrow.Author.Tests.{leb-true, leb-false}
use Rattle.kinds.specs.Limits.{text_limit}
use Rattle.kinds.specs.declared.refusals.Refusal.{Refusal}
use Rattle.kinds.specs.declared.refusals.Refusal.TheVariants.{TextTooLong, BrokenClauses}
use Rattle.rules.specs.Lists.{is_empty}
use Rattle.rules.proofs.Booleans.{decide, is_true_lem, is_false, eq_to_eqb}
use Rattle.rules.proofs.Connectives.{and_law}
use Rattle.stores.specs.Program.{Program}
use Rattle.restriction.specs.Remaining.{remaining, remaining_names}
use Rattle.lines.specs.Lines.{lines}
use Rattle.lines.specs.Said.{Said, accepted, refused, what_remains}
use Rattle.clauses.specs.Gathered.{Gathered, is_closed}
use Rattle.clauses.specs.Faults.{State, unheaded, headed, Step, next, fault, step_line}
use Rattle.clauses.specs.Written.{clause_names, clause_program}
use Rattle.clauses.specs.ClausesSaid.{at_end, on_step, read_lines, clauses_typed, clauses_said}
use Rattle.clauses.specs.Sentences.{LineRefused, LinePassed, Passed, Complete, FaultyLine, Missing, RefusesClauses, AcceptsClauses}
use Rattle.clauses.proofs.HeadedLines.{apart}
use Rattle.clauses.proofs.LineTests.{empty_iff}
use Rattle.clauses.proofs.LineSentences.{step_refused, step_passed}

-- past the last line

abbrev is_complete : State → Bool
is_complete unheaded = false
is_complete (headed n m g) = is_closed g && eqb (length g.rules) m

complete_iff : (st : State) → T (is_complete st) ↔ Complete st
complete_iff unheaded = (λ t. t, λ h. h)
complete_iff (headed n m g) =
    let law = and_law (is_closed g) (eqb (length g.rules) m) (and_law (is_empty g.heads) (is_empty g.bodies) (empty_iff g.heads) (empty_iff g.bodies)) (eqb→eq (length g.rules) m, eq_to_eqb (length g.rules) m) in
    (λ t. let h = law.0 t in (h.0.0, h.0.1, h.1), λ h. law.1 ((h.0, h.1), h.2))

end_complete : (k n m : ℕ) (g : Gathered) → Complete (headed n m g) → at_end k (headed n m g) ≡ accepted (clause_program n g.rules) (clause_names n)
end_complete k n m g h = ap (λ (b : Bool). cond b (accepted (clause_program n g.rules) (clause_names n)) (refused BrokenClauses k)) (is_true_lem (is_complete (headed n m g)) ((complete_iff (headed n m g)).1 h))

end_incomplete : (k : ℕ) (st : State) → (Complete st → ⊥) → at_end k st ≡ refused BrokenClauses k
end_incomplete k unheaded no_end = refl
end_incomplete k (headed n m g) no_end = ap (λ (b : Bool). cond b (accepted (clause_program n g.rules) (clause_names n)) (refused BrokenClauses k)) (is_false (is_complete (headed n m g)) (λ t. no_end ((complete_iff (headed n m g)).0 t)))

-- one line of those that are read

fault_read : (k : ℕ) (st : State) (l : List ℕ) (ls : List (List ℕ)) (r : Refusal) → LineRefused st l r → read_lines k st (l ∷ ls) ≡ refused r k
unfolding read_lines
fault_read k st l ls r h = ap (λ (s : Step). on_step s k (λ after. read_lines (suc k) after ls)) ((step_refused st l r).1 h)

next_read : (k : ℕ) (st : State) (l : List ℕ) (ls : List (List ℕ)) (after : State) → LinePassed st l after → read_lines k st (l ∷ ls) ≡ read_lines (suc k) after ls
unfolding read_lines
next_read k st l ls after h = ap (λ (s : Step). on_step s k (λ after. read_lines (suc k) after ls)) ((step_passed st l after).1 h)

end_read : (k : ℕ) (st : State) → read_lines k st [] ≡ at_end k st
unfolding read_lines
end_read k st = refl

passed_read : (k : ℕ) (st : State) (before ls : List (List ℕ)) (after : State) → Passed st before after → read_lines k st (before ++ ls) ≡ read_lines (k + length before) after ls
passed_read k st [] ls after p = ap₂ (λ (n : ℕ) (s : State). read_lines n s ls) (let e : k ≡ k + 0 = omega arith in e) p
passed_read k st (l ∷ before) ls after p =
    let e : suc k + length before ≡ k + suc (length before) = omega arith in
    next_read k st l (before ++ ls) p.0 p.1 ∙ passed_read (suc k) p.0 before ls after p.2 ∙ ap (λ (n : ℕ). read_lines n after ls) e

-- what becomes of lines, by the sentences

record Faulty (k : ℕ) (st : State) (ls : List (List ℕ)) (s : Said) : Type 0 where
  before : List (List ℕ)
  line : List ℕ
  rest : List (List ℕ)
  state : State
  refusal : Refusal
  are_lines : ls ≡ before ++ (line ∷ rest)
  passed : Passed st before state
  lowest : LineRefused state line refusal
  answer : s ≡ refused refusal (k + length before)

record Through (k : ℕ) (st : State) (ls : List (List ℕ)) (s : Said) : Type 0 where
  state : State
  passed : Passed st ls state
  answer : s ≡ at_end (k + length ls) state

abbrev Outcome : ℕ → State → List (List ℕ) → Said → Type 0
Outcome k st ls s = Faulty k st ls s ⊎ Through k st ls s

outcome : (k : ℕ) (st : State) (ls : List (List ℕ)) → Outcome k st ls (read_lines k st ls)
outcome k st [] = let e : k ≡ k + 0 = omega arith in inr (record { state = st; passed = refl; answer = end_read k st ∙ ap (λ (n : ℕ). at_end n st) e })
outcome k st (l ∷ ls) = step (step_line st l) (step_refused st l) (step_passed st l) (λ (after : State). outcome (suc k) after ls)
  where
    one_more : (after : State) → LinePassed st l after → Outcome (suc k) after ls (read_lines (suc k) after ls) → Outcome k st (l ∷ ls) (read_lines k st (l ∷ ls))
    one_more after h (inl o) =
        let n : suc k + length o.before ≡ k + suc (length o.before) = omega arith in
        inl (record { before = l ∷ o.before; line = o.line; rest = o.rest; state = o.state; refusal = o.refusal; are_lines = ap (λ (m : List (List ℕ)). l ∷ m) o.are_lines; passed = (after, h, o.passed); lowest = o.lowest; answer = next_read k st l ls after h ∙ o.answer ∙ ap (refused o.refusal) n })
    one_more after h (inr o) =
        let n : suc k + length ls ≡ k + suc (length ls) = omega arith in
        inr (record { state = o.state; passed = (after, h, o.passed); answer = next_read k st l ls after h ∙ o.answer ∙ ap (λ (m : ℕ). at_end m o.state) n })

    step : (s : Step) → ((r : Refusal) → s ≡ fault r ↔ LineRefused st l r) → ((after : State) → s ≡ next after ↔ LinePassed st l after)
        → ((after : State) → Outcome (suc k) after ls (read_lines (suc k) after ls)) → Outcome k st (l ∷ ls) (read_lines k st (l ∷ ls))
    step (next after) f p rest = one_more after ((p after).0 refl) (rest after)
    step (fault r) f p rest =
        let h = (f r).0 refl in
        let n : k ≡ k + 0 = omega arith in
        inl (record { before = []; line = l; rest = ls; state = st; refusal = r; are_lines = refl; passed = refl; lowest = h; answer = fault_read k st l ls r h ∙ ap (refused r) n })

same_refusal : {q r : Refusal} {j k : ℕ} → refused q j ≡ refused r k → (q ≡ r) × (j ≡ k)
same_refusal e = (cc, cc)

same_accepted : {p q : Program} {xs ys : List (List ℕ)} → accepted p xs ≡ accepted q ys → (p ≡ q) × (xs ≡ ys)
same_accepted e = (cc, cc)

-- all lines passed and nothing is missing, with all atoms of the header
record Typed (text : List ℕ) (p : Program) (names : List (List ℕ)) : Type 0 where
  atoms : ℕ
  clauses : ℕ
  gathered : Gathered
  passed : Passed unheaded (lines text) (headed atoms clauses gathered)
  complete : Complete (headed atoms clauses gathered)
  program : p ≡ clause_program atoms gathered.rules
  are_names_lem : names ≡ clause_names atoms

module _ (text : List ℕ) where
  abbrev whole : Said
  whole = read_lines 1 unheaded (lines text)

  abbrev past_last : ℕ
  past_last = suc (length (lines text))

  lines_passed : (state : State) → Passed unheaded (lines text) state → whole ≡ at_end past_last state
  lines_passed state p =
      let n : 1 + length (lines text) ≡ past_last = omega arith in
      ap (read_lines 1 unheaded) (sym (append-nil (lines text))) ∙ passed_read 1 unheaded (lines text) [] state p ∙ end_read (1 + length (lines text)) state ∙ ap (λ (m : ℕ). at_end m state) n

  whole_refused : (r : Refusal) (k : ℕ) → whole ≡ refused r k ↔ (FaultyLine text r k ⊎ Missing text r k)
  whole_refused r k = (λ e. there e (outcome 1 unheaded (lines text)), back)
    where
      at_end_lem : (state : State) → Passed unheaded (lines text) state → at_end past_last state ≡ refused r k → T (is_complete state) ⊎ (T (is_complete state) → ⊥) → FaultyLine text r k ⊎ Missing text r k
      at_end_lem unheaded p e (inl t) = absurd t
      at_end_lem (headed n m g) p e (inl t) = absurd (apart (sym e ∙ end_complete past_last n m g ((complete_iff (headed n m g)).0 t)))
      at_end_lem state p e (inr t) =
          let c : Complete state → ⊥ = λ h. t ((complete_iff state).1 h) in
          let s = same_refusal (sym (end_incomplete past_last state c) ∙ e) in
          inr (record { state = state; passed = p; incomplete = c; refusal = sym s.0; number = sym s.1 })

      there : whole ≡ refused r k → Outcome 1 unheaded (lines text) whole → FaultyLine text r k ⊎ Missing text r k
      there e (inl o) =
          let s = same_refusal (sym o.answer ∙ e) in
          inl (record { before = o.before; line = o.line; rest = o.rest; state = o.state; are_lines = o.are_lines; passed = o.passed; refused = subst (LineRefused o.state o.line) s.0 o.lowest; number = let m = s.1 in omega arith })
      there e (inr o) = at_end_lem o.state o.passed (sym (lines_passed o.state o.passed) ∙ e) (decide (is_complete o.state))

      back : FaultyLine text r k ⊎ Missing text r k → whole ≡ refused r k
      back (inl h) =
          let n : 1 + length h.before ≡ k = let m = h.number in omega arith in
          ap (read_lines 1 unheaded) h.are_lines ∙ passed_read 1 unheaded h.before (h.line ∷ h.rest) h.state h.passed ∙ fault_read (1 + length h.before) h.state h.line h.rest r h.refused ∙ ap (refused r) n
      back (inr h) = lines_passed h.state h.passed ∙ end_incomplete past_last h.state h.incomplete ∙ ap₂ refused (sym h.refusal) (sym h.number)

  whole_accepted : (p : Program) (names : List (List ℕ)) → whole ≡ accepted p names ↔ Typed text p names
  whole_accepted p names = (λ e. there e (outcome 1 unheaded (lines text)), back)
    where
      at_end_lem : (state : State) → Passed unheaded (lines text) state → at_end past_last state ≡ accepted p names → T (is_complete state) ⊎ (T (is_complete state) → ⊥) → Typed text p names
      at_end_lem unheaded q e (inl t) = absurd t
      at_end_lem (headed n m g) q e (inl t) =
          let c = (complete_iff (headed n m g)).0 t in
          let s = same_accepted (sym e ∙ end_complete past_last n m g c) in
          record { atoms = n; clauses = m; gathered = g; passed = q; complete = c; program = s.0; are_names_lem = s.1 }
      at_end_lem state q e (inr t) = absurd (apart (sym (end_incomplete past_last state (λ h. t ((complete_iff state).1 h))) ∙ e))

      there : whole ≡ accepted p names → Outcome 1 unheaded (lines text) whole → Typed text p names
      there e (inl o) = absurd (apart (sym o.answer ∙ e))
      there e (inr o) = at_end_lem o.state o.passed (sym (lines_passed o.state o.passed) ∙ e) (decide (is_complete o.state))

      back : Typed text p names → whole ≡ accepted p names
      back h =
          lines_passed (headed h.atoms h.clauses h.gathered) h.passed
          ∙ end_complete past_last h.atoms h.clauses h.gathered h.complete
          ∙ ap₂ accepted (sym h.program) (sym h.are_names_lem)

  -- refusal 1 with line 0 exactly when the text is too long
  typed_refused : (r : Refusal) (k : ℕ) → clauses_typed text ≡ refused r k ↔ RefusesClauses text r k
  unfolding clauses_typed
  typed_refused r k = step (leb (length text) text_limit) refl
    where
      step : (b : Bool) → leb (length text) text_limit ≡ b → cond b whole (refused TextTooLong 0) ≡ refused r k ↔ RefusesClauses text r k
      step true q = (λ e. inr (short, (whole_refused r k).0 e), back)
        where
          short : length text ≤ text_limit
          short = leb-true (length text) text_limit q

          back : RefusesClauses text r k → whole ≡ refused r k
          back (inl h) = absurd (let m = h.0 in omega (arith, short))
          back (inr h) = (whole_refused r k).1 h.1
      step false q = (λ e. let s = same_refusal e in inl (long, sym s.0, sym s.1), back)
        where
          long : text_limit < length text
          long = leb-false (length text) text_limit q

          back : RefusesClauses text r k → refused TextTooLong 0 ≡ refused r k
          back (inl h) = ap₂ refused (sym h.1) (sym h.2)
          back (inr h) = absurd (let m = h.0 in omega (arith, long))

  typed_accepted : (p : Program) (names : List (List ℕ)) → clauses_typed text ≡ accepted p names ↔ ((length text ≤ text_limit) × Typed text p names)
  unfolding clauses_typed
  typed_accepted p names = step (leb (length text) text_limit) refl
    where
      step : (b : Bool) → leb (length text) text_limit ≡ b → cond b whole (refused TextTooLong 0) ≡ accepted p names ↔ ((length text ≤ text_limit) × Typed text p names)
      step true q = (λ e. (leb-true (length text) text_limit q, (whole_accepted p names).0 e), λ h. (whole_accepted p names).1 h.1)
      step false q = (λ e. absurd (apart e), λ h. absurd (let l = leb-false (length text) text_limit q in let s = h.0 in omega arith))

  -- what remains of an accepted text; refusals stay
  pub clauses_refused : (r : Refusal) (k : ℕ) → clauses_said text ≡ refused r k ↔ RefusesClauses text r k
  unfolding clauses_said
  clauses_refused r k = (λ e. (typed_refused r k).0 (step (clauses_typed text) e), λ h. ap what_remains ((typed_refused r k).1 h))
    where
      step : (s : Said) → what_remains s ≡ refused r k → s ≡ refused r k
      step (accepted p names) e = absurd (apart (sym e))
      step (refused q j) e = e

  -- an accepted text says all atoms of its header
  pub accepted_typed : (p : Program) (names : List (List ℕ)) (h : AcceptsClauses text p names) → clauses_typed text ≡ accepted (clause_program h.atoms h.gathered.rules) (clause_names h.atoms)
  accepted_typed p names h = (typed_accepted (clause_program h.atoms h.gathered.rules) (clause_names h.atoms)).1 (
    h.short,
    record { atoms = h.atoms; clauses = h.clauses; gathered = h.gathered; passed = h.passed; complete = h.complete; program = refl; are_names_lem = refl },
  )

  pub clauses_accepted : (p : Program) (names : List (List ℕ)) → clauses_said text ≡ accepted p names ↔ AcceptsClauses text p names
  unfolding clauses_said
  clauses_accepted p names = (step (clauses_typed text) refl, back)
    where
      step : (s : Said) → clauses_typed text ≡ s → what_remains s ≡ accepted p names → AcceptsClauses text p names
      step (accepted q all) t e =
          let d = (typed_accepted q all).0 t in
          let h = d.1 in
          let i = same_accepted (sym e) in
          record {
            short = d.0;
            atoms = h.atoms;
            clauses = h.clauses;
            gathered = h.gathered;
            passed = h.passed;
            complete = h.complete;
            program = i.0 ∙ ap remaining h.program;
            are_names_lem = i.1 ∙ ap₂ remaining_names h.program h.are_names_lem;
          }
      step (refused r k) t e = absurd (apart e)

      back : AcceptsClauses text p names → what_remains (clauses_typed text) ≡ accepted p names
      back h = ap what_remains (accepted_typed p names h) ∙ ap₂ accepted (sym h.program) (sym h.are_names_lem)
