-- A text is answered with its earliest faulty line and that line's lowest fault; it is accepted exactly when no line has a fault and none is missing.
use Prim.Native.Nat.{ℕ, suc, ◌+◌, ◌≤◌, ◌<◌}
use native.Mathlib.Omega.{arith}
use native.Mathlib.Decide.{dec_lt}
use mathlib.Core.Path.{◌≡◌, refl, sym, ap, ap₂, ◌∙◌, subst}
use mathlib.Core.Logic.{◌⊎◌, inl, inr, ◌↔◌, ◌≢◌}
use mathlib.Core.Bool.{Bool, true, false, cond}
use mathlib.Core.List.{List, [], ◌∷◌, ◌++◌, append-nil}
use lib.Dec.{T, leb, leb→le, le→leb}
use lib.ListN.{length}
use Rattle.kinds.specs.Limits.{text_limit}
use Rattle.kinds.specs.declared.refusals.Refusal.{Refusal}
use Rattle.kinds.specs.declared.refusals.Refusal.TheVariants.{TextTooLong, BrokenForm}
use Rattle.rules.proofs.Booleans.{decide, is_true_lem, is_false}
use Rattle.stores.specs.Program.{Program}
use Rattle.lines.specs.declared.stage.Stage.TheVariants.{Ruling}
use Rattle.lines.specs.Lines.{lines}
use Rattle.lines.specs.Forms.{form_of}
use Rattle.lines.specs.Faults.{SoFar, next, fault, is_ruling, step_form}
use Rattle.lines.specs.Said.{Said, accepted, refused, start, placed, program_of, on_step, read_lines, typed, what_remains, said}
use Rattle.faults.specs.Sentences.{Lowest, Faultless, added, Sound}
use Rattle.faults.specs.EarliestFault.{Passed, RefusedAt, DeclaredAs, Refuses, Accepts}
use Rattle.faults.proofs.Tests.{ruling_law}
use Rattle.faults.proofs.LowestFault.{Answers, line_answers, fault_iff, next_iff, start_sound, added_sound}

-- one line of those that are read

fault_read : (k : ℕ) (st : SoFar) (l : List ℕ) (ls : List (List ℕ)) (r : Refusal) → step_form st (form_of l) ≡ fault r → read_lines k st (l ∷ ls) ≡ refused r k
unfolding read_lines
fault_read k st l ls r e = ap (λ s. on_step s k (λ after. read_lines (suc k) after ls)) e

next_read : (k : ℕ) (st : SoFar) (l : List ℕ) (ls : List (List ℕ)) (after : SoFar) → step_form st (form_of l) ≡ next after → read_lines k st (l ∷ ls) ≡ read_lines (suc k) after ls
unfolding read_lines
next_read k st l ls after e = ap (λ s. on_step s k (λ after. read_lines (suc k) after ls)) e

end_complete : (k : ℕ) (st : SoFar) → st.stage ≡ Ruling → read_lines k st [] ≡ accepted (program_of (placed st)) (placed st).names
unfolding read_lines
end_complete k st e = ap (λ b. cond b (accepted (program_of (placed st)) (placed st).names) (refused BrokenForm k)) (is_true_lem (is_ruling st.stage) ((ruling_law st.stage).1 e))

end_incomplete : (k : ℕ) (st : SoFar) → st.stage ≢ Ruling → read_lines k st [] ≡ refused BrokenForm k
unfolding read_lines
end_incomplete k st n = ap (λ b. cond b (accepted (program_of (placed st)) (placed st).names) (refused BrokenForm k)) (is_false (is_ruling st.stage) (λ t. n ((ruling_law st.stage).0 t)))

-- lines without fault are passed over

passed_read : (k : ℕ) (st : SoFar) → Sound st → (before ls : List (List ℕ)) (after : SoFar) → Passed st before after → (read_lines k st (before ++ ls) ≡ read_lines (k + length before) after ls) × Sound after
passed_read k st sound [] ls after p = (ap₂ (λ n s. read_lines n s ls) (let e : k ≡ k + 0 = omega arith in e) p, subst Sound p sound)
passed_read k st sound (l ∷ before) ls after p =
    let st' = added st (form_of l) in
    let r = passed_read (suc k) st' (added_sound st sound (form_of l) p.0) before ls after p.1 in
    let e : suc k + length before ≡ k + suc (length before) = omega arith in
    (next_read k st l (before ++ ls) st' ((next_iff st sound l st').1 (p.0, refl)) ∙ r.0 ∙ ap (λ n. read_lines n after ls) e, r.1)

-- what becomes of lines, by the sentences

pub record Faulty (k : ℕ) (st : SoFar) (ls : List (List ℕ)) (s : Said) : Type 0 where
  pub before : List (List ℕ)
  pub line : List ℕ
  pub rest : List (List ℕ)
  pub state : SoFar
  pub refusal : Refusal
  pub are_lines : ls ≡ before ++ (line ∷ rest)
  pub passed : Passed st before state
  pub lowest : Lowest state (form_of line) refusal
  pub answer : s ≡ refused refusal (k + length before)

pub record Ended (k : ℕ) (st : SoFar) (ls : List (List ℕ)) (s : Said) : Type 0 where
  pub state : SoFar
  pub passed : Passed st ls state
  pub answer : s ≡ read_lines (k + length ls) state []

abbrev Outcome : ℕ → SoFar → List (List ℕ) → Said → Type 0
Outcome k st ls s = Faulty k st ls s ⊎ Ended k st ls s

outcome : (k : ℕ) (st : SoFar) → Sound st → (ls : List (List ℕ)) → Outcome k st ls (read_lines k st ls)
outcome k st sound [] = let e : k ≡ k + 0 = omega arith in inr (record { state = st; passed = refl; answer = ap (λ n. read_lines n st []) e })
outcome k st sound (l ∷ ls) = step (line_answers st sound l) (λ (h : Faultless st (form_of l)). outcome (suc k) (added st (form_of l)) (added_sound st sound (form_of l) h) ls)
  where
    one_more : Faultless st (form_of l) → read_lines k st (l ∷ ls) ≡ read_lines (suc k) (added st (form_of l)) ls → Outcome (suc k) (added st (form_of l)) ls (read_lines (suc k) (added st (form_of l)) ls) → Outcome k st (l ∷ ls) (read_lines k st (l ∷ ls))
    one_more h e (inl o) =
        let n : suc k + length o.before ≡ k + suc (length o.before) = omega arith in
        inl (record { before = l ∷ o.before; line = o.line; rest = o.rest; state = o.state; refusal = o.refusal; are_lines = ap (λ m. l ∷ m) o.are_lines; passed = (h, o.passed); lowest = o.lowest; answer = e ∙ o.answer ∙ ap (refused o.refusal) n })
    one_more h e (inr o) =
        let n : suc k + length ls ≡ k + suc (length ls) = omega arith in
        inr (record { state = o.state; passed = (h, o.passed); answer = e ∙ o.answer ∙ ap (λ m. read_lines m o.state []) n })

    step : Answers st (form_of l) (step_form st (form_of l)) → (Faultless st (form_of l) → Outcome (suc k) (added st (form_of l)) ls (read_lines (suc k) (added st (form_of l)) ls)) → Outcome k st (l ∷ ls) (read_lines k st (l ∷ ls))
    step (inl a) rest =
        let n : k ≡ k + 0 = omega arith in
        inl (record { before = []; line = l; rest = ls; state = st; refusal = a.0; are_lines = refl; passed = refl; lowest = a.2; answer = fault_read k st l ls a.0 a.1 ∙ ap (refused a.0) n })
    step (inr a) rest = one_more a.1 (next_read k st l ls (added st (form_of l)) a.0) (rest a.1)

refusal_of_lem : Said → Refusal
refusal_of_lem (accepted p names) = TextTooLong
refusal_of_lem (refused r k) = r

line_of : Said → ℕ
line_of (accepted p names) = 0
line_of (refused r k) = k

program_of_lem : Program → Said → Program
program_of_lem d (accepted p names) = p
program_of_lem d (refused r k) = d

names_of : Said → List (List ℕ)
names_of (accepted p names) = names
names_of (refused r k) = []

is_accepted : Said → Type 0
is_accepted (accepted p names) = Unit {0}
is_accepted (refused r k) = ⊥

pub apart : {p : Program} {names : List (List ℕ)} {r : Refusal} {k : ℕ} → accepted p names ≡ refused r k → ⊥
unfolding is_accepted
apart e = subst is_accepted e tt

same_refusal : {q r : Refusal} {j k : ℕ} → refused q j ≡ refused r k → (q ≡ r) × (j ≡ k)
unfolding refusal_of_lem line_of
same_refusal e = (ap refusal_of_lem e, ap line_of e)

pub same_accepted : {p q : Program} {xs ys : List (List ℕ)} → accepted p xs ≡ accepted q ys → (p ≡ q) × (xs ≡ ys)
unfolding program_of_lem names_of
same_accepted {p} e = (ap (program_of_lem p) e, ap names_of e)

-- the lines of a text

module _ (text : List ℕ) where
  abbrev whole : Said
  whole = read_lines 1 (start text) (lines text)

  lines_passed : (state : SoFar) → Passed (start text) (lines text) state → whole ≡ read_lines (suc (length (lines text))) state []
  lines_passed state p =
      let n : 1 + length (lines text) ≡ suc (length (lines text)) = omega arith in
      ap (read_lines 1 (start text)) (sym (append-nil (lines text))) ∙ (passed_read 1 (start text) (start_sound text) (lines text) [] state p).0 ∙ ap (λ m. read_lines m state []) n

  whole_refused : (r : Refusal) (k : ℕ) → whole ≡ refused r k ↔ RefusedAt text r k
  whole_refused r k = (λ e. there e (outcome 1 (start text) (start_sound text) (lines text)), back)
    where
      ended : whole ≡ refused r k → (o : Ended 1 (start text) (lines text) whole) → T (is_ruling o.state.stage) ⊎ (T (is_ruling o.state.stage) → ⊥) → RefusedAt text r k
      ended e o (inl t) = absurd (apart (sym (end_complete (1 + length (lines text)) o.state ((ruling_law o.state.stage).0 t)) ∙ sym o.answer ∙ e))
      ended e o (inr t) =
          let n : o.state.stage ≢ Ruling = λ q. t ((ruling_law o.state.stage).1 q) in
          let s = same_refusal (sym (end_incomplete (1 + length (lines text)) o.state n) ∙ sym o.answer ∙ e) in
          inr (record { state = o.state; passed = o.passed; incomplete = n; refusal = sym s.0; number = let m = s.1 in omega arith })

      there : whole ≡ refused r k → Outcome 1 (start text) (lines text) whole → RefusedAt text r k
      there e (inl o) =
          let s = same_refusal (sym o.answer ∙ e) in
          inl (record { before = o.before; line = o.line; rest = o.rest; state = o.state; are_lines = o.are_lines; passed = o.passed; lowest = subst (Lowest o.state (form_of o.line)) s.0 o.lowest; number = let m = s.1 in omega arith })
      there e (inr o) = ended e o (decide (is_ruling o.state.stage))

      back : RefusedAt text r k → whole ≡ refused r k
      back (inl h) =
          let p = passed_read 1 (start text) (start_sound text) h.before (h.line ∷ h.rest) h.state h.passed in
          let n : 1 + length h.before ≡ k = let m = h.number in omega arith in
          ap (read_lines 1 (start text)) h.are_lines ∙ p.0 ∙ fault_read (1 + length h.before) h.state h.line h.rest r ((fault_iff h.state p.1 h.line r).1 h.lowest) ∙ ap (refused r) n
      back (inr h) =
          let n : suc (length (lines text)) ≡ k = let m = h.number in omega arith in
          lines_passed h.state h.passed ∙ end_incomplete (suc (length (lines text))) h.state h.incomplete ∙ ap₂ refused (sym h.refusal) n

  whole_accepted : (p : Program) (names : List (List ℕ)) → whole ≡ accepted p names ↔ DeclaredAs text p names
  whole_accepted p names = (λ e. there e (outcome 1 (start text) (start_sound text) (lines text)), back)
    where
      ended : whole ≡ accepted p names → (o : Ended 1 (start text) (lines text) whole) → T (is_ruling o.state.stage) ⊎ (T (is_ruling o.state.stage) → ⊥) → DeclaredAs text p names
      ended e o (inl t) =
          let c = (ruling_law o.state.stage).0 t in
          let s = same_accepted (sym e ∙ o.answer ∙ end_complete (1 + length (lines text)) o.state c) in
          record { state = o.state; passed = o.passed; complete = c; program = s.0; are_names_lem = s.1 }
      ended e o (inr t) = absurd (apart (sym e ∙ o.answer ∙ end_incomplete (1 + length (lines text)) o.state (λ q. t ((ruling_law o.state.stage).1 q))))

      there : whole ≡ accepted p names → Outcome 1 (start text) (lines text) whole → DeclaredAs text p names
      there e (inl o) = absurd (apart (sym e ∙ o.answer))
      there e (inr o) = ended e o (decide (is_ruling o.state.stage))

      back : DeclaredAs text p names → whole ≡ accepted p names
      back h = lines_passed h.state h.passed ∙ end_complete (suc (length (lines text))) h.state h.complete ∙ ap₂ accepted (sym h.program) (sym h.are_names_lem)

  -- refusal 1 with line 0 exactly when the text is too long; any other with the earliest faulty line, or one past the last where a line is missing
  typed_refused : (r : Refusal) (k : ℕ) → typed text ≡ refused r k ↔ Refuses text r k
  unfolding typed
  typed_refused r k = step (leb (length text) text_limit) (leb→le (length text) text_limit) (le→leb (length text) text_limit)
    where
      step : (b : Bool) → (T b → length text ≤ text_limit) → (length text ≤ text_limit → T b) → cond b whole (refused TextTooLong 0) ≡ refused r k ↔ Refuses text r k
      step true f g = (λ e. inr (f tt, (whole_refused r k).0 e), back (f tt))
        where
          back : length text ≤ text_limit → Refuses text r k → whole ≡ refused r k
          back l (inl h) = absurd (let m = h.0 in omega arith)
          back l (inr h) = (whole_refused r k).1 h.1
      step false f g = (λ e. let s = same_refusal e in inl (omega (arith, long (dec_lt text_limit (length text))), sym s.0, omega (arith, s.1)), back)
        where
          long : Dec (text_limit < length text) → text_limit < length text
          long (yes l) = l
          long (no l) = absurd (g (omega arith))

          back : Refuses text r k → refused TextTooLong 0 ≡ refused r k
          back (inl h) = let n : 0 ≡ k = omega (arith, h.2) in ap₂ refused (sym h.1) n
          back (inr h) = absurd (g h.0)

  pub typed_accepted : (p : Program) (names : List (List ℕ)) → typed text ≡ accepted p names ↔ ((length text ≤ text_limit) × DeclaredAs text p names)
  unfolding typed
  typed_accepted p names = step (leb (length text) text_limit) (leb→le (length text) text_limit) (le→leb (length text) text_limit)
    where
      step : (b : Bool) → (T b → length text ≤ text_limit) → (length text ≤ text_limit → T b) → cond b whole (refused TextTooLong 0) ≡ accepted p names ↔ ((length text ≤ text_limit) × DeclaredAs text p names)
      step true f g = (λ e. (f tt, (whole_accepted p names).0 e), λ h. (whole_accepted p names).1 h.1)
      step false f g = (λ e. absurd (apart (sym e)), λ h. absurd (g h.0))

  -- what remains of an accepted text; refusals stay
  pub said_refused : (r : Refusal) (k : ℕ) → said text ≡ refused r k ↔ Refuses text r k
  unfolding said
  said_refused r k = (λ e. (typed_refused r k).0 (step (typed text) e), λ h. ap what_remains ((typed_refused r k).1 h))
    where
      step : (s : Said) → what_remains s ≡ refused r k → s ≡ refused r k
      step (accepted p names) e = absurd (apart e)
      step (refused q j) e = e

  pub said_accepted : (p : Program) (names : List (List ℕ)) → said text ≡ accepted p names ↔ Accepts text p names
  unfolding said
  said_accepted p names = (step (typed text) refl, back)
    where
      step : (s : Said) → typed text ≡ s → what_remains s ≡ accepted p names → Accepts text p names
      step (accepted q all) t e =
          let d = (typed_accepted q all).0 t in
          let i = same_accepted e in
          (d.0, record { whole = q; whole_names = all; declared = d.1; program = sym i.0; are_names_lem = sym i.1 })
      step (refused r k) t e = absurd (apart (sym e))

      back : Accepts text p names → what_remains (typed text) ≡ accepted p names
      back h = let a = h.1 in ap what_remains ((typed_accepted a.whole a.whole_names).1 (h.0, a.declared)) ∙ ap₂ accepted (sym a.program) (sym a.are_names_lem)
