-- The walk over the lines of a text.
use Prim.Native.Nat.{ℕ, suc, ◌+◌, ◌-◌, ◌≤◌, ◌<◌, zero-le}
use native.Mathlib.Numerals.{add-one}
use native.Mathlib.Omega.{arith}
use mathlib.Core.Path.{◌≡◌, refl, sym, ap, ◌∙◌, subst}
use mathlib.Core.Bool.{Bool, true, false, not, cond}
use mathlib.Core.List.{List, [], ◌∷◌}
use lib.ListN.{length, length-append, drop, drop_of_length-le}
use borrow.Author.Tests.{not-true, not-false}
use Rattle.std.specs.Prelude.{Option, Some, None, Result, Ok, Err}
use Rattle.kinds.specs.Words.{atoms_word}
use Rattle.kinds.specs.declared.limits.Kind.{Kind}
use Rattle.kinds.specs.declared.limits.Kind.TheVariants.{Plain, Preference}
use Rattle.rules.specs.Lists.{is_empty}
use Rattle.name_store.specs.NameStore.{same_bytes}
use Rattle.kinds.specs.declared.refusals.Refusal.{Refusal}
use Rattle.kinds.specs.declared.refusals.Refusal.TheVariants.{BrokenForm}
use Rattle.gathering.specs.declared.gathered.Gathered.{Gathered}
use Rattle.answers.specs.declared.ReadRefusal.{ReadRefusal}
use Rattle.answers.specs.Reading.{read_refusal}
use Rattle.lines.specs.Lines.{line_length, lines_from, lines}
use Rattle.lines.specs.Tokens.{Token, tokens}
use Rattle.lines.specs.Shapes.{opens_with, OpenedSays, OpenedIs}
use Rattle.lines.specs.Forms.{Opened, opened, unopened, opened_of, LineForm, declares, rules, condition, blank, broken, form_of}
use Rattle.conditions.specs.Numbers.{condition_rules}
use Rattle.lines.specs.Faults.{SoFar, next, is_ruling, name_number, numbered, step_form}
use Rattle.lines.specs.Said.{Said, accepted, refused, kind_opened, kind_by, kind_of, on_step, read_lines, start, program_of, placed}
use Rattle.gathering.specs.Gathered.{state_of, Held, HeldIndex, HeldMarks, LineSays, LineIs, MarksSay, MarksAre}
use Rattle.reader.specs.FormedState.{Formed}
use Rattle.reader.specs.Gathering.{start_counts, passed_on, at_end, GatherSays, GatherIs}
use Rattle.lines.proofs.LinePlaces.{line, line_inside, lines_at}
use Rattle.gathering.proofs.HeldState.{rules_is, held_is}
use Rattle.reader.proofs.LineSteps.{declare_said, rule_said, condition_said}
use Rattle.reader.proofs.FormedLines.{line_formed, start_formed}

-- rules are only added, so marks of earlier rules stay below the next one's

more_rules : (st after : SoFar) (f : LineForm) → step_form st f ≡ next after → length st.program_rules ≤ length after.program_rules
more_rules st after (declares w xs) e = omega (arith, ap (λ z. length z.program_rules) (declare_said st w xs after e).1)
more_rules st after (rules hs bs ns) e = omega (arith, ap (λ z. length z.program_rules) (rule_said st hs bs ns after e).1, length-append st.program_rules (numbered st.names hs bs ns ∷ []))
more_rules st after (condition ts a) e =
    let d = condition_said st ts a after e in
    omega (arith, ap (λ z. length z.program_rules) d.2, length-append st.program_rules (condition_rules (length st.names) d.0 (name_number st.names a)))
more_rules st after blank e = let same : st ≡ after = cc in omega (arith, ap (λ z. length z.program_rules) same)
more_rules st after broken e = absurd (let z : ◌≡◌ {A = ℕ} 0 1 = cc in omega arith)

module _ {kind : Kind} {g : Gathered} {words bytes : List ℕ} (h : Held kind (state_of kind g words bytes) g words bytes) {f : LineForm} where
  pub later_marks : {words' bytes' starts' firsts' links' : List ℕ} {a : Result Gathered Refusal} → LineIs kind (state_of kind g words bytes) f words' bytes' starts' firsts' links' a → {marks : List ℕ} → HeldMarks g marks → MarksAre marks a
  later_marks {words'} {bytes'} {starts'} {firsts'} {links'} {a} w {marks} m = record { says = go a w.says }
    where
      go : (b : Result Gathered Refusal) → LineSays kind (state_of kind g words bytes) f words' bytes' starts' firsts' links' b → MarksSay marks b
      go (Err r) k = tt
      go (Ok g') k =
          let more = more_rules (state_of kind g words bytes) (state_of kind g' words' bytes') f k.0 in
          record { below = record { mark = λ x. omega (arith, m.below.mark x, more, rules_is k.1, rules_is h) }; room = m.room }

-- what a line gives, by what is passed on

ok_passed : (a : Result Gathered Refusal) (k : ℕ) {g : Gathered} → passed_on a k ≡ Ok g → a ≡ Ok g
ok_passed (Ok h) k {g} e = let z : h ≡ g = cc in ap Ok z
ok_passed (Err r) k e = absurd (let z : ◌≡◌ {A = ℕ} 0 1 = cc in omega arith)

fault_passed : (a : Result Gathered Refusal) (k : ℕ) {f : ReadRefusal} → passed_on a k ≡ Err f → (a ≡ Err f.refusal) × (f.line ≡ k)
fault_passed (Ok h) k e = absurd (let z : ◌≡◌ {A = ℕ} 0 1 = cc in omega arith)
fault_passed (Err r) k {f} e = let z : read_refusal r k ≡ f = cc in (ap (λ (x : ReadRefusal). Err x.refusal) z, ap (λ (x : ReadRefusal). x.line) (sym z))

-- the lines before `at` are read
pub record Reading (kind : Kind) (s : List ℕ) (g : Gathered) (words bytes starts firsts links marks : List ℕ) (at number : ℕ) : Type 0 where
  pub inside : at ≤ length s
  pub few : number ≤ at + 1
  pub held : Held kind (state_of kind g words bytes) g words bytes
  pub index : HeldIndex g bytes starts firsts links
  pub marked : HeldMarks g marks
  pub formed : Formed (state_of kind g words bytes)
  pub left : read_lines number (state_of kind g words bytes) (lines (drop at s)) ≡ read_lines 1 (start s) (lines s)

pub reading : {kind : Kind} {s : List ℕ} {g : Gathered} {words bytes starts firsts links marks : List ℕ}
    → Held kind (start s) start_counts words bytes → HeldIndex start_counts bytes starts firsts links → HeldMarks start_counts marks → g ≡ start_counts → Reading kind s g words bytes starts firsts links marks 0 1
reading {kind} {s} {g} {words} {bytes} {starts} {firsts} {links} {marks} h x m e =
    let is = held_is h in
    subst (λ j. Reading kind s j words bytes starts firsts links marks 0 1) (sym e)
    (record {
      inside = zero-le;
      few = omega arith;
      held = subst (λ st. Held kind st start_counts words bytes) is h;
      index = x;
      marked = m;
      formed = subst Formed is (start_formed s);
      left = ap (λ st. read_lines 1 st (lines s)) (sym is);
    })

module _ {kind : Kind} {s : List ℕ} {g : Gathered} {words bytes starts firsts links marks : List ℕ} {at number : ℕ} (h : Reading kind s g words bytes starts firsts links marks at number) where
  abbrev st : SoFar
  st = state_of kind g words bytes

  abbrev whole : Said
  whole = read_lines 1 (start s) (lines s)

  module _ (o : length s ≤ at) where
    lines_end : cond (is_ruling st.stage) (accepted (program_of (placed st)) (placed st).names) (refused BrokenForm number) ≡ whole
    unfolding read_lines lines lines_from
    lines_end = ap (λ l. read_lines number st (lines_from 0 l)) (sym (drop_of_length-le s o)) ∙ h.left

    pub no_line_left : {q : Result Gathered ReadRefusal} → q ≡ at_end g number → GatherIs kind whole words bytes q
    no_line_left k = record { says = subst (GatherSays kind whole words bytes) (sym k) (go (is_ruling g.stage) (sym (ap is_ruling h.held.stage_is))) }
      where
        go : (r : Bool) → is_ruling st.stage ≡ r → GatherSays kind whole words bytes (cond r (Ok g) (Err (read_refusal BrokenForm number)))
        go true d = (sym (rw d at lines_end), h.held, h.formed)
        go false d = sym (rw d at lines_end)

  module _ (l : at < length s) {n : ℕ} (e : n ≡ line_length (drop at s)) where
    step : on_step (step_form st (form_of (line s at l e))) number (λ after. read_lines (suc number) after (lines (drop (at + n) s))) ≡ whole
    unfolding read_lines
    step = ap (read_lines number st) (sym (lines_at s at l e)) ∙ h.left

    module _ {words' bytes' starts' firsts' links' marks' : List ℕ} {a : Result Gathered Refusal} (w : LineIs kind st (form_of (line s at l e)) words' bytes' starts' firsts' links' a) (m : MarksAre marks' a) where
      said : {b : Result Gathered Refusal} → a ≡ b → LineSays kind st (form_of (line s at l e)) words' bytes' starts' firsts' links' b
      said d = subst (LineSays kind st (form_of (line s at l e)) words' bytes' starts' firsts' links') d w.says

      pub line_refused : {f : Refusal} → a ≡ Err f → whole ≡ refused f number
      line_refused d = sym (rw (said d) at step)

      module _ {p : Result Gathered ReadRefusal} (k : p ≡ passed_on a number) where
        pub line_read : {g' : Gathered} → p ≡ Ok g' → Reading kind s g' words' bytes' starts' firsts' links' marks' (at + n) (number + 1)
        line_read {g'} d =
            let b = ok_passed a number (sym k ∙ d) in
            let t = said b in
            record {
              inside = (line_inside s at l e).0;
              few = omega (arith, h.few, (line_inside s at l e).1);
              held = t.1;
              index = t.2;
              marked = subst (MarksSay marks') b m.says;
              formed = line_formed st (state_of kind g' words' bytes') (form_of (line s at l e)) h.formed t.0;
              left = ap (λ m. read_lines m (state_of kind g' words' bytes') (lines (drop (at + n) s))) (add-one number) ∙ (rw t.0 at step);
            }

        pub line_passed : {f : ReadRefusal} → p ≡ Err f → {q : Result Gathered ReadRefusal} → q ≡ Err f → GatherIs kind whole words' bytes' q
        line_passed {f} d r =
            let b = fault_passed a number (sym k ∙ d) in
            record { says = subst (GatherSays kind whole words' bytes') (sym r) (line_refused b.0 ∙ ap (refused f.refusal) (sym b.1)) }

-- the kind, by the first line that is not blank

no_tokens : (ts : List Token) → is_empty ts ≡ true → ts ≡ []
no_tokens [] e = refl
no_tokens (t ∷ ts) e = absurd (let z : ◌≡◌ {A = ℕ} 0 1 = cc in omega arith)

pub record Telling (s : List ℕ) (at : ℕ) : Type 0 where
  pub inside : at ≤ length s
  pub left : kind_of (lines (drop at s)) ≡ kind_of (lines s)

pub telling : (s : List ℕ) → Telling s 0
telling s = record { inside = zero-le; left = refl }

module _ {s : List ℕ} {at : ℕ} (h : Telling s at) where
  pub none_tells : length s ≤ at → Preference ≡ kind_of (lines s)
  unfolding kind_of lines lines_from
  none_tells o = ap (λ l. kind_of (lines_from 0 l)) (sym (drop_of_length-le s o)) ∙ h.left

  module _ (l : at < length s) {n : ℕ} (e : n ≡ line_length (drop at s)) {q : Bool} (f : q ≡ is_empty (tokens (line s at l e))) where
    first : kind_by (tokens (line s at l e)) (kind_of (lines (drop (at + n) s))) ≡ kind_of (lines s)
    unfolding kind_of
    first = ap kind_of (sym (lines_at s at l e)) ∙ h.left

    pub blank_tells : not q ≡ false → Telling s (at + n)
    blank_tells d = record { inside = (line_inside s at l e).0; left = ap (λ ts. kind_by ts (kind_of (lines (drop (at + n) s)))) (sym (no_tokens (tokens (line s at l e)) (sym f ∙ not-false q d))) ∙ first }

    pub line_tells : not q ≡ true → {k : Kind} → k ≡ kind_opened (opened_of (tokens (line s at l e))) → k ≡ kind_of (lines s)
    line_tells d i = i ∙ go (tokens (line s at l e)) (sym f ∙ not-true q d) ∙ first
      where
        go : (ts : List Token) → is_empty ts ≡ false → kind_opened (opened_of ts) ≡ kind_by ts (kind_of (lines (drop (at + n) s)))
        go [] m = absurd (let z : ◌≡◌ {A = ℕ} 0 1 = cc in omega arith)
        go (t ∷ ts) m = refl

-- the kind of one line
module _ (l : List ℕ) {q : Option ℕ} (o : OpenedIs l 0 atoms_word q) where
  pub tells_plain : {p : ℕ} → q ≡ Some p → Plain ≡ kind_opened (opened_of (tokens l))
  unfolding same_bytes
  tells_plain {p} e = let k : OpenedSays l 0 atoms_word (Some p) = subst (OpenedSays l 0 atoms_word) e o.says in sym (ap kind_opened k.1)

  pub tells_preference : q ≡ None → Preference ≡ kind_opened (opened_of (tokens l))
  tells_preference e = go (opened_of (tokens l)) (subst (OpenedSays l 0 atoms_word) e o.says)
    where
      go : (t : Opened) → opens_with atoms_word t ≡ false → Preference ≡ kind_opened t
      go (opened x ts) n = ap (λ b. cond b Plain Preference) (sym n)
      go unopened n = refl
