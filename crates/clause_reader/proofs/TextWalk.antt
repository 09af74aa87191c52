-- The walk over the lines of a clause file.
use Prim.Native.Nat.{ℕ, suc, ◌+◌, ◌≤◌, ◌<◌, zero-le}
use native.Mathlib.Numerals.{add-one}
use native.Mathlib.Omega.{arith}
use mathlib.Core.Path.{◌≡◌, refl, sym, ap, ◌∙◌, subst}
use mathlib.Core.Bool.{Bool, true, false, cond, ◌&&◌}
use mathlib.Core.List.{List, []}
use lib.Dec.{eqb}
use lib.ListN.{length, drop, drop_of_length-le}
use Rattle.kinds.specs.declared.refusals.Refusal.{Refusal}
use Rattle.kinds.specs.declared.refusals.Refusal.TheVariants.{BrokenClauses}
use Rattle.rules.proofs.Booleans.{both_true}
use Rattle.lines.specs.Lines.{line_length, lines_from, lines}
use Rattle.lines.specs.Said.{Said, refused}
use Rattle.lines.proofs.LinePlaces.{line, line_inside, lines_at}
use Rattle.clauses.specs.Gathered.{is_closed}
use Rattle.clauses.specs.Faults.{unheaded, step_line}
use Rattle.clauses.specs.ClausesSaid.{on_step, read_lines}
use Rattle.clause_rules.specs.HeldClauses.{held}
use Rattle.std.specs.Prelude.{Option, Some, None, Result, Ok, Err}
use Rattle.answers.specs.declared.ReadRefusal.{ReadRefusal}
use Rattle.answers.specs.Reading.{read_refusal}
use Rattle.clause_rules.specs.declared.clause.ClauseCounts.{ClauseCounts}
use Rattle.clause_reader.specs.Reading.{state_of, Empty, HeldReading, is_full, LineSays, LineIs, numbered, at_end, GatherSays, GatherIs}
use Rattle.clause_reader.proofs.ClauseSteps.{full_is}

-- what the whole text says, with all atoms of the header
abbrev whole : List ℕ → Said
whole s = read_lines 1 unheaded (lines s)

-- what a numbered answer says of the line's
module _ (a : Result (Option ClauseCounts) Refusal) (k : ℕ) where
  numbered_ok : {t : Option ClauseCounts} → numbered a k ≡ Ok t → a ≡ Ok t
  numbered_ok {t} e = go a e
    where
      go : (b : Result (Option ClauseCounts) Refusal) → numbered b k ≡ Ok t → b ≡ Ok t
      go (Ok r) e = cc
      go (Err r) e = cc

  numbered_err : {f : ReadRefusal} → numbered a k ≡ Err f → (a ≡ Err f.refusal) × (k ≡ f.line)
  numbered_err {f} e = go a e
    where
      go : (b : Result (Option ClauseCounts) Refusal) → numbered b k ≡ Err f → (b ≡ Err f.refusal) × (k ≡ f.line)
      go (Ok r) e = absurd (let z : ◌≡◌ {A = ℕ} 0 1 = cc in omega arith)
      go (Err r) e = let z : read_refusal r k ≡ f = cc in (ap (λ (x : ReadRefusal). Err x.refusal) z, ap (λ (x : ReadRefusal). x.line) z)

-- the lines before `at` are read
pub record InText (s : List ℕ) (r : Option ClauseCounts) (words bodies marks : List ℕ) (at number : ℕ) : Type 0 where
  pub inside : at ≤ length s
  pub few : number ≤ at + 1
  pub holds : HeldReading r words bodies marks
  pub left : read_lines number (state_of r words bodies) (lines (drop at s)) ≡ whole s

pub text_begun : {s words bodies marks : List ℕ} → Empty words bodies marks → InText s None words bodies marks 0 1
text_begun e = record { inside = zero-le; few = omega arith; holds = e; left = refl }

module _ {s : List ℕ} {r : Option ClauseCounts} {words bodies marks : List ℕ} {at number : ℕ} (h : InText s r words bodies marks at number) where
  module _ (o : length s ≤ at) where
    lines_end : read_lines number (state_of r words bodies) [] ≡ whole s
    unfolding lines lines_from
    lines_end = ap (λ l. read_lines number (state_of r words bodies) (lines_from 0 l)) (sym (drop_of_length-le s o)) ∙ h.left

  module _ (l : at < length s) {n : ℕ} (e : n ≡ line_length (drop at s)) where
    step : on_step (step_line (state_of r words bodies) (line s at l e)) number (λ after. read_lines (suc number) after (lines (drop (at + n) s))) ≡ whole s
    unfolding read_lines
    step = ap (read_lines number (state_of r words bodies)) (sym (lines_at s at l e)) ∙ h.left

    module _ {words' bodies' marks' : List ℕ} {a : Result (Option ClauseCounts) Refusal} (w : LineIs (step_line (state_of r words bodies) (line s at l e)) words' bodies' marks' a) where
      said : {b : Result (Option ClauseCounts) Refusal} → a ≡ b → LineSays (step_line (state_of r words bodies) (line s at l e)) words' bodies' marks' b
      said d = subst (LineSays (step_line (state_of r words bodies) (line s at l e)) words' bodies' marks') d w.says

      pub line_read : {t : Option ClauseCounts} → numbered a number ≡ Ok t → InText s t words' bodies' marks' (at + n) (number + 1)
      line_read {t} d =
          let k = said (numbered_ok a number d) in
          record {
            inside = (line_inside s at l e).0;
            few = omega (arith, h.few, (line_inside s at l e).1);
            holds = k.1;
            left = ap (λ m. read_lines m (state_of t words' bodies') (lines (drop (at + n) s))) (add-one number) ∙ (rw k.0 at step);
          }

      pub line_refused : {f : ReadRefusal} → numbered a number ≡ Err f → GatherIs (whole s) words' bodies' (Err f)
      line_refused {f} d =
          let k = numbered_err a number d in
          record { says = sym (rw (said k.0) at step) ∙ ap (refused f.refusal) k.1 }

-- behind the last line
ended_as : (s : List ℕ) (r : Option ClauseCounts) (words bodies marks : List ℕ) (number : ℕ) → HeldReading r words bodies marks → read_lines number (state_of r words bodies) [] ≡ whole s → GatherSays (whole s) words bodies (at_end r number)
unfolding read_lines
ended_as s None words bodies marks number h e = sym e
ended_as s (Some c) words bodies marks number h e = go (is_full c) (full_is h.holds)
  where
    ready : Bool
    ready = is_closed (held c words bodies) && eqb (length (held c words bodies).rules) c.clauses

    go : (b : Bool) → b ≡ ready → GatherSays (whole s) words bodies (cond b (Ok c) (Err (read_refusal BrokenClauses number)))
    go true q = (sym (rw (sym q) at e), h.holds, (both_true (is_closed (held c words bodies)) (eqb (length (held c words bodies).rules) c.clauses) (sym q)).0)
    go false q = sym (rw (sym q) at e)

pub text_read : {s : List ℕ} {r : Option ClauseCounts} {words bodies marks : List ℕ} {at number : ℕ} → InText s r words bodies marks at number → length s ≤ at → {q : Result ClauseCounts ReadRefusal} → q ≡ at_end r number → GatherIs (whole s) words bodies q
text_read {s} {r} {words} {bodies} {marks} {at} {number} h o k = record { says = subst (GatherSays (whole s) words bodies) (sym k) (ended_as s r words bodies marks number h.holds (lines_end h o)) }
