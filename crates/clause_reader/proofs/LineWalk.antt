-- The walk over the items of a line of clauses.
use Prim.Native.Nat.{ℕ, ◌≤◌, ◌<◌, zero-le}
use native.Mathlib.Omega.{arith}
use mathlib.Core.Path.{◌≡◌, refl, sym, ap, ap₂, ◌∙◌, subst}
use mathlib.Core.List.{List}
use lib.ListN.{length, drop}
use Rattle.kinds.specs.declared.refusals.Refusal.{Refusal}
use Rattle.clauses.specs.Tokens.{line_tokens}
use Rattle.clauses.specs.Faults.{Step, clause_line}
use Rattle.clause_rules.specs.declared.clause.ClauseCounts.{ClauseCounts}
use Rattle.clause_rules.specs.HeldClauses.{held}
use Rattle.std.specs.Prelude.{Some, Result, Ok, Err}
use Rattle.clause_reader.specs.declared.clause_line.Progress.{Progress}
use Rattle.clause_reader.specs.Reading.{InClauses, ProgressSays, ProgressIs, LineIs}
use Rattle.clause_reader.proofs.TokenSteps.{line_passed}
use Rattle.clause_reader.proofs.LaterSteps.{none_left}

-- the items before `at` are read, of a line that gives a step
pub record InLine (line : List ℕ) (n m : ℕ) (step : Step) (d : ClauseCounts) (words bodies marks : List ℕ) (at : ℕ) : Type 0 where
  pub inside : at ≤ length line
  pub same_atoms : d.atoms ≡ n
  pub same_clauses : d.clauses ≡ m
  pub holds : InClauses d words bodies marks
  pub left : clause_line n m (held d words bodies) (line_tokens (drop at line)) ≡ step

pub line_begun : {line : List ℕ} {c : ClauseCounts} {words bodies marks : List ℕ} → InClauses c words bodies marks
    → InLine line c.atoms c.clauses (clause_line c.atoms c.clauses (held c words bodies) (line_tokens line)) c words bodies marks 0
line_begun k = record { inside = zero-le; same_atoms = refl; same_clauses = refl; holds = k; left = refl }

module _ {line : List ℕ} {n m : ℕ} {step : Step} {d : ClauseCounts} {words bodies marks : List ℕ} {at : ℕ} (w : InLine line n m step d words bodies marks at) where
  abbrev from : ℕ → ℕ → Step
  from x y = clause_line x y (held d words bodies) (line_tokens (drop at line))

  module _ {words' bodies' marks' : List ℕ} {r : Result Progress Refusal} (p : ProgressIs line at d (held d words bodies) words' bodies' marks' r) where
    said : {q : Result Progress Refusal} → r ≡ q → ProgressSays line at d (held d words bodies) words' bodies' marks' q
    said e = subst (ProgressSays line at d (held d words bodies) words' bodies' marks') e p.says

    pub item_read : {e : Progress} → r ≡ Ok e → InLine line n m step e.counts words' bodies' marks' e.at × (at < e.at)
    item_read {e} q =
        let t = said q in (
          record {
            inside = t.3;
            same_atoms = t.0.atoms ∙ w.same_atoms;
            same_clauses = t.0.clauses ∙ w.same_clauses;
            holds = t.1;
            left =
                ap₂ (λ x y. clause_line x y (held e.counts words' bodies') (line_tokens (drop e.at line))) (sym w.same_atoms) (sym w.same_clauses)
                ∙ sym t.4
                ∙ ap₂ from w.same_atoms w.same_clauses
                ∙ w.left;
          },
          t.2,
        )

    pub item_refused : {f : Refusal} → r ≡ Err f → LineIs step words' bodies' marks' (Err f)
    item_refused q = record { says = sym w.left ∙ ap₂ from (sym w.same_atoms) (sym w.same_clauses) ∙ said q }

  pub items_read : length line ≤ at → LineIs step words bodies marks (Ok (Some d))
  items_read l =
      let h = w.holds in
      record {
        says = (
          sym w.left
              ∙ ap₂ from (sym w.same_atoms) (sym w.same_clauses)
              ∙ ap (clause_line d.atoms d.clauses (held d words bodies)) (none_left line at l)
              ∙ line_passed d.atoms d.clauses (held d words bodies) h.few (omega (arith, h.holds.occurrences_are, h.holds.occurrences_fit)),
          h,
        );
      }
