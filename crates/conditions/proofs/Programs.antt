-- The written program is of the store's form, as far as the limits allow it: so every verdict, list and translation takes it.
use Prim.Native.Nat.{ℕ, ◌+◌, ◌≤◌, ◌<◌}
use native.Mathlib.Omega.{arith}
use mathlib.Core.Path.{sym, subst}
use mathlib.Core.List.{List}
use lib.ListN.{length}
use Rattle.kinds.specs.Limits.{atom_limit, rule_limit, occurrence_limit}
use Rattle.kinds.specs.declared.limits.Kind.TheVariants.{Preference}
use Rattle.rules.specs.Lists.{All, sum}
use Rattle.rules.specs.Rules.{occurrences}
use Rattle.rules.proofs.Lists.{all_imp, all_flat, all_from}
use Rattle.stores.specs.Program.{ProgramForm, RuleForm}
use Rattle.restriction.proofs.Places.{within_atoms}
use Rattle.conditions.specs.Conditions.{Statement, states, when, statement_names, made_atoms}
use Rattle.conditions.specs.Written.{written}
use Rattle.conditions.specs.Numbers.{unfixed, placed_rules, written_rules, Taken, Declared}
use Rattle.conditions.specs.Programs.{StatementForm, Typed, written_program}
use Rattle.conditions.proofs.Counts.{numbered_distinct}
use Rattle.conditions.proofs.Formed.{Formed, IsMade, statements_formed, rules_placed}
use Rattle.conditions.proofs.Classes.{unfixed_le, placed_classes}

statement_names_lem : (n : ℕ) (l : Statement) → StatementForm n l → All (λ a. a < n) (statement_names l)
statement_names_lem n (states r) f = (within_atoms (λ a. a < n) r).0 (record { head = f.head_form.0; body = f.body_form.0; nots = f.nots_form.0 })
statement_names_lem n (when c a) f = f

module _ (classes : ℕ) (ws : List ℕ) (ls : List Statement) (typed : Typed classes ws ls) where
  abbrev k : ℕ
  k = length (made_atoms ls)

  pub typed_taken : Taken ws ls
  typed_taken = record {
    declared = all_flat (λ a. a < length ws) statement_names ls (all_imp (StatementForm (length ws)) _ (statement_names_lem (length ws)) ls typed.statement_forms);
    numbered = typed.numbered;
  }

  pub written_formed : All (Formed (Declared (length ws) k)) (written ls)
  written_formed =
      statements_formed (length ws) k ls typed.statement_forms
      (subst (All (IsMade k)) (sym typed.numbered) (all_from (IsMade k) 1 k (λ t l u. (l, omega arith)))) (numbered_distinct ls typed.numbered)

  pub written_rules_lem : All (RuleForm Preference (length ws + k)) (written_rules ws ls)
  unfolding placed_rules
  written_rules_lem = rules_placed (length ws) k (unfixed ws) (unfixed_le ws) (written ls) written_formed

  pub written_form : length ws + k ≤ atom_limit Preference → length (written_rules ws ls) ≤ rule_limit Preference → sum occurrences (written_rules ws ls) ≤ occurrence_limit Preference → ProgramForm (written_program classes ws ls)
  unfolding written_program
  written_form la lr lo = record { atoms_fit = la; rules_fit_lem = lr; occurrences_fit = lo; classes_form = placed_classes classes ws typed.classes_form k; rule_forms = written_rules_lem }
