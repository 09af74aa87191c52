-- The tables of a held preference program.
use Prim.Native.Nat.{ℕ, ◌≤◌, ◌<◌}
use native.Mathlib.Omega.{arith}
use mathlib.Core.Path.{◌≡◌, refl, ◌∙◌, subst}
use mathlib.Core.Bool.{Bool, false}
use mathlib.Core.List.{List}
use lib.ListN.{length, get_or, replicate}
use Rattle.kinds.specs.Limits.{atom_limit}
use Rattle.kinds.specs.declared.limits.Kind.TheVariants.{Preference}
use Rattle.rules.specs.Rules.{Rule}
use Rattle.stores.specs.Program.{ProgramForm}
use Rattle.stores.specs.RuleStore.{rules_from}
use Rattle.stores.specs.StoredRules.{StoredRules}
use Rattle.stores.proofs.StoredRules.{rules_within}
use Rattle.lines.specs.Faults.{SoFar}
use Rattle.lines.specs.Said.{program_of}
use Rattle.std.specs.Prelude.{Result}
use Rattle.answers.specs.declared.ReadSizes.{ReadSizes}
use Rattle.answers.specs.declared.ReadRefusal.{ReadRefusal}
use Rattle.restriction.specs.Atoms.{is_used}
use Rattle.restriction.specs.Remaining.{remaining, remaining_names}
use Rattle.gathering.specs.declared.gathered.Gathered.{Gathered}
use Rattle.gathering.specs.Gathered.{state_of, Held}
use Rattle.gathering.proofs.HeldState.{atoms_is, within_limits}
use Rattle.delivery.specs.Delivered.{Delivered}
use Rattle.used_atoms.specs.Marks.{Marks, marked}
use Rattle.remaining_stores.specs.Tables.{Tables}
use Rattle.remaining_stores.proofs.HeldRules.{rule_part, rule_part_lem, rules_stored}
use Rattle.remaining_stores.proofs.Tabling.{more_inside, tables, all_delivered}

module _ {g : Gathered} {words bytes : List ℕ} (h : Held Preference (state_of Preference g words bytes) g words bytes) (f : ProgramForm (program_of (state_of Preference g words bytes))) where
  abbrev st : SoFar
  st = state_of Preference g words bytes

  abbrev n : ℕ
  n = g.counts.atoms

  pub few_atoms : n ≤ atom_limit Preference
  few_atoms = (within_limits Preference g.counts h.counts_fit).atoms

  pub rules_ready : StoredRules (atom_limit Preference) g.counts.rules (rule_part n words)
  rules_ready = rules_stored h (atom_limit Preference) (more_inside st.program_rules (rules_within f) (omega (arith, atoms_is h, few_atoms)))

  pub few_number : n < 65536
  few_number = omega (arith, few_atoms)

  pub marks_room : {t : ℕ → Bool} {marks : List Bool} → Marks t (replicate (atom_limit Preference) false) marks → n ≤ length marks
  marks_room m = omega (arith, few_atoms, m.size)

  module _ {marks : List Bool} (numbers : List ℕ) {count : ℕ} (m : Marks (is_used (rules_from g.counts.rules (rule_part n words))) (replicate (atom_limit Preference) false) marks)
      (room : length numbers ≡ atom_limit Preference) (c : count ≡ length (marked n marks)) (e : (a : ℕ) → a < n → get_or numbers a 0 ≡ length (marked a marks)) where
    pub filled : Tables (program_of st) marks numbers count
    filled =
        tables {p = program_of st} (atoms_is h) few_atoms (omega (arith, room, few_atoms)) (rules_within f)
        (subst (λ (rs : List (Rule ℕ)). Marks (is_used rs) (replicate (atom_limit Preference) false) marks) (rule_part_lem h) m) c e

    pub none_out : count ≡ n → {rules names rules' names' : List ℕ} {r : Result ReadSizes ReadRefusal} → Delivered (program_of st) st.names rules names rules' names' r
        → Delivered (remaining (program_of st)) (remaining_names (program_of st) st.names) rules names rules' names' r
    none_out q d = all_delivered d f filled (q ∙ atoms_is h) refl
