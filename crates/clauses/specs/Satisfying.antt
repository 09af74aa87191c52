-- "The sets satisfying the clauses are exactly the models of what is written, and its preferred states are their subset-minimal ones" (document 02, W-202), over the remaining atoms (W-203).
use Rattle.std.specs.Prelude.{ℕ, ◌^◌, ◌<◌, ◌≡◌, ◌↔◌, Bool, List, map, eqb, length, replicate}
use Rattle.kinds.specs.declared.limits.Kind.TheVariants.{Preference}
use Rattle.rules.specs.Lists.{some, filter, from}
use Rattle.rules.specs.Sets.{has, ProperSubset}
use Rattle.rules.specs.Rules.{Model}
use Rattle.rules.specs.Preferred.{Preferred}
use Rattle.stores.specs.Program.{Program, ProgramForm}
use Rattle.name_store.specs.NameStore.{NamesForm}
use Rattle.restriction.specs.Atoms.{place_in}
use Rattle.restriction.specs.PreferredLeft.{cut_to}
use Rattle.restriction.specs.Remaining.{AllUsed}
use Rattle.clauses.specs.Literals.{Literal, atom_of, Satisfies}
use Rattle.clauses.specs.Written.{clause_name}

-- some clause has atom a
abbrev pub is_standing : List (List Literal) → ℕ → Bool
is_standing cs a = some (λ c. some (λ l. eqb a (atom_of l)) c) cs

-- the atoms below n that do, in sequence
unfoldable pub standing : ℕ → List (List Literal) → List ℕ
standing n cs = filter (is_standing cs) (from 0 n)

-- set m, whose members are places among the atoms xs of a clause file, satisfies the clauses
abbrev pub SatisfiedBy : List ℕ → List (List Literal) → ℕ → Type 0
SatisfiedBy xs cs m = Satisfies (λ a. has m (place_in xs a)) cs

pub record Satisfying (xs : List ℕ) (cs : List (List Literal)) (p : Program) : Type 0 where
  pub models : (m : ℕ) → SatisfiedBy xs cs m ↔ Model p.rules (has m)
  -- of a set of all the file's atoms, what remains of it decides
  pub whole : (x : ℕ) → Satisfies (has x) cs ↔ Model p.rules (has (cut_to xs x))
  pub minimal : (m : ℕ) → m < 2 ^ p.atoms → Preferred p.words p.rules m ↔ (SatisfiedBy xs cs m × ((x : ℕ) → ProperSubset x m → SatisfiedBy xs cs x → ⊥))

-- p with its names is what clauses cs over n atoms are written as
pub record WrittenClauses (n : ℕ) (cs : List (List Literal)) (p : Program) (names : List (List ℕ)) : Type 0 where
  pub names_are : names ≡ map clause_name (standing n cs)
  pub atoms_are : p.atoms ≡ length (standing n cs)
  pub kind_is : p.kind ≡ Preference
  pub one_class_lem : (p.classes ≡ 1) × (p.words ≡ replicate p.atoms 1)
  pub a_rule_each : length p.rules ≡ length cs
  pub form : ProgramForm p × NamesForm Preference p.atoms names
  pub all_used : AllUsed p
  pub satisfying : Satisfying (standing n cs) cs p
