-- What the scratch and the counts say of the clauses so far.
use Rattle.std.specs.Prelude.{ℕ, suc, ◌+◌, ◌*◌, ◌≤◌, ◌<◌, ◌≡◌, List, ◌++◌, eqb, length, get_or, take, drop, replicate, Option, Some, None}
use Rattle.kinds.specs.Limits.{atom_limit, rule_limit, occurrence_limit}
use Rattle.kinds.specs.Sizes.{store_words}
use Rattle.kinds.specs.declared.limits.Kind.TheVariants.{Preference}
use Rattle.rules.specs.Lists.{flat}
use Rattle.stores.specs.Checking.{Below}
use Rattle.stores.specs.RuleStore.{rule_words, rules_from}
use Rattle.restriction.specs.Atoms.{is_member}
use Rattle.gathering.specs.Gathered.{Filled}
use Rattle.clauses.specs.Literals.{Literal}
use Rattle.clauses.specs.Gathered.{Gathered, nothing, with_literal, with_end, occurrences_in}
use Rattle.clause_rules.specs.declared.clause.ClauseCounts.{ClauseCounts}

-- what the scratch decodes to
unfoldable pub held : ClauseCounts → List ℕ → List ℕ → Gathered
held c words bodies = record {
  rules = rules_from c.rules (drop (4 + c.atoms) words);
  heads = take c.heads (drop (c.words + 3) words);
  bodies = take c.bodies bodies;
}

-- the scratch holds what is gathered
pub record HeldClauses (g : Gathered) (c : ClauseCounts) (words bodies : List ℕ) : Type 0 where
  pub stored : Filled words 4 c.words (replicate c.atoms 1 ++ flat rule_words g.rules)
  pub rules_are : c.rules ≡ length g.rules
  pub heads_stored : take c.heads (drop (c.words + 3) words) ≡ g.heads
  pub heads_are : c.heads ≡ length g.heads
  pub bodies_stored : take c.bodies bodies ≡ g.bodies
  pub bodies_are : c.bodies ≡ length g.bodies
  pub occurrences_are : c.occurrences ≡ occurrences_in g
  pub atoms_fit : c.atoms ≤ atom_limit Preference
  pub clauses_fit : c.clauses ≤ rule_limit Preference
  pub rules_fit_lem : c.rules ≤ c.clauses
  pub occurrences_fit : c.occurrences ≤ occurrence_limit Preference
  pub words_room : length words ≡ store_words
  pub bodies_room : length bodies ≡ occurrence_limit Preference

-- each literal of the clause that has begun has its mark, the positive ones first: how many rules there are, and one
pub record Marked (g : Gathered) (marks : List ℕ) : Type 0 where
  pub below : Below (length g.rules + 2) marks
  pub heads : (a : ℕ) → a < atom_limit Preference → eqb (get_or marks a 0) (suc (length g.rules)) ≡ is_member g.heads a
  pub bodies : (a : ℕ) → a < atom_limit Preference → eqb (get_or marks (atom_limit Preference + a) 0) (suc (length g.rules)) ≡ is_member g.bodies a
  pub room : length marks ≡ 2 * atom_limit Preference

-- the header's numbers stay
pub record SameHeader (c d : ClauseCounts) : Type 0 where
  pub atoms : d.atoms ≡ c.atoms
  pub clauses : d.clauses ≡ c.clauses

-- with any room for body atoms, nothing is gathered yet
pub record Started (n m : ℕ) (words : List ℕ) (c : ClauseCounts) : Type 0 where
  pub atoms : c.atoms ≡ n
  pub clauses : c.clauses ≡ m
  pub holds : (bodies : List ℕ) → length bodies ≡ occurrence_limit Preference → HeldClauses nothing c words bodies

abbrev pub TakenSays : Gathered → ClauseCounts → Literal → List ℕ → List ℕ → List ℕ → Option ClauseCounts → Type 0
TakenSays g c l words bodies marks (Some d) = SameHeader c d × HeldClauses (with_literal g l) d words bodies × Marked (with_literal g l) marks
TakenSays g c l words bodies marks None = occurrence_limit Preference < occurrences_in (with_literal g l)

-- one literal more
pub record TakenIs (g : Gathered) (c : ClauseCounts) (l : Literal) (words bodies marks : List ℕ) (r : Option ClauseCounts) : Type 0 where
  pub says : TakenSays g c l words bodies marks r

-- one rule more
pub record EndedAs (g : Gathered) (c : ClauseCounts) (words bodies : List ℕ) (d : ClauseCounts) : Type 0 where
  pub header : SameHeader c d
  pub holds : HeldClauses (with_end g) d words bodies
