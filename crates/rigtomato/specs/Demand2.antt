-- Demand 2 (document 01, "Verdicts"; document 02, W-202, W-203, W-205, W-206, W-207, W-208 and W-209): unless the budget runs out, the verdicts are those of the theory, and every preferred state is listed once, in order.
use Rattle.std.specs.Prelude.{ℕ, ◌≤◌, ◌≡◌, ◌⊎◌, List, length}
use Rattle.kinds.specs.Limits.{stream_limit, walk_atoms}
use Rattle.kinds.specs.declared.limits.Kind.TheVariants.{Preference}
use Rattle.rules.specs.Rules.{Rule}
use Rattle.stores.specs.Program.{Program, ProgramForm}
use Rattle.stores.specs.RuleStore.{StoreOf}
use Rattle.restriction.specs.Remaining.{left}
use Rattle.restriction.specs.PreferredLeft.{PreferredLeft}
use Rattle.faults.specs.EarliestFault.{Accepts}
use Rattle.condition_text.specs.ReadDirectly.{ReadDirectly}
use Rattle.clauses.specs.ClausesSaid.{clauses_of}
use Rattle.clauses.specs.Satisfying.{WrittenClauses}
use Rattle.clauses.specs.Sentences.{AcceptsClauses}
use Rattle.canonical_text.specs.CanonicalTexts.{CanonicalStates}
use Rattle.rule_index.specs.Growth.{with_rule}
use Rattle.rule_index.specs.Meanings.{Flips, Grows}
use Rattle.walks.specs.Order.{walk_order, preferred_sets}
use Rattle.places.specs.Places.{InPlaces}
use Rattle.walks.specs.Meanings.{Ordered}
use Rattle.walks.specs.Listings.{ListsPreferred}
use Rattle.walks.specs.FullWalk.{WalksAgree}
use Rattle.walks.specs.RisingOrder.{OrdersAgree}
use Rattle.answers.specs.Indexing.{Indexes}
use Rattle.answers.specs.Judged.{Judges}
use Rattle.answers.specs.Listed.{whole_listing}
use Rattle.answers.specs.PrintedStates.{PrintsAll, PrintsSome}
use Rattle.answers.specs.Programs.{states_printed}
use Rattle.answers.specs.Refusals.{Streams}

-- what `states` prints of a preference file with at most 60 atoms: its listing, or refusal 9 where that passes an output's size
pub record Lists (text : List ℕ) (p : Program) (names : List (List ℕ)) : Type 0 where
  pub printed : Streams (whole_listing p names) (states_printed text)
  -- one line for each preferred set, once, in order, and then their number; or the first of them, where a step is spent
  pub listing : PrintsAll p names ⊎ PrintsSome p names
  pub states : ListsPreferred p.words p.rules (preferred_sets p.words p.rules)

pub record Demand2 : Type 0 where
  -- the order of the walks has each set once, earlier ones first; a set's place says where
  pub order : (n : ℕ) → Ordered n (walk_order n)
  pub places : (n : ℕ) → InPlaces n
  -- where neither is spent, verdict, better set and next state are those of the walk over all sets
  pub walks : WalksAgree
  -- and there document 01's order gives the same verdicts and states
  pub orders : OrdersAgree
  pub verdicts : (rules : List ℕ) (p : Program) (number budget : ℕ) → Judges rules p number budget
  pub lists : (text : List ℕ) (p : Program) (names : List (List ℕ)) → length text ≤ stream_limit → Accepts text p names → p.kind ≡ Preference → p.atoms ≤ walk_atoms → Lists text p names
  -- a file's preferred sets are those of all atoms that it declares, cut to what is left
  pub left_out : (text : List ℕ) (p : Program) (names : List (List ℕ)) (a : Accepts text p names) → p.kind ≡ Preference
      → PreferredLeft (left a.1.whole) a.1.whole.words a.1.whole.rules p.words p.rules
  -- "The preferred states, cut to the planner's atoms, are those of the conditions read directly, each from just one state" (W-208)
  pub conditions : (text : List ℕ) (p : Program) (names : List (List ℕ)) → Accepts text p names → p.kind ≡ Preference → ReadDirectly text p names
  -- "The sets satisfying the clauses are exactly the models of what is written, and its preferred states are their subset-minimal ones" (W-202)
  pub clause_sets : (text : List ℕ) (p : Program) (names : List (List ℕ)) (a : AcceptsClauses text p names) → WrittenClauses a.atoms (clauses_of text) p names
  -- "preferred states are those of the typed file" (W-205): what is read from a file's canonical text has the file's declarations, and its preferred and stable sets
  pub canonical_states : CanonicalStates
  -- what index and flip are of a store (W-209)
  pub indexes : (rules : List ℕ) (p : Program) → StoreOf rules p → Indexes rules p
  -- an atom's rules, the rules that a set breaks, and what a flip makes of a list of rules
  pub flips : Flips
  -- and the store and the index to which a rule is added
  pub grows : (rules : List ℕ) (p : Program) (r : Rule ℕ) → StoreOf rules p → ProgramForm (with_rule p r) → Grows rules p r
