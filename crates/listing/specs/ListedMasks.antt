-- The listing over sorted masks, and what the code has on its way.
use Rattle.std.specs.Prelude.{ℕ, suc, ◌^◌, ◌≤◌, ◌<◌, ◌≡◌, List, [], T, length}
use Rattle.kinds.specs.Limits.{stream_limit, walk_atoms, budget_limit, rule_limit}
use Rattle.kinds.specs.declared.limits.Kind.TheVariants.{Plain, Preference}
use Rattle.rules.specs.Lists.{All}
use Rattle.stores.specs.RuleStore.{StoreOf, decode}
use Rattle.names.specs.Names.{allowed}
use Rattle.name_store.specs.NameIndex.{Placed}
use Rattle.output.specs.Emitted.{Emitted}
use Rattle.text.specs.Items.{stored_names}
use Rattle.walks.specs.declared.answers.NextState.{NextState}
use Rattle.places.specs.Places.{place}
use Rattle.masks.specs.AnswersAt.{next_at}
use Rattle.groups.specs.Groups.{GroupsOf}
use Rattle.groups.specs.Plans.{classes_in, starts_in, care_in, want_in, HasTables}
use Rattle.lister.specs.NextMasks.{next_m}
use Rattle.printing.specs.Parts.{Shown}
use Rattle.answers.specs.Printed.{total_line, spent_line}
use Rattle.answers.specs.Listed.{on_next, listing, streamed}

-- the names of a preference program of n atoms, at most 60, and the table of their places
pub record ListedNames (n : ℕ) (names starts : List ℕ) : Type 0 where
  pub few : n ≤ walk_atoms
  pub count : length starts ≡ n
  pub placed : Placed (stored_names names starts) names starts
  pub all_allowed : All (λ x. T (allowed Preference x)) (stored_names names starts)

-- a preference store with its names
pub record ListedStores (rules names starts : List ℕ) : Type 0 where
  pub store : StoreOf rules (decode rules)
  pub kind : (decode rules).kind ≡ Preference
  pub named : ListedNames (decode rules).atoms names starts

-- a plan of a preference program with its names; over masks a set is its place
pub record ListedMasks (plan : List ℕ) (n : ℕ) (names starts : List ℕ) : Type 0 where
  pub tables : HasTables plan
  pub named : ListedNames n names starts

abbrev pub masks_listing : List ℕ → List ℕ → List ℕ → List ℕ → ℕ → ℕ → List (List ℕ) → List ℕ
masks_listing care want groups classes fixed n names = listing (place n) (λ t. next_at n (next_m care want groups classes fixed n t budget_limit)) (suc (2 ^ n)) names 0 0

abbrev pub plan_listing : List ℕ → ℕ → ℕ → List (List ℕ) → List ℕ
plan_listing p fixed n names = masks_listing (care_in p) (want_in p) (starts_in p) (classes_in p) fixed n names

-- masks of rules that can be sorted
pub record SortableMasks (care want : List ℕ) : Type 0 where
  pub same_length : length want ≡ length care
  pub rules_fit_lem : length care ≤ rule_limit Plain
  pub small : All (λ c. c < 2 ^ walk_atoms) care

-- the listing by some grouping of the masks is printed
pub record SortedListing (cs ws classes : List ℕ) (fixed n : ℕ) (names : List (List ℕ)) (before after : List ℕ) (size : ℕ) : Type 0 where
  pub care : List ℕ
  pub want : List ℕ
  pub groups : List ℕ
  pub sorted : GroupsOf cs ws care want groups
  pub shown : Shown (streamed (masks_listing care want groups classes fixed n names)) before after size

-- the last line: the number of states or `(spent)`
unfoldable pub last_line : NextState → ℕ → List ℕ
last_line found c = on_next found (λ s. []) (total_line c) spent_line

-- a text was written up to the size of an output; the answer is its length, or passes that size where the text does
pub record Limited (text before after : List ℕ) (size : ℕ) : Type 0 where
  pub fits : length text ≤ stream_limit → Emitted before 0 text after size
  pub past : stream_limit < length text → stream_limit < size
