-- The rules of sorted entries with equal neighbours made one, and the words of a store that has them.
use Rattle.std.specs.Prelude.{ℕ, ◌+◌, ◌≤◌, ◌≡◌, Bool, true, false, List, [], ◌∷◌, ◌++◌, map, length, get_or, take, drop}
use Rattle.rules.specs.Lists.{flat}
use Rattle.rules.specs.Rules.{Rule}
use Rattle.stores.specs.Program.{Program}
use Rattle.stores.specs.RuleStore.{rule_words, encode, kind_of, word_count}
use Rattle.output.specs.Emitted.{Emitted}
use Rattle.canonical.specs.Order.{once}
use Rattle.canonical.specs.Canonical.{compare_rules}
use Rattle.canonical.specs.CanonicalProgram.{canonical_program}
use Rattle.std.specs.declared.cmp.Ordering.{Ordering}
use Rattle.std.specs.declared.cmp.Ordering.TheVariants.{Less, Equal, Greater}
use Rattle.rule_sort.specs.RuleOrder.{entry_rule}
use Rattle.entry_sort.specs.EqualKeys.{KeyedEntries}
use Rattle.canonical_store.specs.declared.written_rules.Written.{Written}

unfoldable pub kept_rules : List ℕ → List ℕ → List (Rule ℕ)
kept_rules ws order = once compare_rules (map (entry_rule ws) order)

abbrev pub differs : Ordering → Bool
differs Less = true
differs Equal = false
differs Greater = true

-- the first entry's rule is not that of the next
unfoldable pub is_kept : List ℕ → List ℕ → Bool
is_kept ws [] = false
is_kept ws (x ∷ []) = true
is_kept ws (x ∷ (y ∷ l)) = differs (compare_rules (entry_rule ws x) (entry_rule ws y))

pub record WrittenRules (before : List ℕ) (at : ℕ) (rs : List (Rule ℕ)) (after : List ℕ) (w : Written) : Type 0 where
  pub words : Emitted before at (flat rule_words rs) after w.next
  pub count : w.rules ≡ length rs

abbrev pub class_count : List ℕ → ℕ
class_count ws = word_count (kind_of (get_or ws 0 0)) (get_or ws 1 0)

-- the words of a store with other rules
unfoldable pub kept_words : List ℕ → List ℕ → List ℕ
kept_words ws order =
    get_or ws 0 0 ∷ get_or ws 1 0 ∷ get_or ws 2 0 ∷ length (kept_rules ws order) ∷ (take (class_count ws) (drop 4 ws) ++ flat rule_words (kept_rules ws order))

-- the header and the class words lie inside the words, which are those of a store at most
pub record Header (ws : List ℕ) : Type 0 where
  pub inside : 4 + class_count ws ≤ length ws
  pub short : length ws ≤ 65535

pub record SortedStore (p : Program) (ws order : List ℕ) : Type 0 where
  pub header : Header ws
  pub keyed : KeyedEntries ws order
  pub few : length order ≤ 65535
  pub words : kept_words ws order ≡ encode (canonical_program p)
