-- The lists in an index as its counts say, and the tests that it is read by.
use Rattle.std.specs.Prelude.{ℕ, suc, ◌+◌, ◌≤◌, ◌<◌, ◌≡◌, Bool, ◌&&◌, List, ltb, eqb, length, get_or, take}
use Rattle.rules.specs.Lists.{every, from}
use Rattle.rules.specs.Rules.{Rule}
use Rattle.restriction.specs.Atoms.{atoms_of}
use Rattle.rule_index.specs.Index.{rules_with}
use Rattle.rule_index.specs.Meanings.{numbered}
use Rattle.rule_index.specs.Places.{list_at}

-- the place behind the first i rules in atom a's list
unfoldable pub entry_at : List ℕ → List (Rule ℕ) → ℕ → ℕ → ℕ
entry_at ws rs i a = suc (list_at ws a) + length (rules_with a (take i rs))

-- a list that ends at `end` has rule i at `at`
unfoldable pub is_entry : List ℕ → ℕ → ℕ → ℕ → Bool
is_entry ws at end i = ltb at end && eqb (get_or ws at 0) i

-- the next entry in the list of each of the atoms is rule i
unfoldable pub are_entries : List ℕ → List ℕ → List ℕ → ℕ → List ℕ → Bool
are_entries ws next ends i atoms = every (λ a. is_entry ws (get_or next a 0) (get_or ends a 0) i) atoms

-- rule i is in the list of each of its atoms, behind the rules before it
unfoldable pub is_listed : List ℕ → List (Rule ℕ) → ℕ → Bool
is_listed ws rs i = every (λ a. is_entry ws (entry_at ws rs i a) (list_at ws (suc a)) i) (atoms_of (numbered rs i))

abbrev pub are_all_listed : List ℕ → List (Rule ℕ) → Bool
are_all_listed ws rs = every (is_listed ws rs) (from 0 (length rs))

unfoldable pub is_all_read : List ℕ → List ℕ → Bool
is_all_read next ends = every (λ a. eqb (get_or next a 0) (get_or ends a 0)) (from 0 (length next))

-- atom a has its places in the tables, and its list ends in the words
pub record Tabled (ws next ends marks : List ℕ) (a : ℕ) : Type 0 where
  pub has_next : a < length next
  pub has_end : a < length ends
  pub has_mark : a < length marks
  pub inside : get_or ends a 0 ≤ length ws

-- where the entries of each list begin and end, the last list ending the words
pub record Lists (ws next ends : List ℕ) : Type 0 where
  pub begin : (a : ℕ) → a < length next → get_or next a 0 ≡ suc (list_at ws a)
  pub end : (a : ℕ) → a < length next → get_or ends a 0 ≡ list_at ws (suc a)
  pub whole : list_at ws (length next) ≡ length ws

-- the first i rules are read in every list
pub record Read (ws : List ℕ) (rs : List (Rule ℕ)) (i : ℕ) (next : List ℕ) : Type 0 where
  pub place : (a : ℕ) → a < length next → get_or next a 0 ≡ entry_at ws rs i a
