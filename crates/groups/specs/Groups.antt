-- The masks of the rules in groups (document 02, W-207): a rule can close a choice only where its last atom has just been decided, and with the one value that breaks it.
-- Masks have atom i of n at bit n-1-i, so a rule's last atom is the lowest bit that it cares for.
use Rattle.std.specs.Prelude.{ℕ, ◌+◌, ◌-◌, ◌*◌, ◌%◌, ◌≤◌, ◌≡◌, Bool, cond, ◌&&◌, List, eqb, length, get_or}
use Rattle.std.specs.Int.Bits.{bit_and}
use Rattle.std.specs.Int.Count.{count_trailing_zeros}
use Rattle.kinds.specs.Limits.{walk_atoms, rule_limit}
use Rattle.kinds.specs.declared.limits.Kind.TheVariants.{Plain}
use Rattle.rules.specs.Lists.{some, from}
use Rattle.rules.specs.Sets.{has}

-- the group of the rules whose last atom is at this bit and is wanted in, or out
abbrev pub group_at : ℕ → Bool → ℕ
group_at bit wanted = 2 * bit + cond wanted 1 0

-- the group of the rules without atoms
abbrev pub root_group : ℕ
root_group = 2 * walk_atoms

unfoldable pub group_of : ℕ → ℕ → ℕ
group_of care want = cond (eqb care 0) root_group (group_at (count_trailing_zeros 64 care) (has want (count_trailing_zeros 64 care)))

-- rule i is broken at s: of the atoms that it cares for, s has just those that it wants
abbrev pub broken_at : List ℕ → List ℕ → ℕ → ℕ → Bool
broken_at care want s i = eqb (bit_and s (get_or care i 0)) (get_or want i 0)

-- some rule from number a on and below b is broken at s
unfoldable pub broken_from : List ℕ → List ℕ → ℕ → ℕ → ℕ → Bool
broken_from care want s a b = some (broken_at care want s) (from a (b - a))

-- some rule of the group is broken at s; the starts say where each group begins, and the next one's where it ends
unfoldable pub broken_in : List ℕ → List ℕ → List ℕ → ℕ → ℕ → Bool
broken_in care want starts group s = broken_from care want s (get_or starts group 0) (get_or starts (group + 1) 0)

-- places for the rules: a group of an odd number of rules has one more, so that they can be tested two at a time
abbrev pub place_limit : ℕ
place_limit = rule_limit Plain + (root_group + 2)

-- no group ends past the places
abbrev pub Bounded : List ℕ → Type 0
Bounded starts = (group : ℕ) → get_or starts group 0 ≤ place_limit

-- every group begins, and so ends, at an even place
abbrev pub Paired : List ℕ → Type 0
Paired starts = (group : ℕ) → get_or starts group 0 % 2 ≡ 0

-- the masks in groups say of each group what the rules' masks, cs and ws in any sequence, say of its rules
pub record GroupsOf (cs ws care want starts : List ℕ) : Type 0 where
  pub bounded : Bounded starts
  pub paired : Paired starts
  pub tests : (group s : ℕ) → group ≤ root_group → broken_in care want starts group s ≡ some (λ i. eqb (group_of (get_or cs i 0) (get_or ws i 0)) group && broken_at cs ws s i) (from 0 (length cs))
