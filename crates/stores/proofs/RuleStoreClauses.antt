-- Document 01's paragraph on the rule store, clause by clause: a store that is accepted, and the same with one thing wrong.
use Prim.Native.Nat.{ℕ, ◌+◌, ◌<◌}
use mathlib.Core.Path.{◌≡◌, refl}
use mathlib.Core.Bool.{true, false}
use mathlib.Core.List.{List, [], ◌∷◌}
use native.Mathlib.Omega.{arith}
use lib.Dec.{leb→le}
use lib.ListN.{replicate}
use Rattle.kinds.specs.Limits.{rule_limit, occurrence_limit}
use Rattle.kinds.specs.declared.limits.Kind.{Kind}
use Rattle.rules.proofs.Booleans.{is_false}
use Rattle.stores.specs.Program.{role_of}
use Rattle.stores.specs.RuleStore.{places, rule_at, are_words, is_list, are_lists, is_rule, are_rules, is_program, is_store}
use Rattle.stores.proofs.RuleTests.{and_iff, rule_tested}

-- the first words are a store, the second are none
abbrev Only : List ℕ → List ℕ → Type 0
Only yes-words no_words = (is_store yes-words ≡ true) × (is_store no_words ≡ false)

-- "kind (0 plain, 1 preference)"
kind_word_lem : Only (1 ∷ 0 ∷ 0 ∷ 0 ∷ []) (2 ∷ 0 ∷ 0 ∷ 0 ∷ [])
unfolding is_store are_rules are_words
kind_word_lem = (refl, refl)

header : Only (0 ∷ 0 ∷ 0 ∷ 0 ∷ []) (0 ∷ 0 ∷ 0 ∷ [])
unfolding is_store are_rules
header = (refl, refl)

nothing : is_store [] ≡ false
unfolding is_store are_rules
nothing = refl

-- "class count k (0 in a plain one)"
plain_classes : Only (0 ∷ 1 ∷ 0 ∷ 0 ∷ []) (0 ∷ 1 ∷ 1 ∷ 0 ∷ [])
unfolding is_store are_rules
plain_classes = (refl, refl)

class_limit_lem : Only (1 ∷ 1 ∷ 16 ∷ 0 ∷ 16 ∷ []) (1 ∷ 1 ∷ 17 ∷ 0 ∷ 16 ∷ [])
unfolding is_store are_rules are_words role_of
class_limit_lem = (refl, refl)

-- "n class words"
missing_class_word : Only (1 ∷ 2 ∷ 1 ∷ 0 ∷ 1 ∷ 17 ∷ []) (1 ∷ 2 ∷ 1 ∷ 0 ∷ 1 ∷ [])
unfolding is_store are_rules are_words role_of
missing_class_word = (refl, refl)

-- "1 to 16 the class, 17 varying, 18 fixed"
zero_class_word : Only (1 ∷ 1 ∷ 1 ∷ 0 ∷ 1 ∷ []) (1 ∷ 1 ∷ 1 ∷ 0 ∷ 0 ∷ [])
unfolding is_store are_rules are_words role_of
zero_class_word = (refl, refl)

high_class_word : Only (1 ∷ 1 ∷ 1 ∷ 0 ∷ 18 ∷ []) (1 ∷ 1 ∷ 1 ∷ 0 ∷ 19 ∷ [])
unfolding is_store are_rules are_words role_of
high_class_word = (refl, refl)

-- "never falling"
falling_class_words : Only (1 ∷ 3 ∷ 2 ∷ 0 ∷ 1 ∷ 2 ∷ 17 ∷ []) (1 ∷ 3 ∷ 2 ∷ 0 ∷ 2 ∷ 1 ∷ 17 ∷ [])
unfolding is_store are_rules are_words role_of
falling_class_words = (refl, refl)

-- "none naming a class above k"
class_above_k : Only (1 ∷ 2 ∷ 2 ∷ 0 ∷ 1 ∷ 2 ∷ []) (1 ∷ 2 ∷ 1 ∷ 0 ∷ 1 ∷ 2 ∷ [])
unfolding is_store are_rules are_words role_of
class_above_k = (refl, refl)

-- "the atom numbers of head, body and not, each below n"
head_below : Only (0 ∷ 2 ∷ 0 ∷ 1 ∷ 1 ∷ 1 ∷ 1 ∷ 1 ∷ 0 ∷ 0 ∷ []) (0 ∷ 2 ∷ 0 ∷ 1 ∷ 1 ∷ 1 ∷ 1 ∷ 2 ∷ 0 ∷ 0 ∷ [])
unfolding is_store are_rules is_rule are_lists is_list rule_at
head_below = (refl, refl)

body_below : Only (0 ∷ 2 ∷ 0 ∷ 1 ∷ 1 ∷ 1 ∷ 1 ∷ 0 ∷ 1 ∷ 0 ∷ []) (0 ∷ 2 ∷ 0 ∷ 1 ∷ 1 ∷ 1 ∷ 1 ∷ 0 ∷ 2 ∷ 0 ∷ [])
unfolding is_store are_rules is_rule are_lists is_list rule_at
body_below = (refl, refl)

not_below : Only (0 ∷ 2 ∷ 0 ∷ 1 ∷ 1 ∷ 1 ∷ 1 ∷ 0 ∷ 0 ∷ 1 ∷ []) (0 ∷ 2 ∷ 0 ∷ 1 ∷ 1 ∷ 1 ∷ 1 ∷ 0 ∷ 0 ∷ 2 ∷ [])
unfolding is_store are_rules is_rule are_lists is_list rule_at
not_below = (refl, refl)

-- "no list has an atom twice"
head_twice : Only (0 ∷ 2 ∷ 0 ∷ 1 ∷ 2 ∷ 0 ∷ 0 ∷ 0 ∷ 1 ∷ []) (0 ∷ 2 ∷ 0 ∷ 1 ∷ 2 ∷ 0 ∷ 0 ∷ 1 ∷ 1 ∷ [])
unfolding is_store are_rules is_rule are_lists is_list rule_at
head_twice = (refl, refl)

body_twice : Only (0 ∷ 2 ∷ 0 ∷ 1 ∷ 0 ∷ 2 ∷ 0 ∷ 0 ∷ 1 ∷ []) (0 ∷ 2 ∷ 0 ∷ 1 ∷ 0 ∷ 2 ∷ 0 ∷ 1 ∷ 1 ∷ [])
unfolding is_store are_rules is_rule are_lists is_list rule_at
body_twice = (refl, refl)

not_twice : Only (0 ∷ 2 ∷ 0 ∷ 1 ∷ 0 ∷ 0 ∷ 2 ∷ 0 ∷ 1 ∷ []) (0 ∷ 2 ∷ 0 ∷ 1 ∷ 0 ∷ 0 ∷ 2 ∷ 1 ∷ 1 ∷ [])
unfolding is_store are_rules is_rule are_lists is_list rule_at
not_twice = (refl, refl)

-- "a preference store's `not` lists are empty"
filled_not : Only (1 ∷ 1 ∷ 1 ∷ 1 ∷ 1 ∷ 0 ∷ 1 ∷ 0 ∷ 0 ∷ []) (1 ∷ 1 ∷ 1 ∷ 1 ∷ 1 ∷ 0 ∷ 0 ∷ 1 ∷ 0 ∷ [])
unfolding is_store are_rules is_rule are_lists is_list rule_at are_words role_of
filled_not = (refl, refl)

-- "and no word follows"; nor does one lack
missing_word : Only (1 ∷ 1 ∷ 1 ∷ 1 ∷ 1 ∷ 1 ∷ 0 ∷ 0 ∷ 0 ∷ []) (1 ∷ 1 ∷ 1 ∷ 1 ∷ 1 ∷ 1 ∷ 0 ∷ 0 ∷ [])
unfolding is_store are_rules is_rule are_lists is_list rule_at are_words role_of
missing_word = (refl, refl)

following_word : Only (1 ∷ 1 ∷ 1 ∷ 1 ∷ 1 ∷ 1 ∷ 0 ∷ 0 ∷ 0 ∷ []) (1 ∷ 1 ∷ 1 ∷ 1 ∷ 1 ∷ 1 ∷ 0 ∷ 0 ∷ 0 ∷ 0 ∷ [])
unfolding is_store are_rules is_rule are_lists is_list rule_at are_words role_of
following_word = (refl, refl)

-- "It keeps the limits above"
preference_atoms : Only (1 ∷ 256 ∷ 0 ∷ 0 ∷ replicate 256 17) (1 ∷ 257 ∷ 0 ∷ 0 ∷ replicate 257 17)
unfolding is_store are_rules are_words role_of
preference_atoms = (refl, refl)

plain_atoms : Only (0 ∷ 1100 ∷ 0 ∷ 0 ∷ []) (0 ∷ 1101 ∷ 0 ∷ 0 ∷ [])
unfolding is_store are_rules
plain_atoms = (refl, refl)

preference_rules : Only (1 ∷ 0 ∷ 0 ∷ 1024 ∷ replicate 3072 0) (1 ∷ 0 ∷ 0 ∷ 1025 ∷ replicate 3075 0)
unfolding is_store are_rules is_rule are_lists is_list rule_at are_words
preference_rules = (refl, refl)

-- the limits as laws

past_rules : (kind : Kind) (n k r : ℕ) (ws : List ℕ) → rule_limit kind < r → is_program kind n k r ws ≡ false
past_rules kind n k r ws h = is_false (is_program kind n k r ws) (λ t. let s = simp and_iff at t in omega (arith, leb→le r (rule_limit kind) s.0.1.0))

past_occurrences : (kind : Kind) (n used : ℕ) (ws : List ℕ) → occurrence_limit kind < used + places ws → is_rule kind n used ws ≡ false
past_occurrences kind n used ws h = is_false (is_rule kind n used ws) (λ t. omega (arith, ((rule_tested kind n used ws).0 t).fits))
