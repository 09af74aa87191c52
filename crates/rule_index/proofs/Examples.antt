-- Four rules over three atoms: their index, what sets break, each flip, and a rule added.
use Prim.Native.Nat.{ℕ}
use mathlib.Core.Path.{◌≡◌, refl}
use mathlib.Core.Bool.{true, false}
use mathlib.Core.List.{List, [], ◌∷◌, map}
use Rattle.rules.specs.Rules.{Rule, rule}
use Rattle.stores.specs.RuleStore.{rule_at, is_list, are_lists, is_rule, are_rules, is_store}
use Rattle.rule_index.specs.Index.{rules_with, index}
use Rattle.rule_index.specs.Flip.{broken_rules, flipped, after_flip, is_rising}
use Rattle.rule_index.specs.Growth.{grown_store, grown_index}

-- 0 or 1; 2 if 0; 1 if not 2; not both 0 and 1
four : List (Rule ℕ)
four =
    rule (0 ∷ 1 ∷ []) [] []
    ∷ rule (2 ∷ []) (0 ∷ []) []
    ∷ rule (1 ∷ []) [] (2 ∷ [])
    ∷ rule [] (0 ∷ 1 ∷ []) []
    ∷ []

-- atom 2 stands in the head of rule 1 and in the `not` list of rule 2
indexed : index 3 four ≡ 3 ∷ 0 ∷ 1 ∷ 3 ∷ 3 ∷ 0 ∷ 2 ∷ 3 ∷ 2 ∷ 1 ∷ 2 ∷ []
unfolding four index rules_with
indexed = refl

-- of the sets {}, {0}, {1}, {0, 1} and {0, 2}
broken : map (broken_rules four) (0 ∷ 1 ∷ 2 ∷ 3 ∷ 5 ∷ []) ≡ (0 ∷ 2 ∷ []) ∷ (1 ∷ 2 ∷ []) ∷ [] ∷ (1 ∷ 3 ∷ []) ∷ [] ∷ []
unfolding four broken_rules
broken = refl

flipped_sets : map (flipped 1) (0 ∷ 1 ∷ 2 ∷ []) ≡ 0 ∷ 3 ∷ 5 ∷ []
unfolding flipped
flipped_sets = refl

-- each flip of {0}, from what {0} breaks
flips : map (after_flip four (1 ∷ 2 ∷ []) 1) (0 ∷ 1 ∷ 2 ∷ []) ≡ (0 ∷ 2 ∷ []) ∷ (1 ∷ 3 ∷ []) ∷ [] ∷ []
unfolding four after_flip flipped
flips = refl

-- any list: the rules that do not hold atom 2 stay, and those of its rules that {0} breaks join in order
joined : after_flip four (0 ∷ 3 ∷ []) 5 2 ≡ 0 ∷ 1 ∷ 2 ∷ 3 ∷ []
unfolding four after_flip flipped
joined = refl

-- its own rules stay only where the flipped set breaks them
left_out : after_flip four (0 ∷ 1 ∷ 2 ∷ 3 ∷ []) 1 1 ≡ 1 ∷ 3 ∷ []
unfolding four after_flip flipped
left_out = refl

rising : map (is_rising 0 4) ((0 ∷ 3 ∷ []) ∷ (1 ∷ 1 ∷ []) ∷ (2 ∷ 4 ∷ []) ∷ []) ≡ true ∷ false ∷ false ∷ []
unfolding is_rising
rising = refl

-- rule 4: 0 if not 1
grown_index_lem : grown_index (rule (0 ∷ []) [] (1 ∷ [])) 4 0 3 (3 ∷ 0 ∷ 1 ∷ 3 ∷ 3 ∷ 0 ∷ 2 ∷ 3 ∷ 2 ∷ 1 ∷ 2 ∷ []) ≡ 4 ∷ 0 ∷ 1 ∷ 3 ∷ 4 ∷ 4 ∷ 0 ∷ 2 ∷ 3 ∷ 4 ∷ 2 ∷ 1 ∷ 2 ∷ []
unfolding grown_index
grown_index_lem = refl

grown_store_lem : grown_store (0 ∷ 3 ∷ 0 ∷ 1 ∷ 2 ∷ 0 ∷ 0 ∷ 0 ∷ 1 ∷ []) (1 ∷ 0 ∷ 1 ∷ 0 ∷ 1 ∷ []) ≡ 0 ∷ 3 ∷ 0 ∷ 2 ∷ 2 ∷ 0 ∷ 0 ∷ 0 ∷ 1 ∷ 1 ∷ 0 ∷ 1 ∷ 0 ∷ 1 ∷ []
unfolding grown_store
grown_store_lem = refl

-- with an atom past the store's, and with a word too many, it is none
grown_stores : map (λ words. is_store (grown_store (0 ∷ 3 ∷ 0 ∷ 0 ∷ []) words)) ((1 ∷ 0 ∷ 1 ∷ 0 ∷ 1 ∷ []) ∷ (1 ∷ 0 ∷ 1 ∷ 0 ∷ 3 ∷ []) ∷ (1 ∷ 0 ∷ 1 ∷ 0 ∷ 1 ∷ 2 ∷ []) ∷ []) ≡ true ∷ false ∷ false ∷ []
unfolding grown_store is_store are_rules is_rule are_lists is_list rule_at
grown_stores = refl
