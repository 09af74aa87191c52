-- What the three entry points answer and leave in the lent outputs: refusals 10, 19, 11, 12, 9 in this order (document 02, W-209).
use Rattle.std.specs.Prelude.{ℕ, ◌^◌, Bool, ◌&&◌, cond, Result, Ok, Err, List, [], leb, ltb, length}
use Rattle.kinds.specs.Limits.{walk_atoms}
use Rattle.kinds.specs.declared.refusals.Refusal.{Refusal}
use Rattle.kinds.specs.declared.refusals.Refusal.TheVariants.{Output, RuleStore as NoStore, TooManyAtoms, SetNumber, RuleIndex}
use Rattle.rules.specs.Lists.{over}
use Rattle.stores.specs.RuleStore.{is_store, decode}
use Rattle.name_store.specs.NameStore.{same_bytes as same_words}
use Rattle.rule_index.specs.Index.{index_of}
use Rattle.rule_index.specs.Flip.{after_flip, is_rising}
use Rattle.rule_index.specs.Growth.{grown_store}
use Rattle.rule_index.specs.declared.GrownSizes.{GrownSizes}

-- words into an output that has room for so many
abbrev pub fitted : List ℕ → ℕ → Result ℕ Refusal
fitted ws room = cond (leb (length ws) room) (Ok (length ws)) (Err Output)

-- the words that an answer stands for
abbrev pub filled_words : Result ℕ Refusal → List ℕ → List ℕ
filled_words (Ok k) ws = ws
filled_words (Err f) ws = []

-- the index of a store
unfoldable pub store_index : List ℕ → List ℕ
store_index rules = index_of (decode rules)

unfoldable pub index_answer : List ℕ → ℕ → Result ℕ Refusal
index_answer rules room = cond (is_store rules) (fitted (store_index rules) room) (Err NoStore)

unfoldable pub index_output : List ℕ → List ℕ → List ℕ
index_output rules before = over (filled_words (index_answer rules (length before)) (store_index rules)) before

-- the index of the store, and rising rule numbers below r
abbrev pub is_indexed : List ℕ → List ℕ → Bool
is_indexed rules index = same_words index (store_index rules)

abbrev pub is_listed : List ℕ → List ℕ → Bool
is_listed rules list = is_rising 0 (length (decode rules).rules) list

unfoldable pub flip_list : List ℕ → List ℕ → ℕ → ℕ → List ℕ
flip_list rules list set atom = after_flip (decode rules).rules list set atom

unfoldable pub flip_answer : List ℕ → List ℕ → List ℕ → ℕ → ℕ → ℕ → Result ℕ Refusal
flip_answer rules index list set atom room =
    cond (is_store rules)
    (cond (is_indexed rules index && is_listed rules list)
    (cond (leb (decode rules).atoms walk_atoms)
    (cond (ltb set (2 ^ (decode rules).atoms) && ltb atom (decode rules).atoms) (fitted (flip_list rules list set atom) room) (Err SetNumber))
    (Err TooManyAtoms))
    (Err RuleIndex))
    (Err NoStore)

unfoldable pub flip_output : List ℕ → List ℕ → List ℕ → ℕ → ℕ → List ℕ → List ℕ
flip_output rules index list set atom before = over (filled_words (flip_answer rules index list set atom (length before)) (flip_list rules list set atom)) before

-- the words of a store and of its index
abbrev pub grown_sizes : ℕ → ℕ → GrownSizes
grown_sizes words index_words = record { words = words; index_words = index_words }

-- the store with the rule, and its index
unfoldable pub add_answer : List ℕ → List ℕ → List ℕ → ℕ → ℕ → Result GrownSizes Refusal
add_answer rules index rule room index_room =
    let store = grown_store rules rule in
    cond (is_store rules && is_store store)
    (cond (is_indexed rules index)
    (cond (leb (length store) room && leb (length (store_index store)) index_room) (Ok (grown_sizes (length store) (length (store_index store)))) (Err Output))
    (Err RuleIndex))
    (Err NoStore)

abbrev pub grown_words : Result GrownSizes Refusal → List ℕ → List ℕ
grown_words (Ok sizes) ws = ws
grown_words (Err f) ws = []

unfoldable pub add_store : List ℕ → List ℕ → List ℕ → List ℕ → List ℕ → List ℕ
add_store rules index rule before index_before = over (grown_words (add_answer rules index rule (length before) (length index_before)) (grown_store rules rule)) before

unfoldable pub add_index : List ℕ → List ℕ → List ℕ → List ℕ → List ℕ → List ℕ
add_index rules index rule before index_before =
    over (grown_words (add_answer rules index rule (length before) (length index_before)) (store_index (grown_store rules rule))) index_before
