-- Where good readers go wrong (document 01), on the smallest programs that show it.
use Prim.Native.Nat.{ℕ}
use mathlib.Core.Path.{◌≡◌, refl}
use mathlib.Core.List.{List, [], ◌∷◌, map}
use mathlib.Core.Bool.{true, false}
use Rattle.rules.specs.Sets.{has}
use Rattle.rules.specs.Rules.{Rule, rule, reduct}
use Rattle.rules.specs.Stable.{is_stable}
use Rattle.rules.specs.Preferred.{is_beating, is_preferred}

-- one fault does not beat two others of its class
not_by_count : is_beating (1 ∷ 1 ∷ 1 ∷ []) [] 1 6 ≡ false
not_by_count = refl

a_part_beats : is_beating (1 ∷ 1 ∷ 1 ∷ []) [] 2 6 ≡ true
a_part_beats = refl

-- class 2 is not compared where class 1 differs
not_past_a_difference : is_beating (1 ∷ 2 ∷ []) [] 1 2 ≡ false
not_past_a_difference = refl

grave_first : is_beating (1 ∷ 2 ∷ []) [] 2 1 ≡ true
grave_first = refl

-- a fixed atom keeps its value; a varying one may take either
fixed_stays : is_beating (1 ∷ 18 ∷ []) [] 2 1 ≡ false
fixed_stays = refl

varying_is_free : is_beating (1 ∷ 17 ∷ []) [] 2 1 ≡ true
varying_is_free = refl

both_states : is_preferred (1 ∷ 17 ∷ []) [] 0 ≡ true
both_states = refl

-- a if not b, b if not a: the reduct at {a} drops the second rule
dropped : reduct (rule (0 ∷ []) [] (1 ∷ []) ∷ rule (1 ∷ []) [] (0 ∷ []) ∷ []) (has 1) ≡ rule (0 ∷ []) [] [] ∷ []
dropped = refl

-- a if not a has no stable set
none_stable : is_stable (rule (0 ∷ []) [] (0 ∷ []) ∷ []) 1 ≡ false
none_stable = refl

-- document 001, Examples 1 and 2: three inverters, atoms ab1 ab2 ab3 a b c d
inverters : List (Rule ℕ)
inverters =
    rule (3 ∷ 4 ∷ 0 ∷ []) [] []
    ∷ rule (0 ∷ []) (3 ∷ 4 ∷ []) []
    ∷ rule (4 ∷ 5 ∷ 1 ∷ []) [] []
    ∷ rule (1 ∷ []) (4 ∷ 5 ∷ []) []
    ∷ rule (5 ∷ 6 ∷ 2 ∷ []) [] []
    ∷ rule (2 ∷ []) (5 ∷ 6 ∷ []) []
    ∷ rule [] (3 ∷ []) []
    ∷ rule [] (6 ∷ []) []
    ∷ []

-- {ab1, c}, {ab2, b, c} and {ab3, b}, and not {ab1, ab2, ab3}, though that is a minimal model
diagnoses : map (is_preferred (1 ∷ 1 ∷ 1 ∷ 17 ∷ 17 ∷ 17 ∷ 17 ∷ []) inverters) (33 ∷ 50 ∷ 20 ∷ 7 ∷ []) ≡ true ∷ true ∷ true ∷ false ∷ []
unfolding inverters
diagnoses = refl

by_rank : map (is_preferred (1 ∷ 2 ∷ 3 ∷ 17 ∷ 17 ∷ 17 ∷ 17 ∷ []) inverters) (33 ∷ 50 ∷ 20 ∷ 7 ∷ []) ≡ false ∷ false ∷ true ∷ false ∷ []
unfolding inverters
by_rank = refl

spurious : is_stable inverters 7 ≡ true
unfolding inverters
spurious = refl
