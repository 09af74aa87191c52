-- File A of document 01: the sensor (0) or the lamp (1) is at fault, and a lamp at fault leaves it dark (2). All atoms may be in or out.
use Prim.Native.Nat.{ℕ}
use mathlib.Core.Path.{◌≡◌, refl}
use mathlib.Core.Bool.{true, not}
use mathlib.Core.List.{List, [], ◌∷◌}
use lib.ListN.{length, take}
use Rattle.rules.specs.Lists.{filter}
use Rattle.rules.specs.Rules.{Rule, rule}
use Rattle.places.specs.Places.{place}
use Rattle.choices.specs.Choices.{choice, is_closed, Course, visited, is_before}

file_a : List (Rule ℕ)
file_a = rule (0 ∷ 1 ∷ []) [] [] ∷ rule (2 ∷ []) (1 ∷ []) [] ∷ []

free : Course
free = record { closed = is_closed file_a; may = λ a v. true }

thirteen : length (visited free 3 0 0) ≡ 13
unfolding visited is_closed file_a free
thirteen = refl

neither_closed : is_closed file_a 2 0 ≡ true
unfolding is_closed file_a
neither_closed = refl

-- neither sensor nor lamp is the third choice, and the lamp without the sensor the next
neither_third : take 4 (visited free 3 0 0) ≡ choice 0 0 ∷ choice 1 0 ∷ choice 2 0 ∷ choice 2 2 ∷ []
unfolding visited is_closed file_a free
neither_third = refl

-- from place 3 on neither of the two, and the lamp without dark, are passed over: their last places are 1 and 2
from_three : take 4 (filter (λ k. not (is_before 3 3 k)) (visited free 3 0 0)) ≡ choice 0 0 ∷ choice 1 0 ∷ choice 2 2 ∷ choice 3 6 ∷ []
unfolding visited is_closed file_a free place
from_three = refl
