-- The verdicts over masks: the outcome of the descent from the empty choice, as an answer over places.
use Rattle.std.specs.Prelude.{ℕ, ◌-◌, ◌^◌, cond, ◌&&◌, List, ◌∷◌, leb, replicate}
use Rattle.std.specs.Int.Bits.{bit_and, bit_xor}
use Rattle.kinds.specs.Limits.{class_limit}
use Rattle.walks.specs.declared.answers.Verdict.{Verdict}
use Rattle.walks.specs.declared.answers.Verdict.TheVariants.{Yes, Beaten, Spent}
use Rattle.descent.specs.Descent.{Outcome, Found, Nothing, descend, found_mark}
use Rattle.descent.specs.Search.{better_set}

-- all of n atoms
abbrev pub all_of : ℕ → ℕ
all_of n = 2 ^ n - 1

-- fixed atoms have only the value that they have in `of`: the atoms that may be out, and those that may be in
unfoldable pub outs_of : ℕ → ℕ → ℕ → ℕ
outs_of n fixed of = bit_xor (all_of n) (bit_and fixed of)

unfoldable pub ins_of : ℕ → ℕ → ℕ → ℕ
ins_of n fixed of = bit_xor (all_of n) (bit_xor fixed (bit_and fixed of))

abbrev pub verdict_of : Outcome → Verdict
verdict_of (Found s u) = Beaten s u
verdict_of (Nothing u) = Yes u

-- what a number past the budget tells (`Told`), with the set found
unfoldable pub past_budget : ℕ → ℕ → ℕ → Verdict
past_budget budget number set = cond (leb found_mark number && leb (number - found_mark) budget) (Beaten set (number - found_mark)) (Spent budget)

-- the units needed, whatever the budget; the set is a model
unfoldable pub preferred_m : List ℕ → List ℕ → List ℕ → List ℕ → ℕ → ℕ → ℕ → Verdict
preferred_m care want starts classes fixed n of = verdict_of (descend (better_set care want starts classes (outs_of n fixed of) (ins_of n fixed of) of) n 0 1)

-- the final choice `of` itself, which is visited last, is not counted
abbrev pub stable_of : Outcome → Verdict
stable_of (Found s u) = Beaten s u
stable_of (Nothing u) = Yes (u - 1)

-- all atoms are one class: every proper subset is better
abbrev pub one_class : ℕ → List ℕ
one_class n = all_of n ∷ replicate (class_limit - 1) 0

unfoldable pub stable_m : List ℕ → List ℕ → List ℕ → ℕ → ℕ → Verdict
stable_m care want starts n of = stable_of (descend (better_set care want starts (one_class n) (all_of n) of of) n 0 1)
