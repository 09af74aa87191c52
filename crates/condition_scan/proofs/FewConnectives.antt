-- There are no more connectives than bytes.
use Prim.Native.Nat.{ℕ, zero, suc, ◌≤◌, zero-le}
use native.Mathlib.Omega.{arith}
use mathlib.Core.Bool.{Bool, true, false, cond}
use mathlib.Core.List.{List, [], ◌∷◌}
use lib.Dec.{eqb}
use lib.ListN.{length, take}
use Rattle.kinds.specs.Words.{space, open_bracket, close_bracket}
use Rattle.lines.specs.Tokens.{opening, closing, word, is_ending, run, tokens_from, tokens}
use Rattle.lines.specs.Conditions.{WordSort, negation, conjunction, disjunction, called, sort_of, by_sort, connectives_in}

few_by : (z : WordSort) (n m : ℕ) → n ≤ m → by_sort z (suc n) (suc n) (suc n) n ≤ suc m
few_by negation n m h = omega arith
few_by conjunction n m h = omega arith
few_by disjunction n m h = omega arith
few_by called n m h = omega arith

few_from : (k : ℕ) (s : List ℕ) → connectives_in (tokens_from k s) ≤ length s
unfolding tokens_from connectives_in
few_from k [] = zero-le
few_from zero (b ∷ s) = go (is_ending b) (eqb b space) (eqb b open_bracket) (eqb b close_bracket) (few_from 0 s) (few_from (run s) s)
  where
    go : (a c d e : Bool) → connectives_in (tokens_from 0 s) ≤ length s → connectives_in (tokens_from (run s) s) ≤ length s
        → connectives_in (cond a [] (cond c (tokens_from 0 s) (cond d (opening ∷ tokens_from 0 s) (cond e (closing ∷ tokens_from 0 s) (word (b ∷ take (run s) s) ∷ tokens_from (run s) s))))) ≤ suc (length s)
    go true c d e h k = zero-le
    go false true d e h k = omega arith
    go false false true e h k = omega arith
    go false false false true h k = omega arith
    go false false false false h k = few_by (sort_of (b ∷ take (run s) s)) (connectives_in (tokens_from (run s) s)) (length s) k
few_from (suc k) (b ∷ s) = let h = few_from k s in omega arith

pub connectives_few : (s : List ℕ) → connectives_in (tokens s) ≤ length s
unfolding tokens
connectives_few s = few_from 0 s
