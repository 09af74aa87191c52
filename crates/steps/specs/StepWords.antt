-- The words that each step adds to the translated rule store.
use Rattle.std.specs.Prelude.{ℕ, ◌+◌, ◌-◌, List, [], ◌∷◌, ◌++◌, length, get_or}
use Rattle.rules.specs.Lists.{flat, from}
use Rattle.rules.specs.Rules.{Rule}
use Rattle.stores.specs.RuleStore.{rule_words}
use Rattle.steps.specs.declared.offsets.Offsets.{Offsets}
use Rattle.atom_lists.specs.ListWords.{each, single}
use Rattle.atom_lists.specs.Split.{count_below, lows, highs}
use Rattle.atom_lists.specs.declared.split.Split.{Split}
use Rattle.pairing.specs.Loops.{loop1, loop2, loop3, loop4, loop5, loop6, loop789, loop10}

-- step 1, atom a; the minimised atoms are those below m
unfoldable pub words1 : ℕ → ℕ → ℕ → List ℕ
words1 m n a = flat rule_words (loop1 m n a)

-- step 2, rule r
unfoldable pub words2 : ℕ → ℕ → Rule ℕ → List ℕ
words2 m n r = rule_words (loop2 m n r)

-- step 3, rule r; the unfixed atoms are those below q
unfoldable pub words3 : ℕ → ℕ → ℕ → Rule ℕ → List ℕ
words3 q s u r = rule_words (loop3 q s u r)

-- the same for a rule with these atoms in its head and body

abbrev pub split_from : ℕ → ℕ → ℕ → Split
split_from end low high = record { end = end; low = low; high = high }

unfoldable pub lists2 : ℕ → ℕ → List ℕ → List ℕ → List ℕ
lists2 m n heads bodies =
    count_below m heads ∷ count_below m bodies ∷ (length heads - count_below m heads + (length bodies - count_below m bodies))
    ∷ (lows (split_from m 0 0) heads ++ (lows (split_from m 0 n) bodies ++ (highs (split_from m 0 0) heads ++ highs (split_from m 0 n) bodies)))

unfoldable pub lists3 : ℕ → ℕ → ℕ → List ℕ → List ℕ → List ℕ
lists3 q s u heads bodies =
    (count_below q heads + 1) ∷ length bodies ∷ (length heads - count_below q heads)
    ∷ (lows (split_from q s 0) heads ++ (u ∷ (lows (split_from q s 0) bodies ++ (highs (split_from q s 0) bodies ++ highs (split_from q s 0) heads))))

unfoldable pub words4 : ℕ → ℕ → List ℕ
words4 e u = rule_words (loop4 e u)

-- step 5, class i
unfoldable pub words5 : List ℕ → Offsets → ℕ → List ℕ
words5 ws o i = rule_words (loop5 ws o.d o.e o.u i)

-- the same for class i whose atoms are those from `first` up to `end`
unfoldable pub run_words5 : Offsets → ℕ → ℕ → ℕ → List ℕ
run_words5 o i first end =
    (end - first + 2) ∷ 1 ∷ 0
    ∷ (each single (from (o.d + first) (o.d + end - (o.d + first))) ++ ((o.e + i) ∷ o.u ∷ (o.e + (i - 1)) ∷ []))

-- step 6, atom a of class i
unfoldable pub class_words6 : Offsets → ℕ → ℕ → List ℕ
class_words6 o i a = flat rule_words (loop6 o.n o.s o.d o.e o.u i a)

-- step 6, atom a
unfoldable pub words6 : List ℕ → Offsets → ℕ → List ℕ
words6 ws o a = class_words6 o (get_or ws a 0) a

-- steps 7, 8 and 9, the atom with number b
unfoldable pub words789 : ℕ → ℕ → List ℕ
words789 u b = rule_words (loop789 u b)

unfoldable pub words10 : ℕ → ℕ → ℕ → List ℕ
words10 e u k = flat rule_words (loop10 e u k)

-- steps 1 to 3, which go by the atoms and rules of the file
abbrev pub file_words : List (Rule ℕ) → ℕ → ℕ → Offsets → List ℕ
file_words rs m q o = each (words1 m o.n) (from 0 (o.n - 0)) ++ (each (words2 m o.n) rs ++ each (words3 q o.s o.u) rs)

-- steps 4 to 6, which go by its classes and minimised atoms
abbrev pub class_words : List ℕ → ℕ → ℕ → Offsets → List ℕ
class_words ws k m o = words4 o.e o.u ++ (each (words5 ws o) (from 1 (k + 1 - 1)) ++ each (words6 ws o) (from 0 (m - 0)))

-- steps 7 to 10
abbrev pub last_words : ℕ → Offsets → List ℕ
last_words k o =
    each (words789 o.u) (from o.s (o.d - o.s))
    ++ (each (words789 o.u) (from o.d (o.e - o.d))
    ++ (each (words789 o.u) (from o.e (o.u - o.e))
    ++ words10 o.e o.u k))

unfoldable pub step_words : List ℕ → List (Rule ℕ) → ℕ → ℕ → ℕ → Offsets → List ℕ
step_words ws rs k m q o = file_words rs m q o ++ (class_words ws k m o ++ last_words k o)
