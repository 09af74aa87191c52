-- The translations that document 01 marks ("Sheets of known states"), with the counts of document 02, W-214, by computation.
use mathlib.Core.Path.{◌≡◌, refl}
use mathlib.Core.List.{[], ◌∷◌}
use lib.ListN.{length}
use Rattle.kinds.specs.Words.{digits, bytes}
use Rattle.kinds.specs.declared.limits.Kind.TheVariants.{Preference}
use Rattle.rules.specs.Lists.{sum}
use Rattle.rules.specs.Rules.{rule, occurrences}
use Rattle.stores.specs.Program.{Program}
use Rattle.pairing.specs.Atoms.{declared}
use Rattle.pairing.specs.Steps.{step1, step2, step3, step4, step5, step6, step7, step8, step9, step10, translation}
use Rattle.pairing.specs.Translated.{translated, translated_rules, translated_names, numbers, atoms_sum, rules_sum, occurrences_sum}

-- one rule `sensor or dark`, `sensor` minimised, `dark` varying
abbrev sample : Program
sample = record { kind = Preference; atoms = 2; classes = 1; words = 1 ∷ 17 ∷ []; rules = rule (0 ∷ 1 ∷ []) [] [] ∷ [] }

-- original 0 1, N. 2 3, S. 4 5, D. 6, E. 7 8, U 9
sample_rules : (translated sample).rules ≡ (
    rule (2 ∷ []) [] (0 ∷ [])
    ∷ rule (1 ∷ []) [] (3 ∷ [])
    ∷ rule (3 ∷ []) [] (1 ∷ [])
    ∷ rule (0 ∷ []) [] (1 ∷ [])
    ∷ rule (4 ∷ 5 ∷ 9 ∷ []) [] []
    ∷ rule (7 ∷ 9 ∷ []) [] []
    ∷ rule (6 ∷ 8 ∷ 9 ∷ []) (7 ∷ []) []
    ∷ rule (9 ∷ []) (6 ∷ []) (0 ∷ [])
    ∷ rule (9 ∷ []) (6 ∷ 4 ∷ []) []
    ∷ rule (9 ∷ []) (7 ∷ 4 ∷ []) (0 ∷ [])
    ∷ rule (4 ∷ 9 ∷ []) (8 ∷ []) (2 ∷ [])
    ∷ rule (4 ∷ []) (9 ∷ []) []
    ∷ rule (5 ∷ []) (9 ∷ []) []
    ∷ rule (6 ∷ []) (9 ∷ []) []
    ∷ rule (7 ∷ []) (9 ∷ []) []
    ∷ rule (8 ∷ []) (9 ∷ []) []
    ∷ rule (9 ∷ []) (8 ∷ []) []
    ∷ rule [] [] (9 ∷ [])
    ∷ [])
unfolding translated_rules translation step1 step2 step3 step4 step5 step6 step7 step8 step9 step10
sample_rules = refl

-- `a` and `b` for the two names
sample_names : translated_names sample (bytes "a" ∷ bytes "b" ∷ []) ≡ (
    bytes "a"
    ∷ bytes "b"
    ∷ bytes "N.a"
    ∷ bytes "N.b"
    ∷ bytes "S.a"
    ∷ bytes "S.b"
    ∷ bytes "D.a"
    ∷ bytes "E.0"
    ∷ bytes "E.1"
    ∷ bytes "U"
    ∷ [])
unfolding translated_names declared digits
sample_names = refl

-- 10 atoms, 18 rules, 44 occurrences; and so say the three sums
sample_counts : ((translated sample).atoms ≡ 10) × (length (translated sample).rules ≡ 18) × (sum occurrences (translated sample).rules ≡ 44)
unfolding declared translated_rules translation step1 step2 step3 step4 step5 step6 step7 step8 step9 step10
sample_counts = (refl, refl, refl)

sample_sums : (atoms_sum (numbers sample) ≡ 10) × (rules_sum (numbers sample) ≡ 18) × (occurrences_sum (numbers sample) ≡ 44)
unfolding numbers
sample_sums = (refl, refl, refl)

-- `(vary)` and `(fix)` alone
abbrev empty : Program
empty = record { kind = Preference; atoms = 0; classes = 0; words = []; rules = [] }

-- 2 atoms, 4 rules, 7 occurrences
empty_counts_lem : ((translated empty).atoms ≡ 2) × (length (translated empty).rules ≡ 4) × (sum occurrences (translated empty).rules ≡ 7)
unfolding declared translated_rules translation step1 step2 step3 step4 step5 step6 step7 step8 step9 step10
empty_counts_lem = (refl, refl, refl)

empty_sums : (atoms_sum (numbers empty) ≡ 2) × (rules_sum (numbers empty) ≡ 4) × (occurrences_sum (numbers empty) ≡ 7)
unfolding numbers
empty_sums = (refl, refl, refl)
