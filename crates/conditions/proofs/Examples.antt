-- The rules of small conditions, computed, and the preferred sets of small written programs.
use Prim.Native.Nat.{ℕ, ◌^◌}
use mathlib.Core.Path.{◌≡◌, refl}
use mathlib.Core.List.{List, [], ◌∷◌}
use lib.ListN.{length}
use Rattle.kinds.specs.Words.{bytes, digits}
use Rattle.kinds.specs.declared.limits.Kind.TheVariants.{Preference}
use Rattle.rules.specs.Lists.{filter, flat, from}
use Rattle.rules.specs.Rules.{rule}
use Rattle.rules.specs.Preferred.{is_preferred}
use Rattle.restriction.specs.Atoms.{used}
use Rattle.restriction.specs.Remaining.{restrict, remaining}
use Rattle.conditions.specs.Conditions.{Atom, planner, made, name, NOT, AND, OR, Statement, states, when, connectives, names_of, number_from, number_statements}
use Rattle.conditions.specs.Written.{once, connective_rules, written}
use Rattle.conditions.specs.Numbers.{unfixed, placed_words, placed_rules, written_words, written_rules, in_file, condition_rules, file_rules}
use Rattle.conditions.specs.Programs.{written_program}
use Rattle.conditions.specs.Left.{spoken, rename_cond, left_statements, written_names}
use Rattle.names.specs.Names.{made_name}
use Rattle.conditions.specs.DirectReading.{cut_to_planner}

abbrev a : Atom
a = planner 0

abbrev b : Atom
b = planner 1

abbrev c : Atom
c = planner 2

-- (when (a and a) (then b)): an atom once in a list, all three rules written, the last rule b if COND
a_and_a : written (when (AND (name 0) 1 (name 0)) 1 ∷ []) ≡
    rule (made 1 ∷ []) (a ∷ []) []
    ∷ rule (a ∷ []) (made 1 ∷ []) []
    ∷ rule (a ∷ []) (made 1 ∷ []) []
    ∷ rule (b ∷ []) (made 1 ∷ []) []
    ∷ []
unfolding once connective_rules
a_and_a = refl

-- (when (a or a) (then b))
a_or_a : written (when (OR (name 0) 1 (name 0)) 1 ∷ []) ≡
    rule (a ∷ []) (made 1 ∷ []) []
    ∷ rule (made 1 ∷ []) (a ∷ []) []
    ∷ rule (made 1 ∷ []) (a ∷ []) []
    ∷ rule (b ∷ []) (made 1 ∷ []) []
    ∷ []
unfolding once connective_rules
a_or_a = refl

-- (when (not not a) (then b)): the left `not` is T.1, its part T.2
not_not_a : written (when (NOT 1 (NOT 2 (name 0))) 1 ∷ []) ≡
    rule (made 1 ∷ made 2 ∷ []) [] []
    ∷ rule [] (made 1 ∷ made 2 ∷ []) []
    ∷ rule (made 2 ∷ a ∷ []) [] []
    ∷ rule [] (made 2 ∷ a ∷ []) []
    ∷ rule (b ∷ []) (made 1 ∷ []) []
    ∷ []
unfolding connective_rules
not_not_a = refl

-- (when (a) (then b)) writes one rule
only_a_name : written (when (name 0) 1 ∷ []) ≡ rule (b ∷ []) (a ∷ []) [] ∷ []
unfolding connective_rules
only_a_name = refl

-- (when (a and b or c) (then a)): numbers by place, so the inner `and` is T.1; the outer rules stand second, with the left part first
and_or : written (number_statements 1 (when (OR (AND (name 0) 0 (name 1)) 0 (name 2)) 0 ∷ [])) ≡
    rule (made 1 ∷ []) (a ∷ b ∷ []) []
    ∷ rule (a ∷ []) (made 1 ∷ []) []
    ∷ rule (b ∷ []) (made 1 ∷ []) []
    ∷ rule (made 1 ∷ c ∷ []) (made 2 ∷ []) []
    ∷ rule (made 2 ∷ []) (made 1 ∷ []) []
    ∷ rule (made 2 ∷ []) (c ∷ []) []
    ∷ rule (a ∷ []) (made 2 ∷ []) []
    ∷ []
unfolding once connectives connective_rules number_from number_statements
and_or = refl

-- (when not (a and b) or c (then d)): `not` binds first, then stands the word `and`
not_and_or : written (number_statements 1 (when (OR (NOT 0 (AND (name 0) 0 (name 1))) 0 (name 2)) 3 ∷ [])) ≡
    rule (made 1 ∷ made 2 ∷ []) [] []
    ∷ rule [] (made 1 ∷ made 2 ∷ []) []
    ∷ rule (made 2 ∷ []) (a ∷ b ∷ []) []
    ∷ rule (a ∷ []) (made 2 ∷ []) []
    ∷ rule (b ∷ []) (made 2 ∷ []) []
    ∷ rule (made 1 ∷ c ∷ []) (made 3 ∷ []) []
    ∷ rule (made 3 ∷ []) (made 1 ∷ []) []
    ∷ rule (made 3 ∷ []) (c ∷ []) []
    ∷ rule (planner 3 ∷ []) (made 3 ∷ []) []
    ∷ []
unfolding once connectives connective_rules number_from number_statements
not_and_or = refl

-- (when (a or b and not a) (then b)), then (when (not a) (then b)): through the whole file
numbers_go_on : number_statements 1 (when (OR (name 0) 0 (AND (name 1) 0 (NOT 0 (name 0)))) 1 ∷ when (NOT 0 (name 0)) 1 ∷ []) ≡
    when (OR (name 0) 1 (AND (name 1) 2 (NOT 3 (name 0)))) 1 ∷ when (NOT 4 (name 0)) 1 ∷ []
unfolding connectives number_from number_statements
numbers_go_on = refl

-- the preferred sets of a written program
abbrev preferred_sets : List ℕ → List Statement → List ℕ
preferred_sets ws ls = filter (is_preferred (written_words ws ls) (written_rules ws ls)) (from 0 (2 ^ length (written_words ws ls)))

-- minimised b, varying a; a or b; (when (a and a) (then b)): directly only {b} and {a, b} are models, and both are preferred; T.1 is a
a_and_a_states : preferred_sets (1 ∷ 17 ∷ []) (states (rule (1 ∷ 0 ∷ []) [] []) ∷ when (AND (name 1) 1 (name 1)) 0 ∷ []) ≡ 1 ∷ 7 ∷ []
unfolding once connectives connective_rules unfixed placed_words placed_rules
a_and_a_states = refl

-- minimised b, varying a; (when (not not a) (then b)): b is spared, so a is out; T.1 is a, T.2 is not a
not_not_a_states : preferred_sets (1 ∷ 17 ∷ []) (when (NOT 1 (NOT 2 (name 1))) 0 ∷ []) ≡ 8 ∷ []
unfolding once connectives connective_rules unfixed placed_words placed_rules
not_not_a_states = refl

-- the same with a fixed: the T atoms stand before it, and a reading of each kind has its state
fixed_a_states : preferred_sets (1 ∷ 18 ∷ []) (when (NOT 1 (NOT 2 (name 1))) 0 ∷ []) ≡ 4 ∷ 11 ∷ []
unfolding once connectives connective_rules unfixed placed_words placed_rules
fixed_a_states = refl

-- a third atom minimised, a and b varying; (when (not a) (then b)): T.1 is varying (minimised, it would have {b, T.1} beaten by {a})
not_a_states : preferred_sets (1 ∷ 17 ∷ 17 ∷ []) (when (NOT 1 (name 1)) 2 ∷ []) ≡ 2 ∷ 6 ∷ 12 ∷ []
unfolding once connectives connective_rules unfixed placed_words placed_rules
not_a_states = refl

-- what is left: of four atoms, the last fixed, number 1 stands nowhere; T.1 and T.2 stand before the fixed one

abbrev file : List Statement
file = when (NOT 1 (OR (name 2) 2 (name 3))) 0 ∷ []

left_over : spoken 4 file ≡ 0 ∷ 2 ∷ 3 ∷ []
unfolding names_of spoken
left_over = refl

left_file : left_statements (spoken 4 file) file ≡ when (NOT 1 (OR (name 1) 2 (name 2))) 0 ∷ []
unfolding names_of rename_cond spoken
left_file = refl

left_program : remaining (written_program 1 (1 ∷ 1 ∷ 17 ∷ 18 ∷ []) file) ≡ record {
  kind = Preference;
  atoms = 5;
  classes = 1;
  words = 1 ∷ 17 ∷ 17 ∷ 17 ∷ 18 ∷ [];
  rules = rule (2 ∷ 3 ∷ []) [] []
      ∷ rule [] (2 ∷ 3 ∷ []) []
      ∷ rule (1 ∷ 4 ∷ []) (3 ∷ []) []
      ∷ rule (3 ∷ []) (1 ∷ []) []
      ∷ rule (3 ∷ []) (4 ∷ []) []
      ∷ rule (0 ∷ []) (2 ∷ []) []
      ∷ [];
}
unfolding once connectives connective_rules unfixed placed_words placed_rules written_program remaining restrict used
left_program = refl

names : written_names 2 2 (bytes "b" ∷ bytes "a" ∷ bytes "c" ∷ []) ≡ bytes "b" ∷ bytes "a" ∷ bytes "T.1" ∷ bytes "T.2" ∷ bytes "c" ∷ []
unfolding digits made_name written_names
names = refl

-- a set of the five atoms, cut to the planner's three
cut : cut_to_planner (1 ∷ 17 ∷ 18 ∷ []) (left_statements (spoken 4 file) file) 26 ≡ 6
unfolding names_of connectives rename_cond spoken unfixed
cut = refl

-- while the file is read T.1 and T.2 have the numbers 4 and 5
in_file_lem : flat (file_rules 4) (when (NOT 1 (OR (name 2) 2 (name 3))) 0 ∷ []) ≡
    rule (4 ∷ 5 ∷ []) [] []
    ∷ rule [] (4 ∷ 5 ∷ []) []
    ∷ rule (2 ∷ 3 ∷ []) (5 ∷ []) []
    ∷ rule (5 ∷ []) (2 ∷ []) []
    ∷ rule (5 ∷ []) (3 ∷ []) []
    ∷ rule (0 ∷ []) (4 ∷ []) []
    ∷ []
unfolding once connective_rules in_file condition_rules
in_file_lem = refl
