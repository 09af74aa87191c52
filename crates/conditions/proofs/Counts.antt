-- Numbers from 1 in file order, no T twice; and how much a condition adds.
use Prim.Native.Nat.{ℕ, suc, ◌+◌, ◌*◌, ◌≤◌}
use native.Mathlib.Omega.{arith}
use mathlib.Core.Path.{◌≡◌, refl, sym, ap, ap₂, subst, ◌∙◌}
use mathlib.Core.List.{List, [], ◌∷◌, ◌++◌}
use lib.ListN.{length, length-append}
use Rattle.rules.specs.Lists.{Distinct, from}
use Rattle.rules.proofs.Lists.{distinct_from, from_append, length_from}
use Rattle.conditions.specs.Conditions.{made, Cond, name, NOT, AND, OR, Statement, states, when, connectives, made_atoms, Numbered, number_from, number_statements}
use Rattle.conditions.specs.Written.{part, and_rules, or_rules, connective_rules, then_rule, statement_rules, written}

-- the parts of `and` and `or` take following numbers, the word between them
between : (k p q : ℕ) → from k p ++ ((k + p) ∷ from (suc (k + p)) q) ≡ from k (p + suc q)
between k p q = from_append k p (suc q)

pub number_from_lem : (k : ℕ) (c : Cond) → connectives (number_from k c) ≡ from k (length (connectives c))
unfolding connectives number_from
number_from_lem k (name a) = refl
number_from_lem k (NOT t c) = ap (λ (r : List ℕ). k ∷ r) (number_from_lem (suc k) c)
number_from_lem k (AND l t r) = ap₂ (λ (p q : List ℕ). p ++ ((k + length (connectives l)) ∷ q)) (number_from_lem k l) (number_from_lem (suc (k + length (connectives l))) r)
    ∙ between k (length (connectives l)) (length (connectives r)) ∙ ap (from k) (sym (length-append (connectives l) (t ∷ connectives r)))
number_from_lem k (OR l t r) = ap₂ (λ (p q : List ℕ). p ++ ((k + length (connectives l)) ∷ q)) (number_from_lem k l) (number_from_lem (suc (k + length (connectives l))) r)
    ∙ between k (length (connectives l)) (length (connectives r)) ∙ ap (from k) (sym (length-append (connectives l) (t ∷ connectives r)))

pub number_statements_lem : (k : ℕ) (ls : List Statement) → made_atoms (number_statements k ls) ≡ from k (length (made_atoms ls))
unfolding number_statements
number_statements_lem k [] = refl
number_statements_lem k (states r ∷ ls) = number_statements_lem k ls
number_statements_lem k (when c a ∷ ls) = ap₂ (λ (p q : List ℕ). p ++ q) (number_from_lem k c) (number_statements_lem (k + length (connectives c)) ls)
    ∙ from_append k (length (connectives c)) (length (made_atoms ls)) ∙ ap (from k) (sym (length-append (connectives c) (made_atoms ls)))

-- the lines numbered along from 1 are numbered
pub numbered : (ls : List Statement) → Numbered (number_statements 1 ls)
numbered ls =
    let e = number_statements_lem 1 ls in
    let n : length (made_atoms ls) ≡ length (made_atoms (number_statements 1 ls)) = sym (ap length e ∙ length_from 1 (length (made_atoms ls))) in
    e ∙ ap (from 1) n

-- numbers from 1 in file order are all different
pub numbered_distinct : (ls : List Statement) → Numbered ls → Distinct (made_atoms ls)
numbered_distinct ls e = subst Distinct (sym e) (distinct_from 1 (length (made_atoms ls)))

-- at most three rules a connective, and one rule a condition

pub rules_of_connectives : (c : Cond) → length (connective_rules c) ≤ 3 * length (connectives c)
unfolding connectives connective_rules
rules_of_connectives (name a) = omega arith
rules_of_connectives (NOT t c) = omega (arith, rules_of_connectives c)
rules_of_connectives (AND l t r) = omega (
  arith,
  rules_of_connectives l,
  rules_of_connectives r,
  length-append (connective_rules l) (and_rules (made t) (part l) (part r) ++ connective_rules r),
  length-append (connectives l) (t ∷ connectives r),
)
rules_of_connectives (OR l t r) = omega (
  arith,
  rules_of_connectives l,
  rules_of_connectives r,
  length-append (connective_rules l) (or_rules (made t) (part l) (part r) ++ connective_rules r),
  length-append (connectives l) (t ∷ connectives r),
)

pub rules_of_condition : (c : Cond) (a : ℕ) → length (statement_rules (when c a)) ≡ length (connective_rules c) + 1
rules_of_condition c a = length-append (connective_rules c) (then_rule c a ∷ [])

-- so a file's lines write one rule each and at most three a connective
pub rules_of_statements : (ls : List Statement) → length (written ls) ≤ length ls + 3 * length (made_atoms ls)
rules_of_statements [] = omega arith
rules_of_statements (states r ∷ ls) = omega (arith, rules_of_statements ls)
rules_of_statements (when c a ∷ ls) = omega (arith, rules_of_statements ls, rules_of_connectives c, rules_of_condition c a, length-append (statement_rules (when c a)) (written ls), length-append (connectives c) (made_atoms ls))
