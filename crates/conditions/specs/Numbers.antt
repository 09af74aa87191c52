-- The written program over numbers, as a store holds it: T atoms stand after the file's varying atoms and before the fixed ones (document 02, W-208).
use Rattle.std.specs.Prelude.{ℕ, ◌+◌, ◌-◌, ◌≤◌, ◌<◌, List, [], ◌∷◌, ◌++◌, map, not, cond, eqb, ltb, length, take, drop, replicate}
use Rattle.kinds.specs.Limits.{varying, fixed}
use Rattle.rules.specs.Lists.{All, filter, flat, from}
use Rattle.rules.specs.Rules.{Rule, rename}
use Rattle.conditions.specs.Conditions.{Atom, planner, made, Cond, Statement, states, when, made_atoms, statement_names, Numbered}
use Rattle.conditions.specs.Written.{connective_rules, then_rule, written}

-- the planner's atoms that are not fixed; no class word falls, so they are the first ones
unfoldable pub unfixed : List ℕ → ℕ
unfixed ws = length (filter (λ w. not (eqb w fixed)) ws)

-- an atom's number in the written program, q planner's atoms standing before the k T atoms
abbrev pub place : ℕ → ℕ → Atom → ℕ
place q k (planner a) = cond (ltb a q) a (a + k)
place q k (made t) = q + (t - 1)

-- a list with others behind its first q entries
abbrev pub inserted : {A : Type 0} → ℕ → List A → List A → List A
inserted q others l = take q l ++ (others ++ drop q l)

-- the class words: the k T atoms are varying
unfoldable pub placed_words : ℕ → ℕ → List ℕ → List ℕ
placed_words q k ws = inserted q (replicate k varying) ws

-- the written rules, with the atoms' numbers
unfoldable pub placed_rules : ℕ → ℕ → List Statement → List (Rule ℕ)
placed_rules q k ls = map (rename (place q k)) (written ls)

-- the class words that are written for a file with class words ws and statements ls
abbrev pub written_words : List ℕ → List Statement → List ℕ
written_words ws ls = placed_words (unfixed ws) (length (made_atoms ls)) ws

-- and its rules
abbrev pub written_rules : List ℕ → List Statement → List (Rule ℕ)
written_rules ws ls = placed_rules (unfixed ws) (length (made_atoms ls)) ls

-- the places of n planner's atoms
abbrev pub planner_places : ℕ → ℕ → ℕ → List ℕ
planner_places q k n = map (λ a. place q k (planner a)) (from 0 n)

-- a file as the reader takes it: every line names declared atoms, and connectives have numbers from 1 in file order
pub record Taken (ws : List ℕ) (ls : List Statement) : Type 0 where
  pub declared : All (λ a. a < length ws) (flat statement_names ls)
  pub numbered : Numbered ls

-- an atom of a file that declares n atoms and has k connectives
abbrev pub Declared : ℕ → ℕ → Atom → Type 0
Declared n k (planner a) = a < n
Declared n k (made t) = (1 ≤ t) × (t ≤ k)

-- while the file is read, how many atoms are made is not known: they have the numbers from n, the declared atoms
unfoldable pub in_file : ℕ → Atom → ℕ
in_file n (planner a) = a
in_file n (made t) = n + (t - 1)

-- the rules of a condition by these numbers
unfoldable pub condition_rules : ℕ → Cond → ℕ → List (Rule ℕ)
condition_rules n c a = map (rename (in_file n)) (connective_rules c ++ (then_rule c a ∷ []))

-- and of a statement
abbrev pub file_rules : ℕ → Statement → List (Rule ℕ)
file_rules n (states r) = r ∷ []
file_rules n (when c a) = condition_rules n c a

-- put in place at the file's end: q atoms stand before the k made ones
unfoldable pub placing : ℕ → ℕ → ℕ → ℕ → ℕ
placing q n k a = cond (ltb a q) a (cond (ltb a n) (a + k) (q + (a - n)))
