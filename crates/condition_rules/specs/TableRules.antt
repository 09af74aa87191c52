-- The rules of a table's rows, over numbers, and what writing them leaves.
use Rattle.std.specs.Prelude.{ℕ, ◌+◌, ◌≡◌, not, List, [], ◌∷◌, ◌++◌, eqb, length}
use Rattle.rules.specs.Lists.{keep, flat, sum}
use Rattle.rules.specs.Rules.{Rule, rule, occurrences}
use Rattle.stores.specs.RuleStore.{rule_words}
use Rattle.output.specs.Emitted.{Emitted}
use Rattle.conditions.specs.declared.table.Connective.{Connective}
use Rattle.conditions.specs.declared.table.Connective.TheVariants.{Not, And, Or}
use Rattle.conditions.specs.declared.table.TableRow.{TableRow}
use Rattle.condition_rules.specs.declared.RowsPut.{RowsPut}
use Rattle.condition_rules.specs.declared.RulesPut.{RulesPut}

-- "left stands first, an atom once in a list"
abbrev pub once_in : ℕ → ℕ → List ℕ
once_in l r = l ∷ keep (not (eqb l r)) r []

-- "for `not`, T or its part, then no head if T and its part"
abbrev pub not_atoms : ℕ → ℕ → List (Rule ℕ)
not_atoms t c = rule (t ∷ c ∷ []) [] [] ∷ rule [] (t ∷ c ∷ []) [] ∷ []

-- "for `and`, T if both parts, then each part if T"
abbrev pub and_atoms : ℕ → ℕ → ℕ → List (Rule ℕ)
and_atoms t l r = rule (t ∷ []) (once_in l r) [] ∷ rule (l ∷ []) (t ∷ []) [] ∷ rule (r ∷ []) (t ∷ []) [] ∷ []

-- "for `or`, either part if T, then T if each part"
abbrev pub or_atoms : ℕ → ℕ → ℕ → List (Rule ℕ)
or_atoms t l r = rule (once_in l r) (t ∷ []) [] ∷ rule (t ∷ []) (l ∷ []) [] ∷ rule (t ∷ []) (r ∷ []) [] ∷ []

-- a row's rules: its connective, its T and its parts
unfoldable pub kind_rules : Connective → ℕ → ℕ → ℕ → List (Rule ℕ)
kind_rules Not t l r = not_atoms t l
kind_rules And t l r = and_atoms t l r
kind_rules Or t l r = or_atoms t l r

-- the rules of the rows, t being the first one's T
unfoldable pub table_rules : ℕ → List TableRow → List (Rule ℕ)
table_rules t [] = []
table_rules t (r ∷ rs) = kind_rules r.kind t r.left r.right ++ table_rules (t + 1) rs

-- the rules stand written, and their number is given
pub record RowsPutIs (rs : List (Rule ℕ)) (before : List ℕ) (at : ℕ) (after : List ℕ) (r : RowsPut) : Type 0 where
  pub written : Emitted before at (flat rule_words rs) after r.end
  pub is_rules : r.rules ≡ length rs

-- that of their occurrences, too
pub record RulesPutIs (rs : List (Rule ℕ)) (before : List ℕ) (at : ℕ) (after : List ℕ) (r : RulesPut) : Type 0 where
  pub written : Emitted before at (flat rule_words rs) after r.end
  pub is_rules : r.rules ≡ length rs
  pub is_occurrences : r.occurrences ≡ sum occurrences rs
