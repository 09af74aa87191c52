-- What a condition's line is tested for, and what it adds to the counts.
use Rattle.std.specs.Prelude.{ℕ, suc, ◌+◌, ◌≤◌, ◌≡◌, true, false, not, List, [], ◌∷◌, ◌++◌, Result, Ok}
use Rattle.kinds.specs.Limits.{bracket_limit, text_limit, within}
use Rattle.rules.specs.Lists.{some}
use Rattle.conditions.specs.Conditions.{Cond}
use Rattle.lines.specs.Tokens.{Token}
use Rattle.lines.specs.Conditions.{names_in, connectives_in, deeper, parsed, parse}
use Rattle.lines.specs.Faults.{SoFar, is_ruling, refused_name, name_number, taken}
use Rattle.numbering.specs.Numbers.{undeclared}
use Rattle.kinds.specs.declared.limits.Counts.{Counts}
use Rattle.kinds.specs.declared.limits.Kind.TheVariants.{Preference}
use Rattle.kinds.specs.declared.refusals.Refusal.{Refusal}
use Rattle.kinds.specs.declared.refusals.Refusal.TheVariants.{Limit}
use Rattle.gathering.specs.declared.gathered.Gathered.{Gathered}
use Rattle.gathering.specs.Gathered.{first_line}

-- so many rules and occurrences more
abbrev pub condition_counts : Counts → ℕ → ℕ → ℕ → Counts
condition_counts c atoms rules places = record { atoms = atoms; rules = c.rules + rules; occurrences = c.occurrences + places }

-- so many atoms are made, and the words end at `end`
abbrev pub with_condition : Gathered → ℕ → ℕ → ℕ → ℕ → Gathered
with_condition g more rules places end = record {
  stage = g.stage;
  classes = g.classes;
  counts = condition_counts g.counts g.counts.atoms rules places;
  made = g.made + more;
  words = end;
  bytes = g.bytes;
}

-- the limits count the atoms that conditions made
unfoldable pub kept_condition : Gathered → ℕ → ℕ → ℕ → ℕ → Result Gathered Refusal
kept_condition g more rules places end =
    first_line (not (within Preference (condition_counts g.counts (g.counts.atoms + (g.made + more)) rules places))) Limit (Ok (with_condition g more rules places end))

-- a condition's brackets and words ts, and a, behind the tests that come before the atom a is looked up
pub record Tested (st : SoFar) (ts : List Token) (a : List ℕ) (count : ℕ) : Type 0 where
  pub ruling : is_ruling st.stage ≡ true
  pub parses : (c : Cond) × (parse (name_number st.names) (suc st.made) ts ≡ parsed c)
  pub shallow : deeper bracket_limit ts ≡ false
  pub none_refused : some (refused_name Preference) (names_in ts ++ (a ∷ [])) ≡ false
  pub untaken : taken st (connectives_in ts) ≡ false
  pub all_declared : undeclared st.names (names_in ts) ≡ false
  pub is_count : count ≡ connectives_in ts
  pub few : count ≤ text_limit
