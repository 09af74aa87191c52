-- Parts of a condition, as the code reads them: where a part ends, its atom, and its connectives' rows in the table.
use Rattle.std.specs.Prelude.{ℕ, suc, ◌+◌, ◌<◌, ◌≤◌, ◌≡◌, false, List, [], ◌∷◌, ◌++◌, map, length, drop, Option, Some, None}
use Rattle.std.proofs.lemmas.List.Edits.{sets}
use Rattle.kinds.specs.Words.{and_word, or_word}
use Rattle.rules.specs.Lists.{All, from}
use Rattle.conditions.specs.Conditions.{Cond, connectives, names_of}
use Rattle.conditions.specs.Written as Written
use Rattle.conditions.specs.Rows.{rows}
use Rattle.conditions.specs.Numbers.{in_file}
use Rattle.conditions.specs.declared.table.TableRow.{TableRow}
use Rattle.conditions.specs.Table.{table_row}
use Rattle.lines.specs.Tokens.{Token, tokens}
use Rattle.lines.specs.Conditions.{names_in, connectives_in, Pending, bracket, negate, conjoin, disjoin, parsed, unparsed, part, after, parse_from, parse}
use Rattle.lines.specs.Faults.{name_number}
use Rattle.numbering.specs.Numbers.{undeclared}
use Rattle.condition_parts.specs.declared.parts.Part.{Part}
use Rattle.condition_parts.specs.declared.parts.Parse.{Parse}
use Rattle.condition_parts.specs.Places.{is_leading}

-- what is read: parts joined by `or`, by `and`, or one that nothing joins
pub data Level : Type 0 where
  disjunctions conjunctions single : Level

-- what awaits the part does not bind closer than the level's word
abbrev pub Open : Level → List Pending → Type 0
Open disjunctions [] = Unit {0}
Open disjunctions (bracket ∷ ps) = Unit {0}
Open disjunctions (negate t ∷ ps) = ⊥
Open disjunctions (conjoin c t ∷ ps) = ⊥
Open disjunctions (disjoin c t ∷ ps) = ⊥
Open conjunctions [] = Unit {0}
Open conjunctions (bracket ∷ ps) = Unit {0}
Open conjunctions (negate t ∷ ps) = ⊥
Open conjunctions (conjoin c t ∷ ps) = ⊥
Open conjunctions (disjoin c t ∷ ps) = Unit {0}
Open single ps = Unit {0}

-- no word stands behind the part that the level would join
abbrev pub Behind : Level → List Token → Type 0
Behind disjunctions ts = (is_leading and_word ts ≡ false) × (is_leading or_word ts ≡ false)
Behind conjunctions ts = is_leading and_word ts ≡ false
Behind single ts = Unit {0}

-- the names are declared; the rows of the connectives from `at` on have room, the first at row `next`, and their atoms fit a word
pub record Readable (names : List (List ℕ)) (s : List ℕ) (at made next : ℕ) (table : List TableRow) : Type 0 where
  pub inside : at ≤ length s
  pub declared : undeclared names (names_in (tokens (drop at s))) ≡ false
  pub room : next + connectives_in (tokens (drop at s)) ≤ length table
  pub numbers : length names + made + next + connectives_in (tokens (drop at s)) < 65536

-- a condition stands from `at` to `place`; its connectives, numbered on from `next`, have their rows
pub record PartAt (level : Level) (names : List (List ℕ)) (s : List ℕ) (at made next : ℕ) (before after_table : List TableRow) (place atom next' : ℕ) : Type 0 where
  pub condition : Cond
  pub onward : at < place
  pub inside : place ≤ length s
  pub count : next' ≡ next + length (rows condition)
  pub connectives_left : connectives_in (tokens (drop at s)) ≡ length (rows condition) + connectives_in (tokens (drop place s))
  pub passed : List (List ℕ)
  pub names_left : names_in (tokens (drop at s)) ≡ passed ++ names_in (tokens (drop place s))
  pub is_atom : atom ≡ in_file (length names) (Written.part condition)
  pub below : atom < length names + made + next'
  pub numbered : connectives condition ≡ from (suc (made + next)) (length (rows condition))
  pub known : All (λ a. a < length names) (names_of condition)
  pub written : after_table ≡ sets before next (map (table_row (length names)) (rows condition))
  pub parses : (ps : List Pending) → Open level ps
      → parse_from (name_number names) (suc (made + next)) ps part (tokens (drop at s)) ≡ parse_from (name_number names) (suc (made + next')) ps (after condition) (tokens (drop place s))

abbrev pub PartSays : Level → List (List ℕ) → List ℕ → ℕ → ℕ → ℕ → List TableRow → List TableRow → Option Part → Type 0
PartSays level names s at made next before after_table (Some p) =
    PartAt level names s at made next before after_table p.place p.atom p.next × Behind level (tokens (drop p.place s))
PartSays level names s at made next before after_table None =
    (ps : List Pending) → Open level ps → parse_from (name_number names) (suc (made + next)) ps part (tokens (drop at s)) ≡ unparsed

-- what the answer of a level says
pub record PartIs (level : Level) (names : List (List ℕ)) (s : List ℕ) (at made next : ℕ) (before after_table : List TableRow) (r : Option Part) : Type 0 where
  pub says : PartSays level names s at made next before after_table r

-- the whole is a condition, and its table stands written
pub record Whole (names : List (List ℕ)) (s : List ℕ) (made : ℕ) (before after_table : List TableRow) (atom count : ℕ) : Type 0 where
  pub condition : Cond
  pub is_parsed : parse (name_number names) (suc made) (tokens s) ≡ parsed condition
  pub is_atom : atom ≡ in_file (length names) (Written.part condition)
  pub is_count : count ≡ connectives_in (tokens s)
  pub rows_count : count ≡ length (rows condition)
  pub numbered : connectives condition ≡ from (suc made) (length (rows condition))
  pub known : All (λ a. a < length names) (names_of condition)
  pub written : after_table ≡ sets before 0 (map (table_row (length names)) (rows condition))

abbrev pub ParseSays : List (List ℕ) → List ℕ → ℕ → List TableRow → List TableRow → Option Parse → Type 0
ParseSays names s made before after_table (Some p) = Whole names s made before after_table p.atom p.connectives
ParseSays names s made before after_table None = parse (name_number names) (suc made) (tokens s) ≡ unparsed

pub record ParseIs (names : List (List ℕ)) (s : List ℕ) (made : ℕ) (before after_table : List TableRow) (r : Option Parse) : Type 0 where
  pub says : ParseSays names s made before after_table r
