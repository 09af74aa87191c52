-- Parts put together: what one level's part, a word and another part give.
use Prim.Native.Nat.{ℕ, suc, ◌+◌, ◌<◌}
use native.Mathlib.Omega.{arith}
use mathlib.Core.Path.{◌≡◌, refl, sym, ap, ap₂, ◌∙◌, subst}
use mathlib.Core.Bool.{Bool, true, false, not, ◌||◌}
use mathlib.Core.List.{List, [], ◌∷◌, ◌++◌, map, append_assoc}
use lib.ListN.{length, set, drop, length-append}
use lib.Seq.{sets, length-sets}
use Rattle.kinds.specs.Words.{not_word, and_word, or_word}
use Rattle.rules.specs.Lists.{All, some, from}
use Rattle.rules.proofs.Lists.{all_app, some_app, from_append}
use Rattle.name_store.specs.NameStore.{among}
use Rattle.conditions.specs.Conditions.{Atom, made, Cond, NOT, AND, OR, connectives, names_of}
use Rattle.conditions.specs.Written as Written
use Rattle.conditions.specs.Rows.{Row, not_row, and-row, or-row, rows}
use Rattle.conditions.specs.Numbers.{in_file}
use Rattle.conditions.specs.declared.table.Connective.{Connective}
use Rattle.conditions.specs.declared.table.Connective.TheVariants.{Not, And, Or}
use Rattle.conditions.specs.declared.table.TableRow.{TableRow}
use Rattle.conditions.specs.Table.{entry, table_row}
use Rattle.std.specs.Prelude.{Some, None}
use Rattle.lines.specs.Tokens.{Token, word, tokens}
use Rattle.lines.specs.Conditions.{names_in, connectives_in, Pending, bracket, negate, conjoin, disjoin, with_and, with_or, part, after, parse_from}
use Rattle.lines.specs.Faults.{name_number}
use Rattle.lines.specs.Shapes.{ClosedSays, ClosedIs}
use Rattle.numbering.specs.Numbers.{undeclared}
use Rattle.condition_parts.specs.declared.parts.Part.{Part}
use Rattle.condition_parts.specs.Places.{is_leading, OpeningSays, OpeningIs, WordSays, WordIs}
use Rattle.condition_parts.specs.Parts.{Level, disjunctions, conjunctions, single, Open, Behind, Readable, PartAt, PartIs}
use Rattle.condition_parts.proofs.ConditionLaws.{IsConnective, is_not_lem, is_and, is_or, names_connective, connectives_connective, names_opening, connectives_opening, names_closing, connectives_closing, part_not, part_opening, after_and, after_or, negated, conjoined, disjoined, unbracketed, unclosed}
use Rattle.condition_parts.proofs.TableRows.{row_put, rows_put}

-- the two words that stand between parts
pub data Joint : Type 0 where
  conj disj : Joint

abbrev pub level : Joint → Level
level conj = conjunctions
level disj = disjunctions

abbrev pub lower : Joint → Level
lower conj = single
lower disj = conjunctions

abbrev pub word_of : Joint → List ℕ
word_of conj = and_word
word_of disj = or_word

abbrev pub kind_of : Joint → Connective
kind_of conj = And
kind_of disj = Or

abbrev join : Joint → Cond → ℕ → Cond → Cond
join conj l t r = AND l t r
join disj l t r = OR l t r

abbrev row_of : Joint → ℕ → Atom → Atom → Row
row_of conj t l r = and-row t l r
row_of disj t l r = or-row t l r

abbrev awaits : Joint → Cond → ℕ → Pending
awaits conj c t = conjoin c t
awaits disj c t = disjoin c t

module _ (l r : Cond) (t : ℕ) where
  rows_joined : (j : Joint) → rows (join j l t r) ≡ rows l ++ (row_of j t (Written.part l) (Written.part r) ∷ rows r)
  unfolding rows
  rows_joined conj = refl
  rows_joined disj = refl

  connectives_joined : (j : Joint) → connectives (join j l t r) ≡ connectives l ++ (t ∷ connectives r)
  unfolding connectives
  connectives_joined conj = refl
  connectives_joined disj = refl

  names_joined : (j : Joint) → names_of (join j l t r) ≡ names_of l ++ names_of r
  unfolding names_of
  names_joined conj = refl
  names_joined disj = refl

  part_joined : (j : Joint) → Written.part (join j l t r) ≡ made t
  part_joined conj = refl
  part_joined disj = refl

row_entry : (j : Joint) (n t : ℕ) (l r : Atom) → table_row n (row_of j t l r) ≡ entry (kind_of j) (in_file n l) (in_file n r)
unfolding table_row
row_entry conj n t l r = refl
row_entry disj n t l r = refl

is_connective : (j : Joint) → IsConnective (word_of j)
is_connective conj = is_and
is_connective disj = is_or

-- what is open at a level is open at the one below it
open_lower : (j : Joint) (ps : List Pending) → Open (level j) ps → Open (lower j) ps
open_lower conj ps o = tt
open_lower disj [] o = tt
open_lower disj (bracket ∷ ps) o = tt
open_lower disj (negate t ∷ ps) o = absurd o
open_lower disj (conjoin c t ∷ ps) o = absurd o
open_lower disj (disjoin c t ∷ ps) o = absurd o

open_awaiting : (j : Joint) (c : Cond) (t : ℕ) (ps : List Pending) → Open (lower j) (awaits j c t ∷ ps)
open_awaiting conj c t ps = tt
open_awaiting disj c t ps = tt

pub behind_level : (j : Joint) (ts : List Token) → Behind (lower j) ts → is_leading (word_of j) ts ≡ false → Behind (level j) ts
behind_level conj ts b n = n
behind_level disj ts b n = (b, n)

module _ (numbers : List ℕ → ℕ) (t : ℕ) where
  with_and_lem : (c : Cond) (ps : List Pending) → Open conjunctions ps → with_and t ps c ≡ conjoin c t ∷ ps
  unfolding with_and
  with_and_lem c [] o = refl
  with_and_lem c (bracket ∷ ps) o = refl
  with_and_lem c (negate u ∷ ps) o = absurd o
  with_and_lem c (conjoin l u ∷ ps) o = absurd o
  with_and_lem c (disjoin l u ∷ ps) o = refl

  with_or_lem : (c : Cond) (ps : List Pending) → Open disjunctions ps → with_or t ps c ≡ disjoin c t ∷ ps
  unfolding with_or
  with_or_lem c [] o = refl
  with_or_lem c (bracket ∷ ps) o = refl
  with_or_lem c (negate u ∷ ps) o = absurd o
  with_or_lem c (conjoin l u ∷ ps) o = absurd o
  with_or_lem c (disjoin l u ∷ ps) o = absurd o

  word_met : (j : Joint) (c : Cond) (ps : List Pending) (ts : List Token) → Open (level j) ps → parse_from numbers t ps (after c) (word (word_of j) ∷ ts) ≡ parse_from numbers (suc t) (awaits j c t ∷ ps) part ts
  word_met conj c ps ts o = after_and numbers t ps c ts (with_and_lem c ps o)
  word_met disj c ps ts o = after_or numbers t ps c ts (with_or_lem c ps o)

  joined_parse : (j : Joint) (l : Cond) (u : ℕ) (c : Cond) (ps : List Pending) (ts : List Token) → Behind (lower j) ts → parse_from numbers t (awaits j l u ∷ ps) (after c) ts ≡ parse_from numbers t ps (after (join j l u c)) ts
  joined_parse conj l u c ps ts b = conjoined numbers t ps l u c ts
  joined_parse disj l u c ps ts b = disjoined numbers t ps l u c ts b

-- the atom of a connective
made_atom : (n m made-before row : ℕ) → m ≡ n → m + made-before + row ≡ in_file n (made (suc (made-before + row)))
unfolding in_file
made_atom n m k row e = omega arith

-- the numbers of a connective's parts and its own
numbers_joined : (k next row ls rs : ℕ) (xs ys : List ℕ) → row ≡ next + ls → xs ≡ from (suc (k + next)) ls → ys ≡ from (suc (k + (row + 1))) rs
    → xs ++ (suc (k + row) ∷ ys) ≡ from (suc (k + next)) (ls + suc rs)
numbers_joined k next row ls rs xs ys e p q =
    let a : suc (k + row) ≡ suc (k + next) + ls = omega arith in
    let b : suc (k + (row + 1)) ≡ suc (suc (k + next) + ls) = omega arith in
    ap₂ (λ us vs. us ++ (suc (k + row) ∷ vs)) p (q ∙ ap (λ (i : ℕ). from i rs) b)
    ∙ ap (λ (i : ℕ). from (suc (k + next)) ls ++ (i ∷ from (suc (suc (k + next) + ls)) rs)) a
    ∙ from_append (suc (k + next)) ls (suc rs)

none_left : (p : List ℕ → Bool) (xs ys : List (List ℕ)) → some p (xs ++ ys) ≡ false → some p ys ≡ false
none_left p xs ys e = go (some p xs) (some p ys) (sym (some_app p xs ys) ∙ e)
  where
    go : (a b : Bool) → (a || b) ≡ false → b ≡ false
    go true b h = absurd (let z : ◌≡◌ {A = ℕ} 0 1 = cc in omega arith)
    go false b h = h

module _ {names : List (List ℕ)} {s : List ℕ} {made-before : ℕ} where
  -- reading goes on behind an opening bracket, a connective's word, a part

  module _ {at next : ℕ} {table : List TableRow} (h : Readable names s at made-before next table) where
    pub behind_opening : {p : ℕ} → OpeningIs s at (Some p) → Readable names s p made-before next table
    behind_opening {p} o =
        let k : OpeningSays s at (Some p) = o.says in
        let a : names_in (tokens (drop at s)) ≡ names_in (tokens (drop p s)) = ap names_in k.1 ∙ names_opening (tokens (drop p s)) in
        let b : connectives_in (tokens (drop at s)) ≡ connectives_in (tokens (drop p s)) = ap connectives_in k.1 ∙ connectives_opening (tokens (drop p s)) in
        record {
          inside = k.0.inside;
          declared = ap (undeclared names) (sym a) ∙ h.declared;
          room = omega (arith, h.room);
          numbers = omega (arith, h.numbers);
        }

    pub behind_word : {w : List ℕ} → IsConnective w → {p : ℕ} → WordIs s at w (Some p) → Readable names s p made-before (next + 1) table
    behind_word {w} i {p} o =
        let k : WordSays s at w (Some p) = o.says in
        let a : names_in (tokens (drop at s)) ≡ names_in (tokens (drop p s)) = ap names_in k.1 ∙ names_connective i (tokens (drop p s)) in
        let b : connectives_in (tokens (drop at s)) ≡ suc (connectives_in (tokens (drop p s))) = ap connectives_in k.1 ∙ connectives_connective i (tokens (drop p s)) in
        record {
          inside = k.0.inside;
          declared = ap (undeclared names) (sym a) ∙ h.declared;
          room = omega (arith, h.room);
          numbers = omega (arith, h.numbers);
        }

    module _ {l : Level} {after_table : List TableRow} {place atom next' : ℕ} (k : PartAt l names s at made-before next table after_table place atom next') where
      pub table_kept : length after_table ≡ length table
      table_kept = ap length k.written ∙ length-sets table next (map (table_row (length names)) (rows k.condition))

      pub behind_part : Readable names s place made-before next' after_table
      behind_part =
          record {
            inside = k.inside;
            declared = none_left (λ x. not (among names x)) k.passed (names_in (tokens (drop place s))) (ap (undeclared names) (sym k.names_left) ∙ h.declared);
            room = omega (arith, h.room, k.count, k.connectives_left, table_kept);
            numbers = omega (arith, h.numbers, k.count, k.connectives_left);
          }

      pub atom_fits : atom < 65536
      atom_fits = omega (arith, k.below, behind_part.numbers)

  -- a connective's row has room once its right part is read
  pub row_room : (row : ℕ) {at : ℕ} {table : List TableRow} → Readable names s at made-before (row + 1) table → {l : Level} {after_table : List TableRow} {place atom next' : ℕ}
      → PartAt l names s at made-before (row + 1) table after_table place atom next' → row < length after_table
  row_room row h k = omega (arith, h.room, table_kept h k)

  -- a part of one level is a part of the level above it
  pub lifted : (j : Joint) {at next : ℕ} {before after_table : List TableRow} {place atom next' : ℕ}
      → PartAt (lower j) names s at made-before next before after_table place atom next' → PartAt (level j) names s at made-before next before after_table place atom next'
  lifted j h =
      record {
        condition = h.condition;
        onward = h.onward;
        inside = h.inside;
        count = h.count;
        connectives_left = h.connectives_left;
        passed = h.passed;
        names_left = h.names_left;
        is_atom = h.is_atom;
        below = h.below;
        numbered = h.numbered;
        known = h.known;
        written = h.written;
        parses = λ ps o. h.parses ps (open_lower j ps o);
      }

  -- a part, a word, and what stands behind the word
  module _ (j : Joint) {at next : ℕ} {before mid : List TableRow} {place left row : ℕ} (h : PartAt (level j) names s at made-before next before mid place left row)
      {to : ℕ} (o : WordIs s place (word_of j) (Some to)) where
    abbrev t : ℕ
    t = suc (made-before + row)

    found : WordSays s place (word_of j) (Some to)
    found = o.says

    goes_on : (ps : List Pending) → Open (level j) ps
        → parse_from (name_number names) (suc (made-before + next)) ps part (tokens (drop at s)) ≡ parse_from (name_number names) (suc (made-before + (row + 1))) (awaits j h.condition t ∷ ps) part (tokens (drop to s))
    goes_on ps q =
        let u : suc t ≡ suc (made-before + (row + 1)) = omega arith in
        h.parses ps q
        ∙ ap (parse_from (name_number names) t ps (after h.condition)) found.1
        ∙ word_met (name_number names) t j h.condition ps (tokens (drop to s)) q
        ∙ ap (λ (i : ℕ). parse_from (name_number names) i (awaits j h.condition t ∷ ps) part (tokens (drop to s))) u

    pub right_faulty : {after_table : List TableRow} → PartIs (lower j) names s to made-before (row + 1) mid after_table None
        → (last : List TableRow) → PartIs (level j) names s at made-before next before last None
    right_faulty k last = record { says = λ ps q. goes_on ps q ∙ k.says (awaits j h.condition t ∷ ps) (open_awaiting j h.condition t ps) }

    module _ {after_table last : List TableRow} {end right later n : ℕ} (k : PartAt (lower j) names s to made-before (row + 1) mid after_table end right later) (b : Behind (lower j) (tokens (drop end s)))
        (w : last ≡ set after_table row (entry (kind_of j) left right)) (m : n ≡ length names) where
      abbrev whole : Cond
      whole = join j h.condition t k.condition

      abbrev new_row : Row
      new_row = row_of j t (Written.part h.condition) (Written.part k.condition)

      rows_are : rows whole ≡ rows h.condition ++ (new_row ∷ rows k.condition)
      rows_are = rows_joined h.condition k.condition t j

      size : length (rows whole) ≡ length (rows h.condition) + suc (length (rows k.condition))
      size = ap length rows_are ∙ length-append (rows h.condition) (new_row ∷ rows k.condition)

      entry_is : entry (kind_of j) left right ≡ table_row (length names) new_row
      entry_is =
          ap₂ (λ (x y : ℕ). entry (kind_of j) x y) h.is_atom k.is_atom
          ∙ sym (row_entry j (length names) t (Written.part h.condition) (Written.part k.condition))

      middle : connectives_in (tokens (drop place s)) ≡ suc (connectives_in (tokens (drop to s)))
      middle = ap connectives_in found.1 ∙ connectives_connective (is_connective j) (tokens (drop to s))

      pub joined : PartAt (level j) names s at made-before next before last end (n + made-before + row) later
      joined =
          record {
            condition = whole;
            onward = omega (arith, h.onward, found.0.onward, k.onward);
            inside = k.inside;
            count = omega (arith, h.count, k.count, size);
            connectives_left = omega (arith, h.connectives_left, middle, k.connectives_left, size);
            passed = h.passed ++ k.passed;
            names_left =
                h.names_left
                ∙ ap (λ l. h.passed ++ l) (ap names_in found.1 ∙ names_connective (is_connective j) (tokens (drop to s)) ∙ k.names_left)
                ∙ sym (append_assoc h.passed k.passed (names_in (tokens (drop end s))));
            is_atom = made_atom (length names) n made-before row m ∙ ap (in_file (length names)) (sym (part_joined h.condition k.condition t j));
            below = omega (arith, k.count);
            numbered =
                connectives_joined h.condition k.condition t j
                ∙ numbers_joined made-before next row (length (rows h.condition)) (length (rows k.condition)) (connectives h.condition) (connectives k.condition) h.count h.numbered k.numbered
                ∙ ap (from (suc (made-before + next))) (sym size);
            known = subst (All (λ a. a < length names)) (sym (names_joined h.condition k.condition t j)) (all_app (λ a. a < length names) (names_of h.condition) (names_of k.condition) h.known k.known);
            written =
                w
                ∙ ap (set after_table row) entry_is
                ∙ row_put (length names) new_row mid row (rows k.condition) k.written
                ∙ rows_put (length names) before next (rows h.condition) (new_row ∷ rows k.condition) h.count h.written
                ∙ ap (λ l. sets before next (map (table_row (length names)) l)) (sym rows_are);
            parses = λ ps q. goes_on ps q
                ∙ k.parses (awaits j h.condition t ∷ ps) (open_awaiting j h.condition t ps)
                ∙ joined_parse (name_number names) (suc (made-before + later)) j h.condition t k.condition ps (tokens (drop end s)) b;
          }

  -- what an answer says
  module _ {l : Level} {at next : ℕ} {before after_table : List TableRow} {p : Part} (h : PartIs l names s at made-before next before after_table (Some p)) where
    pub part_read : PartAt l names s at made-before next before after_table p.place p.atom p.next
    part_read = h.says.0

    pub part_behind : Behind l (tokens (drop p.place s))
    part_behind = h.says.1

  pub first_faulty : (j : Joint) {at next : ℕ} {before after_table : List TableRow} → PartIs (lower j) names s at made-before next before after_table None
      → (last : List TableRow) → PartIs (level j) names s at made-before next before last None
  first_faulty j h last = record { says = λ ps o. h.says ps (open_lower j ps o) }

  pub no_more : (j : Joint) {at next : ℕ} {before after_table : List TableRow} {p : Part} → PartAt (level j) names s at made-before next before after_table p.place p.atom p.next
      → Behind (lower j) (tokens (drop p.place s)) → WordIs s p.place (word_of j) None → PartIs (level j) names s at made-before next before after_table (Some p)
  no_more j {p = p} h b o = record { says = (h, behind_level j (tokens (drop p.place s)) b o.says) }

module _ (names : List (List ℕ)) (s : List ℕ) (made-before at next : ℕ) where
  -- a part behind `not`
  module _ {to : ℕ} (o : WordIs s at not_word (Some to)) where
    abbrev u : ℕ
    u = suc (made-before + next)

    not_found : WordSays s at not_word (Some to)
    not_found = o.says

    behind_not : (ps : List Pending) → parse_from (name_number names) u ps part (tokens (drop at s)) ≡ parse_from (name_number names) (suc (made-before + (next + 1))) (negate u ∷ ps) part (tokens (drop to s))
    behind_not ps =
        let v : suc u ≡ suc (made-before + (next + 1)) = omega arith in
        ap (parse_from (name_number names) u ps part) not_found.1
        ∙ part_not (name_number names) u ps (tokens (drop to s))
        ∙ ap (λ (i : ℕ). parse_from (name_number names) i (negate u ∷ ps) part (tokens (drop to s))) v

    pub negated_faulty : {before after_table : List TableRow} → PartIs single names s to made-before (next + 1) before after_table None
        → (last : List TableRow) → PartIs single names s at made-before next before last None
    negated_faulty k last = record { says = λ ps q. behind_not ps ∙ k.says (negate u ∷ ps) tt }

    module _ {before after_table last : List TableRow} {end atom later n : ℕ} (k : PartAt single names s to made-before (next + 1) before after_table end atom later)
        (w : last ≡ set after_table next (entry Not atom 0)) (m : n ≡ length names) where
      abbrev negation : Cond
      negation = NOT u k.condition

      negation_rows : rows negation ≡ not_row u (Written.part k.condition) ∷ rows k.condition
      unfolding rows
      negation_rows = refl

      negation_entry : entry Not atom 0 ≡ table_row (length names) (not_row u (Written.part k.condition))
      unfolding table_row
      negation_entry = ap (λ (x : ℕ). entry Not x 0) k.is_atom

      negation_numbers : connectives negation ≡ from u (suc (length (rows k.condition)))
      unfolding connectives
      negation_numbers =
          let v : suc (made-before + (next + 1)) ≡ suc u = omega arith in
          ap (λ l. u ∷ l) (k.numbered ∙ ap (λ (i : ℕ). from i (length (rows k.condition))) v)

      negation_names : names_of negation ≡ names_of k.condition
      unfolding names_of
      negation_names = refl

      behind_is : connectives_in (tokens (drop at s)) ≡ suc (connectives_in (tokens (drop to s)))
      behind_is = ap connectives_in not_found.1 ∙ connectives_connective is_not_lem (tokens (drop to s))

      pub negated_part : PartIs single names s at made-before next before last (Some (record { place = end; atom = n + made-before + next; next = later }))
      negated_part =
          let size : length (rows negation) ≡ suc (length (rows k.condition)) = ap length negation_rows in
          record {
            says = (
              record {
                condition = negation;
                onward = omega (arith, not_found.0.onward, k.onward);
                inside = k.inside;
                count = omega (arith, k.count);
                connectives_left = omega (arith, behind_is, k.connectives_left);
                passed = k.passed;
                names_left = ap names_in not_found.1 ∙ names_connective is_not_lem (tokens (drop to s)) ∙ k.names_left;
                is_atom = made_atom (length names) n made-before next m;
                below = omega (arith, k.count);
                numbered = negation_numbers ∙ ap (from u) (sym size);
                known = subst (All (λ a. a < length names)) (sym negation_names) k.known;
                written =
                    w
                    ∙ ap (set after_table next) negation_entry
                    ∙ row_put (length names) (not_row u (Written.part k.condition)) before next (rows k.condition) k.written
                    ∙ ap (λ l. sets before next (map (table_row (length names)) l)) (sym negation_rows);
                parses = λ ps q. behind_not ps ∙ k.parses (negate u ∷ ps) tt ∙ negated (name_number names) (suc (made-before + later)) ps u k.condition (tokens (drop end s));
              },
              tt,
            );
          }

  -- a part in brackets
  module _ {inner : ℕ} (o : OpeningIs s at (Some inner)) where
    opening_found : OpeningSays s at (Some inner)
    opening_found = o.says

    inside_bracket : (number : ℕ) (ps : List Pending) → parse_from (name_number names) number ps part (tokens (drop at s)) ≡ parse_from (name_number names) number (bracket ∷ ps) part (tokens (drop inner s))
    inside_bracket number ps = ap (parse_from (name_number names) number ps part) opening_found.1 ∙ part_opening (name_number names) number ps (tokens (drop inner s))

    pub inner_faulty : {before after_table : List TableRow} → PartIs disjunctions names s inner made-before next before after_table None
        → (last : List TableRow) → PartIs single names s at made-before next before last None
    inner_faulty k last = record { says = λ ps q. inside_bracket (suc (made-before + next)) ps ∙ k.says (bracket ∷ ps) tt }

    module _ {before after_table : List TableRow} {place atom later : ℕ} (k : PartAt disjunctions names s inner made-before next before after_table place atom later) where
      up_to_closing : (ps : List Pending)
          → parse_from (name_number names) (suc (made-before + next)) ps part (tokens (drop at s)) ≡ parse_from (name_number names) (suc (made-before + later)) (bracket ∷ ps) (after k.condition) (tokens (drop place s))
      up_to_closing ps = inside_bracket (suc (made-before + next)) ps ∙ k.parses (bracket ∷ ps) tt

      pub unclosed_faulty : Behind disjunctions (tokens (drop place s)) → ClosedIs s place None → (last : List TableRow) → PartIs single names s at made-before next before last None
      unclosed_faulty b c last =
          record { says = λ ps i. up_to_closing ps ∙ unclosed (name_number names) (suc (made-before + later)) k.condition ps (tokens (drop place s)) b.0 b.1 c.says }

      pub bracketed_part : {end : ℕ} → ClosedIs s place (Some end) → PartIs single names s at made-before next before after_table (Some (record { place = end; atom = atom; next = later }))
      bracketed_part {end} c =
          let closed : ClosedSays s place (Some end) = c.says in
          let in_front_lem : connectives_in (tokens (drop at s)) ≡ connectives_in (tokens (drop inner s)) = ap connectives_in opening_found.1 ∙ connectives_opening (tokens (drop inner s)) in
          let at_end_lem : connectives_in (tokens (drop place s)) ≡ connectives_in (tokens (drop end s)) = ap connectives_in closed.1 ∙ connectives_closing (tokens (drop end s)) in
          record {
            says = (
              record {
                condition = k.condition;
                onward = omega (arith, opening_found.0.onward, k.onward, closed.0.onward);
                inside = closed.0.inside;
                count = k.count;
                connectives_left = omega (arith, k.connectives_left);
                passed = k.passed;
                names_left =
                    ap names_in opening_found.1
                    ∙ names_opening (tokens (drop inner s))
                    ∙ k.names_left
                    ∙ ap (λ l. k.passed ++ l) (ap names_in closed.1 ∙ names_closing (tokens (drop end s)));
                is_atom = k.is_atom;
                below = k.below;
                numbered = k.numbered;
                known = k.known;
                written = k.written;
                parses = λ ps i. up_to_closing ps
                    ∙ ap (parse_from (name_number names) (suc (made-before + later)) (bracket ∷ ps) (after k.condition)) closed.1
                    ∙ unbracketed (name_number names) (suc (made-before + later)) ps k.condition (tokens (drop end s));
              },
              tt,
            );
          }
