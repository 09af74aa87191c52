-- A name as a part, and a whole condition.
use Prim.Native.Nat.{ℕ, suc, ◌+◌, ◌<◌}
use native.Mathlib.Nat.{add-zero, zero-add}
use native.Mathlib.Omega.{arith}
use mathlib.Core.Path.{◌≡◌, refl, sym, ap, ◌∙◌, subst}
use mathlib.Core.Bool.{Bool, true, false, not, ◌||◌}
use mathlib.Core.List.{List, [], ◌∷◌}
use lib.ListN.{length, drop}
use Rattle.kinds.specs.Words.{not_word, and_word, or_word}
use Rattle.rules.specs.Lists.{from, is_empty}
use Rattle.std.specs.Prelude.{Option, Some, None, is_some}
use Rattle.name_store.specs.NameStore.{same_bytes, among}
use Rattle.name_store.specs.NameIndex.{found}
use Rattle.conditions.specs.Conditions.{name, connectives, names_of}
use Rattle.conditions.specs.declared.table.TableRow.{TableRow}
use Rattle.conditions.specs.Rows.{rows}
use Rattle.conditions.specs.Numbers.{in_file}
use Rattle.lines.specs.declared.scan.Item.{Item}
use Rattle.std.specs.Bool.{then_some}
use Rattle.lines.specs.Tokens.{Token, opening, closing, word, tokens, leading, items}
use Rattle.lines.specs.Conditions.{called, sort_of, names_in, connectives_in, Pending, unparsed, part, after, parse_from, parse}
use Rattle.lines.specs.Faults.{name_number}
use Rattle.lines.specs.Shapes.{spaced, item_of}
use Rattle.lines.proofs.TokenPlaces.{items_end, item_fits, item_long, item, word_is}
use Rattle.numbering.specs.Numbers.{undeclared}
use Rattle.numbering.proofs.NameNumbers.{Named, named, unnamed}
use Rattle.condition_parts.specs.declared.parts.Part.{Part}
use Rattle.condition_parts.specs.Places.{is_opening, is_leading, WordIs}
use Rattle.condition_parts.specs.Parts.{disjunctions, single, Behind, PartAt, PartIs, ParseIs}
use Rattle.condition_parts.proofs.WordPlaces.{word_here}
use Rattle.condition_parts.proofs.ConditionLaws.{called_sort, names_called, connectives_called, part_called, part_nothing, part_closing, part_and, part_or, more_behind, nothing_behind}

module _ (names : List (List ℕ)) (s : List ℕ) (at next : ℕ) where
  -- the answer, whatever was made before and whatever the table holds
  abbrev Answer : Option Part → Type 0
  Answer r = (made-before : ℕ) (table : List TableRow) → PartIs single names s at made-before next table table r

  faulty : ((t : ℕ) (ps : List Pending) → parse_from (name_number names) t ps part (tokens (drop at s)) ≡ unparsed) → Answer None
  faulty f made-before table = record { says = λ ps o. f (suc (made-before + next)) ps }

  word_faulty : {w : List ℕ} → ((t : ℕ) (ps : List Pending) (ts : List Token) → parse_from (name_number names) t ps part (word w ∷ ts) ≡ unparsed) → (r : Option ℕ) → WordIs s at w r → is_some r ≡ true → Answer None
  word_faulty f None o e = absurd (let z : ◌≡◌ {A = ℕ} 0 1 = cc in omega arith)
  word_faulty f (Some p) o e = faulty (λ t ps. ap (parse_from (name_number names) t ps part) o.says.1 ∙ f t ps (tokens (drop p s)))

  pub and_faulty : (r : Option ℕ) → WordIs s at and_word r → is_some r ≡ true → Answer None
  and_faulty = word_faulty (part_and (name_number names))

  pub or_faulty : (r : Option ℕ) → WordIs s at or_word r → is_some r ≡ true → Answer None
  or_faulty = word_faulty (part_or (name_number names))

  not_there : {w : List ℕ} (r : Option ℕ) → WordIs s at w r → is_some r ≡ false → is_leading w (tokens (drop at s)) ≡ false
  not_there None o e = o.says
  not_there (Some p) o e = absurd (let z : ◌≡◌ {A = ℕ} 0 1 = cc in omega arith)

  module _ {r : Option Item} (e : r ≡ item_of (drop at s)) where
    pub none_faulty : is_opening (tokens (drop at s)) ≡ false → r ≡ None → Answer None
    unfolding items
    none_faulty n d = faulty (λ t ps. go t ps (tokens (drop at s)) n (items_end s at e d))
      where
        go : (t : ℕ) (ps : List Pending) (ts : List Token) → is_opening ts ≡ false → leading ts ≡ [] → parse_from (name_number names) t ps part ts ≡ unparsed
        go t ps [] n l = part_nothing (name_number names) t ps
        go t ps (opening ∷ ts) n l = absurd (let z : ◌≡◌ {A = ℕ} 0 1 = cc in omega arith)
        go t ps (closing ∷ ts) n l = part_closing (name_number names) t ps ts
        go t ps (word x ∷ ts) n l = absurd (let z : ◌≡◌ {A = ℕ} 0 1 = cc in omega arith)

    module _ {g n : ℕ} (d : r ≡ spaced g n) where
      abbrev x : List ℕ
      x = item s at e d

      abbrev later : List Token
      later = tokens (drop (at + g + n) s)

      is : tokens (drop at s) ≡ word x ∷ later
      is = word_is s at e d

      told : (q : Bool) → is_some (then_some q (at + g + n)) ≡ q
      told true = refl
      told false = refl

      module _ (not_not : is_leading not_word (tokens (drop at s)) ≡ false)
          (p : Option ℕ) (a : WordIs s at and_word p) (no_and : is_some p ≡ false) (q : Option ℕ) (o : WordIs s at or_word q) (no_or : is_some q ≡ false) where
        other : (w : List ℕ) → is_leading w (tokens (drop at s)) ≡ false → same_bytes x w ≡ false
        other w f = sym (ap (is_leading w) is) ∙ f

        is_called : sort_of x ≡ called
        is_called = called_sort x (other not_word not_not) (other and_word (not_there p a no_and)) (other or_word (not_there q o no_or))

        names_are : names_in (tokens (drop at s)) ≡ x ∷ names_in later
        names_are = ap names_in is ∙ names_called x later is_called

        module _ {f : Option ℕ} (h : f ≡ found x names) where
          pub unknown_faulty : undeclared names (names_in (tokens (drop at s))) ≡ false → f ≡ None → Answer None
          unknown_faulty u m =
              let missing : among names x ≡ false = unnamed x names h m in
              let known : (not (among names x) || undeclared names (names_in later)) ≡ false = sym (ap (undeclared names) names_are) ∙ u in
              let z : true ≡ false = sym (ap (λ (b : Bool). not b || undeclared names (names_in later)) missing) ∙ known in
              absurd (let y : ◌≡◌ {A = ℕ} 0 1 = cc in omega arith)

          pub name_known : {j : ℕ} → f ≡ Some j → Answer (Some (record { place = at + g + n; atom = j; next = next }))
          unfolding rows connectives names_of in_file
          name_known {j} m made-before table =
              let k : Named names x j = named x names h m in
              record {
                says = (
                  record {
                    condition = name (name_number names x);
                    onward = omega (arith, item_long s at e d);
                    inside = item_fits s at e d;
                    count = sym (add-zero next);
                    connectives_left = ap connectives_in is ∙ connectives_called x later is_called ∙ sym (zero-add (connectives_in later));
                    passed = x ∷ [];
                    names_left = names_are;
                    is_atom = sym k.number;
                    below = omega (arith, k.below);
                    numbered = refl;
                    known = (subst (λ (i : ℕ). i < length names) (sym k.number) k.below, tt);
                    written = refl;
                    parses = λ ps w. ap (parse_from (name_number names) (suc (made-before + next)) ps part) is ∙ part_called (name_number names) (suc (made-before + next)) ps x later is_called;
                  },
                  tt,
                );
              }

      -- the same where the bytes of the item say whether it is a word
      pub and_item_faulty : {q : Bool} → q ≡ same_bytes x and_word → q ≡ true → Answer None
      and_item_faulty {q} f y = and_faulty _ (word_here s at and_word e d f) (told q ∙ y)

      pub or_item_faulty : {q : Bool} → q ≡ same_bytes x or_word → q ≡ true → Answer None
      or_item_faulty {q} f y = or_faulty _ (word_here s at or_word e d f) (told q ∙ y)

      module _ (not_not : is_leading not_word (tokens (drop at s)) ≡ false)
          {p : Bool} (and_is : p ≡ same_bytes x and_word) (no_and : p ≡ false) {q : Bool} (or_is : q ≡ same_bytes x or_word) (no_or : q ≡ false) {f : Option ℕ} (h : f ≡ found x names) where
        pub unknown_item_faulty : undeclared names (names_in (tokens (drop at s))) ≡ false → f ≡ None → Answer None
        unknown_item_faulty = unknown_faulty not_not _ (word_here s at and_word e d and_is) (told p ∙ no_and) _ (word_here s at or_word e d or_is) (told q ∙ no_or) h

        pub item_known : {j : ℕ} → f ≡ Some j → Answer (Some (record { place = at + g + n; atom = j; next = next }))
        item_known = name_known not_not _ (word_here s at and_word e d and_is) (told p ∙ no_and) _ (word_here s at or_word e d or_is) (told q ∙ no_or) h

-- the whole
module _ (names : List (List ℕ)) (s : List ℕ) (made-before : ℕ) where
  starts : parse (name_number names) (suc made-before) (tokens s) ≡ parse_from (name_number names) (suc (made-before + 0)) [] part (tokens (drop 0 s))
  unfolding parse
  starts = ap (λ (i : ℕ). parse_from (name_number names) (suc i) [] part (tokens s)) (sym (add-zero made-before))

  pub whole_faulty : {before after_table : List TableRow} → PartIs disjunctions names s 0 made-before 0 before after_table None → ParseIs names s made-before before after_table None
  whole_faulty h = record { says = starts ∙ h.says [] tt }

  module _ {before after_table : List TableRow} {place atom count : ℕ} (h : PartAt disjunctions names s 0 made-before 0 before after_table place atom count) {r : Bool} (e : r ≡ is_empty (tokens (drop place s))) where
    up_to : parse (name_number names) (suc made-before) (tokens s) ≡ parse_from (name_number names) (suc (made-before + count)) [] (after h.condition) (tokens (drop place s))
    up_to = starts ∙ h.parses [] tt

    more_faulty : Behind disjunctions (tokens (drop place s)) → r ≡ false → ParseIs names s made-before before after_table None
    more_faulty b f = record { says = up_to ∙ more_behind (name_number names) (suc (made-before + count)) h.condition (tokens (drop place s)) b.0 b.1 (sym e ∙ f) }

    whole_part : r ≡ true → ParseIs names s made-before before after_table (Some (record { atom = atom; connectives = count }))
    unfolding connectives_in
    whole_part f =
        let none : tokens (drop place s) ≡ [] = nothing (tokens (drop place s)) (sym e ∙ f) in
        let rows_count : count ≡ length (rows h.condition) = h.count ∙ zero-add (length (rows h.condition)) in
        record {
          says = record {
            condition = h.condition;
            is_parsed = up_to ∙ ap (parse_from (name_number names) (suc (made-before + count)) [] (after h.condition)) none ∙ nothing_behind (name_number names) (suc (made-before + count)) h.condition;
            is_atom = h.is_atom;
            is_count = rows_count ∙ sym (h.connectives_left ∙ ap (λ ts. length (rows h.condition) + connectives_in ts) none ∙ add-zero (length (rows h.condition)));
            rows_count = rows_count;
            numbered = h.numbered ∙ ap (λ (i : ℕ). from (suc i) (length (rows h.condition))) (add-zero made-before);
            known = h.known;
            written = h.written;
          };
        }
      where
        nothing : (ts : List Token) → is_empty ts ≡ true → ts ≡ []
        nothing [] p = refl
        nothing (t ∷ ts) p = absurd (let z : ◌≡◌ {A = ℕ} 0 1 = cc in omega arith)

    pub whole_read : Behind disjunctions (tokens (drop place s)) → ParseIs names s made-before before after_table (then_some r (record { atom = atom; connectives = count }))
    whole_read b = go r refl
      where
        go : (x : Bool) → r ≡ x → ParseIs names s made-before before after_table (then_some x (record { atom = atom; connectives = count }))
        go true f = whole_part f
        go false f = more_faulty b f
