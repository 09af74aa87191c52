-- What is held once the made atoms stand in their place.
use Prim.Native.Nat.{ℕ, zero, suc, ◌+◌, ◌*◌, ◌≤◌, ◌<◌}
use native.Mathlib.Nat.{zero-add}
use native.Mathlib.Omega.{arith}
use mathlib.Core.Path.{◌≡◌, refl, sym, ap, ap₂, ◌∙◌, subst}
use mathlib.Core.List.{List, ◌++◌, map}
use lib.ListN.{length, get_or, take, drop, length-append, length-map}
use lib.Seq.{length-take-le, take_at, drop-append_seam, sets-eq}
use Rattle.kinds.specs.Limits.{atom_limit}
use Rattle.kinds.specs.Sizes.{store_words, store_bytes}
use Rattle.kinds.specs.declared.limits.Kind.TheVariants.{Preference}
use Rattle.rules.specs.Lists.{sum, flat}
use Rattle.rules.specs.Rules.{rename, occurrences}
use Rattle.rules.proofs.ListLaws.{flat_map}
use Rattle.rules.proofs.Rules.{rename_occurrences}
use Rattle.rules.proofs.Renumbering.{within_imp, rename_same}
use Rattle.name_store.specs.NameStore.{encode_names}
use Rattle.stores.specs.RuleStore.{rule_words, rules_from}
use Rattle.stores.specs.StoredRules.{StoredRules}
use Rattle.stores.proofs.RuleStores.{rules_length}
use Rattle.output.specs.Emitted.{Emitted, InRange}
use Rattle.output.proofs.Emitting.{then, renamed, same_length}
use Rattle.conditions.specs.Numbers.{unfixed, placed_words, placing}
use Rattle.conditions.specs.Left.{written_names}
use Rattle.conditions.proofs.Classes.{unfixed_le}
use Rattle.conditions.proofs.Placed.{words_length}
use Rattle.conditions.proofs.Names.{written_length, written_allowed}
use Rattle.lines.specs.Faults.{SoFar}
use Rattle.lines.specs.Said.{placed_by, placed}
use Rattle.gathering.specs.declared.gathered.Gathered.{Gathered}
use Rattle.gathering.specs.Gathered.{state_of, stored_words, Filled, Held}
use Rattle.gathering.proofs.HeldState.{atoms_is, rules_is, occurrences_is, within_limits, limits_within, held_small}
use Rattle.used_atoms.proofs.RuleParts.{moved_words}
use Rattle.remaining_stores.proofs.HeldRules.{class_part, rule_part, class_part_lem, rule_part_lem, rules_stored}
use Rattle.remaining_stores.proofs.Tabling.{more_inside}
use Rattle.made_names.proofs.NamesPut.{names_short}
use Rattle.placing.specs.Unplaced.{Unplaced}
use Rattle.placing.specs.Parts.{AtFront, placed_names}
use Rattle.placing.proofs.PlacedParts.{at_front, names_placed, names_long}

-- the state with the made atoms behind the first q
abbrev in_place : ℕ → SoFar → SoFar
in_place q st = record {
  kind = st.kind;
  stage = st.stage;
  classes = st.classes;
  words = placed_words q st.made st.words;
  names = written_names q st.made st.names;
  program_rules = map (rename (placing q (length st.names) st.made)) st.program_rules;
  made = 0;
}

placed_is : (st : SoFar) → 0 < st.made → in_place (unfixed st.words) st ≡ placed st
unfolding placed
placed_is st l = go st.made refl l
  where
    go : (k : ℕ) → st.made ≡ k → 0 < k → in_place (unfixed st.words) st ≡ placed_by k st
    go zero e l = absurd (omega arith)
    go (suc k) e l = λ i. record {
      kind = st.kind;
      stage = st.stage;
      classes = st.classes;
      words = placed_words (unfixed st.words) (e i) st.words;
      names = written_names (unfixed st.words) (e i) st.names;
      program_rules = map (rename (placing (unfixed st.words) (length st.names) (e i))) st.program_rules;
      made = 0;
    }

-- what is written behind the header's words, with room for it
filled_behind : {before after w : List ℕ} {end : ℕ} → Emitted before 4 w after end → 4 + length w ≤ length before → Filled after 4 end w
filled_behind {before} {after} {w} p l = record {
  front = take 4 before;
  rest = drop (4 + length w) before;
  is = p.bytes ∙ sets-eq w before 4 l;
  before = length-take-le 4 before (omega arith);
  ends = p.place;
}

-- what is written at the front
stored_front : {before after w : List ℕ} {end : ℕ} → Emitted before 0 w after end → length w ≤ length before → w ++ drop (length w) after ≡ after
stored_front {before} {after} {w} p l =
    let is : after ≡ w ++ drop (0 + length w) before = p.bytes ∙ sets-eq w before 0 (omega arith) in
    ap (λ b. w ++ drop (length w) b) is ∙ ap (λ b. w ++ b) (drop-append_seam w (drop (0 + length w) before)) ∙ sym is

module _ {g : Gathered} {words bytes : List ℕ} (h : Held Preference (state_of Preference g words bytes) g words bytes) (u : Unplaced (state_of Preference g words bytes)) where
  abbrev st : SoFar
  st = state_of Preference g words bytes

  abbrev n : ℕ
  n = g.counts.atoms

  abbrev k : ℕ
  k = g.made

  all_few : n + k ≤ atom_limit Preference
  all_few = omega (arith, u.few, atoms_is h, h.made_is)

  pub atoms_fit : n + k < 65536
  atoms_fit = omega (arith, all_few)

  fits : (g.counts.rules ≤ 1024) × (g.counts.occurrences ≤ 8192)
  fits = let l = within_limits Preference g.counts h.counts_fit in (l.rules, l.occurrences)

  -- the names, as the code takes them

  pub used_inside : g.bytes ≤ length bytes
  used_inside = omega (arith, (held_small h).bytes, h.bytes_room)

  name_part : take g.bytes bytes ≡ encode_names st.names
  name_part = ap (take g.bytes) (sym h.names_stored) ∙ take_at (encode_names st.names) (drop (length (encode_names st.names)) bytes) g.bytes (sym h.bytes_is)

  module _ {q : ℕ} (e : q ≡ unfixed (class_part n words)) where
    first_is : q ≡ unfixed st.words
    first_is = e ∙ ap unfixed (class_part_lem h)

    few_first : q ≤ n
    few_first = omega (arith, first_is, unfixed_le st.words, h.class_words_lem)

    pub numbers_ready : {m : ℕ} → m ≡ atom_limit Preference → (q ≤ n) × (n + k ≤ atom_limit Preference) × (n + k ≤ m)
    numbers_ready r = (few_first, all_few, omega (arith, all_few))

    classes_length : length (class_part n words) ≡ n
    classes_length = ap length (class_part_lem h) ∙ h.class_words_lem

    few_classes_lem : q ≤ length (class_part n words)
    few_classes_lem = omega (arith, few_first, classes_length)

    classes_long : length (placed_words q k (class_part n words)) ≡ n + k
    classes_long = words_length q k (class_part n words) few_classes_lem ∙ ap (λ m. m + k) classes_length

    pub classes_ready : (q ≤ length (class_part n words)) × InRange 4 (placed_words q k (class_part n words))
    classes_ready = (few_classes_lem, record { below = omega (arith, classes_long, all_few) })

    names_inside : q ≤ length st.names
    names_inside = omega (arith, few_first, atoms_is h)

    made_long : length (encode_names (written_names q k st.names)) ≤ 27 * (n + k)
    made_long = omega (arith, names_long q st.names names_inside k, names_short k, h.bytes_is, h.short)

    names_are : placed_names q k (take g.bytes bytes) ≡ encode_names (written_names q k st.names)
    names_are = ap (placed_names q k) name_part ∙ names_placed q st.names names_inside k

    pub names_ready : AtFront q (take g.bytes bytes) × (k ≤ atom_limit Preference) × InRange 0 (placed_names q k (take g.bytes bytes))
    names_ready = (
      subst (AtFront q) (sym name_part) (at_front q st.names names_inside),
      omega (arith, all_few),
      record { below = omega (arith, made_long, all_few, ap length names_are) },
    )

    -- the rules

    rules_count : length (in_place q st).program_rules ≡ g.counts.rules
    rules_count = length-map st.program_rules (rename (placing q (length st.names) st.made)) ∙ sym (rules_is h)

    places_count : sum occurrences (in_place q st).program_rules ≡ g.counts.occurrences
    places_count = rename_occurrences (placing q (length st.names) st.made) st.program_rules ∙ sym (occurrences_is h)

    module _ (numbers : List ℕ) (room : length numbers ≡ atom_limit Preference) (f : (a : ℕ) → a < n + k → get_or numbers a 0 ≡ placing q n k a) where
      abbrev moved : List ℕ
      moved = flat (moved_words numbers) (rules_from g.counts.rules (rule_part n words))

      pub rules_there : StoredRules (length numbers) g.counts.rules (rule_part n words)
      rules_there = rules_stored h (length numbers) (more_inside st.program_rules u.inside (omega (arith, room, u.few)))

      numbers_are : map (rename (λ a. get_or numbers a 0)) st.program_rules ≡ map (rename (placing q (length st.names) st.made)) st.program_rules
      numbers_are = rename_same (λ a. get_or numbers a 0) (placing q (length st.names) st.made) st.program_rules
          (within_imp (λ a. a < length st.names + st.made) _ (λ a l. f a (omega (arith, atoms_is h, h.made_is)) ∙ ap₂ (λ m j. placing q m j a) (atoms_is h) h.made_is) st.program_rules u.inside)

      moved_are : moved ≡ flat rule_words (in_place q st).program_rules
      moved_are =
          ap (flat (moved_words numbers)) (rule_part_lem h)
          ∙ sym (flat_map rule_words (rename (λ a. get_or numbers a 0)) st.program_rules)
          ∙ ap (flat rule_words) numbers_are

      moved_long : length moved ≡ 3 * g.counts.rules + g.counts.occurrences
      moved_long = omega (arith, ap length moved_are, rules_length (in_place q st).program_rules, rules_count, places_count)

      words_are : placed_words q k (class_part n words) ++ moved ≡ stored_words (in_place q st)
      words_are = ap₂ (λ (a b : List ℕ). a ++ b) (ap₂ (placed_words q) h.made_is (class_part_lem h)) moved_are

      module _ {d d₁ : List ℕ} {classed : ℕ} (a : Emitted d 4 (placed_words q k (class_part n words)) d₁ classed) where
        pub moved_range : InRange classed moved
        moved_range = record { below = omega (arith, a.place, classes_long, all_few, moved_long, fits.0, fits.1) }

        module _ {d₂ : List ℕ} {filled : ℕ} (b : Emitted d₁ classed moved d₂ filled) (room-d : length d ≡ store_words)
            {c c' : List ℕ} {named : ℕ} (s : Emitted c 0 (placed_names q k (take g.bytes bytes)) c' named) (room-c : length c ≡ store_bytes) where
          abbrev after : Gathered
          after = record {
            stage = g.stage;
            classes = g.classes;
            counts = record { atoms = n + k; rules = g.counts.rules; occurrences = g.counts.occurrences };
            made = 0;
            words = filled;
            bytes = named;
          }

          names_written : Emitted c 0 (encode_names (in_place q st).names) c' named
          names_written = renamed s (names_are ∙ ap (λ j. encode_names (written_names q j st.names)) h.made_is)

          names_few : length (encode_names (in_place q st).names) ≤ 27 * (n + k)
          names_few = subst (λ j. length (encode_names (written_names q j st.names)) ≤ 27 * (n + k)) h.made_is made_long

          atoms_are : n + k ≡ length (in_place q st).names
          atoms_are = sym (written_length q st.made st.names names_inside ∙ ap₂ ◌+◌ (sym (atoms_is h)) (sym h.made_is))

          held : Held Preference (in_place q st) after d₂ c'
          held = record {
            kind_is = h.kind_is;
            stage_is = h.stage_is;
            classes_is = h.classes_is;
            counts_are = λ i. record { atoms = atoms_are i; rules = sym rules_count i; occurrences = sym places_count i };
            made_is = refl;
            class_words_lem = words_length q st.made st.words (omega (arith, few_first, h.class_words_lem)) ∙ ap₂ ◌+◌ h.class_words_lem (sym h.made_is);
            stored = filled_behind (renamed (then a b) words_are) (omega (arith, ap length words_are, length-append (placed_words q k (class_part n words)) moved, classes_long, moved_long, all_few, fits.0, fits.1, room-d));
            names_allowed = written_allowed q st.made st.names (omega (arith, u.few)) h.names_allowed;
            names_stored = stored_front names_written (omega (arith, names_few, all_few, room-c));
            bytes_is = names_written.place ∙ zero-add (length (encode_names (in_place q st).names));
            short = omega (arith, names_written.place, names_few);
            counts_fit = limits_within {kind = Preference} (record { atoms = all_few; rules = fits.0; occurrences = fits.1 });
            classes_fit = h.classes_fit;
            made_fits = omega arith;
            made_kind = λ z. refl;
            no_rules = λ z. ap (map (rename (placing q (length st.names) st.made))) (h.no_rules z);
            words_room = same_length (then a b) ∙ room-d;
            bytes_room = same_length s ∙ room-c;
          }

          pub held_placed : Held Preference (placed st) after d₂ c'
          held_placed = subst (λ z. Held Preference z after d₂ c') (ap (λ p. in_place p st) first_is ∙ placed_is st u.one) held
