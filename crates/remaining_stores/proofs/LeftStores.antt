-- The two stores of what is left of a held preference program.
use Prim.Native.Nat.{ℕ, zero, suc, ◌+◌, ◌-◌, ◌≤◌, ◌<◌}
use native.Mathlib.Omega.{arith}
use mathlib.Core.Path.{◌≡◌, refl, sym, ap, ap₂, ◌∙◌}
use mathlib.Core.Bool.{Bool, true, false}
use mathlib.Core.List.{List, [], ◌∷◌, ◌++◌, map}
use lib.ListN.{length, get_or, drop, length-append, length-map}
use lib.Seq.{drop-cons}
use Rattle.kinds.specs.declared.limits.Kind.{Kind}
use Rattle.kinds.specs.declared.limits.Kind.TheVariants.{Preference}
use Rattle.kinds.specs.declared.refusals.Refusal.TheVariants.{Output}
use Rattle.rules.specs.Lists.{keep, filter, flat, from}
use Rattle.rules.specs.Rules.{Rule, rename}
use Rattle.rules.proofs.Lists.{length_from}
use Rattle.rules.proofs.Filtered.{filter_length}
use Rattle.rules.proofs.ListLaws.{flat_map}
use Rattle.rules.proofs.Rules.{rename_occurrences}
use Rattle.name_store.specs.NameStore.{name_bytes, encode_names, decode_names}
use Rattle.stores.specs.Program.{Program}
use Rattle.stores.specs.RuleStore.{rule_words, rules_from, encode}
use Rattle.stores.specs.StoredRules.{StoredRules}
use Rattle.stores.proofs.RuleStores.{rules_length}
use Rattle.output.specs.Emitted.{Emitted, InRange}
use Rattle.output.proofs.Emitting.{then, renamed}
use Rattle.lines.specs.Faults.{SoFar}
use Rattle.lines.specs.Said.{program_of}
use Rattle.std.specs.Prelude.{Ok, Err}
use Rattle.answers.specs.Reading.{read_sizes, read_refusal}
use Rattle.restriction.specs.Atoms.{is_used, used, renumbered, entries}
use Rattle.restriction.specs.Remaining.{restrict, left, remaining_of, remaining_names_of, remaining, remaining_names}
use Rattle.gathering.specs.declared.gathered.Gathered.{Gathered}
use Rattle.gathering.specs.Gathered.{state_of, Held}
use Rattle.gathering.proofs.HeldState.{atoms_is, rules_is, held_small}
use Rattle.delivery.specs.Delivered.{Delivered}
use Rattle.delivery.proofs.Fitting.{rules_short, names_short, both_written}
use Rattle.used_atoms.specs.Marks.{marked}
use Rattle.remaining_stores.specs.Tables.{Tables}
use Rattle.used_atoms.proofs.RuleParts.{moved_words}
use Rattle.remaining_stores.proofs.HeldRules.{class_part, rule_part, class_part_lem, rule_part_lem, rules_stored}
use Rattle.remaining_stores.proofs.Tabling.{more_inside}

-- rules keep their length

moved_length : (f : ℕ → ℕ) (rs : List (Rule ℕ)) → length (flat rule_words (map (rename f) rs)) ≡ length (flat rule_words rs)
moved_length f rs = omega (arith, rules_length (map (rename f) rs), rules_length rs, length-map rs (rename f), rename_occurrences f rs)

-- some names take no more room than all

some_names : (t : ℕ → Bool) (names : List (List ℕ)) (s c : ℕ) → s + c ≡ length names → length (encode_names (entries [] names (filter t (from s c)))) ≤ length (encode_names (drop s names))
unfolding encode_names
some_names t names s zero e = omega arith
some_names t names s (suc c) e =
    let rest = entries [] names (filter t (from (suc s) c)) in
    let more : length (encode_names (drop s names)) ≡ length (name_bytes (get_or names s [])) + length (encode_names (drop (suc s) names)) =
    ap (λ (l : List (List ℕ)). length (encode_names l)) (drop-cons names s [] (omega arith)) ∙ length-append (name_bytes (get_or names s [])) (encode_names (drop (suc s) names)) in
    go (t s) (some_names t names (suc s) c (omega arith)) more
  where
    go : (b : Bool)
        → length (encode_names (entries [] names (filter t (from (suc s) c)))) ≤ length (encode_names (drop (suc s) names))
        → length (encode_names (drop s names)) ≡ length (name_bytes (get_or names s [])) + length (encode_names (drop (suc s) names))
        → length (encode_names (entries [] names (keep b s (filter t (from (suc s) c))))) ≤ length (encode_names (drop s names))
    go true h m = omega (arith, length-append (name_bytes (get_or names s [])) (encode_names (entries [] names (filter t (from (suc s) c)))))
    go false h m = omega arith

module _ {g : Gathered} {words bytes : List ℕ} (h : Held Preference (state_of Preference g words bytes) g words bytes)
    {marks : List Bool} {numbers : List ℕ} {count : ℕ} (t : Tables (program_of (state_of Preference g words bytes)) marks numbers count) where
  abbrev st : SoFar
  st = state_of Preference g words bytes

  abbrev p : Program
  p = program_of st

  abbrev n : ℕ
  n = g.counts.atoms

  -- the words that the code writes
  abbrev header : List ℕ
  header = 1 ∷ count ∷ g.classes ∷ g.counts.rules ∷ []

  abbrev classes : List ℕ
  classes = entries 0 (class_part n words) (marked (length (class_part n words)) marks)

  abbrev moved : List ℕ
  moved = flat (moved_words numbers) (rules_from g.counts.rules (rule_part n words))

  abbrev names : List ℕ
  names = encode_names (entries [] (decode_names n bytes) (marked n marks))

  pub few : count ≤ n
  unfolding used
  few = omega (arith, t.count_is, atoms_is h, filter_length (is_used p.rules) (from 0 p.atoms), length_from 0 p.atoms)

  pub marks_there : n ≤ length marks
  marks_there = omega (arith, atoms_is h, t.marks_room)

  classes_length : length (class_part n words) ≡ p.atoms
  classes_length = ap length (class_part_lem h) ∙ h.class_words_lem ∙ atoms_is h

  pub classes_there : length (class_part n words) ≤ length marks
  classes_there = omega (arith, classes_length, t.marks_room)

  classes_are : classes ≡ entries 0 st.words (left p)
  classes_are = ap₂ (entries 0) (class_part_lem h) (ap (λ (k : ℕ). marked k marks) classes_length ∙ t.marks_are)

  moved_are : moved ≡ flat rule_words (renumbered (left p) p.rules)
  moved_are = ap (flat (moved_words numbers)) (rule_part_lem h) ∙ sym (flat_map rule_words (rename (λ a. get_or numbers a 0)) p.rules) ∙ ap (flat rule_words) t.numbers_are

  words_are : header ++ (classes ++ moved) ≡ encode (remaining p)
  unfolding encode remaining restrict state_of
  words_are =
      (λ i. 1 ∷ t.count_is i ∷ h.classes_is i ∷ (rules_is h ∙ sym (length-map p.rules (rename (λ a. get_or numbers a 0))) ∙ ap length t.numbers_are) i ∷ (classes_are i ++ moved_are i))
      ∙ ap (λ (k : Kind). encode (remaining_of k p)) (sym h.kind_is)

  moved_long : length moved ≡ length (flat rule_words p.rules)
  moved_long = ap length (moved_are ∙ ap (flat rule_words) (sym t.numbers_are)) ∙ moved_length (λ a. get_or numbers a 0) p.rules

  classes_long : length classes ≡ count
  classes_long = ap length classes_are ∙ length-map (left p) (λ a. get_or st.words a 0) ∙ sym t.count_is

  stored_long : g.words ≡ 4 + (n + length (flat rule_words p.rules))
  stored_long = omega (arith, h.stored.ends, length-append st.words (flat rule_words p.rules), h.class_words_lem)

  pub words_long : length (encode (remaining p)) ≡ g.words - (n - count)
  words_long = omega (arith, ap length words_are, length-append classes moved, moved_long, classes_long, stored_long, few)

  pub header_small : (count < 65536) × (g.classes < 65536) × (g.counts.rules < 65536)
  header_small = let s = held_small h in (omega (arith, s.atoms, few), omega (arith, h.classes_fit), omega (arith, s.rules))

  pub left_over : n - count ≤ g.words
  left_over = omega (arith, stored_long)

  module _ {d d₁ : List ℕ} {headed : ℕ} (a : Emitted d 0 header d₁ headed) where
    pub classes_range : InRange headed classes
    classes_range = record { below = omega (arith, a.place, classes_long, few, (held_small h).atoms) }

    module _ {d₂ : List ℕ} {classed : ℕ} (b : Emitted d₁ headed classes d₂ classed) where
      pub moved_range : InRange classed moved
      moved_range = record { below = omega (arith, a.place, b.place, classes_long, few, moved_long, stored_long, (held_small h).words) }

      pub left_written : {d₃ : List ℕ} {end : ℕ} → Emitted d₂ classed moved d₃ end → Emitted d 0 (encode (remaining p)) d₃ end
      left_written c = renamed (then a (then b c)) words_are

  pub rules_there : StoredRules (length numbers) g.counts.rules (rule_part n words)
  rules_there = rules_stored h (length numbers) (more_inside p.rules t.inside t.numbers_room)

  -- the names

  pub names_stored : encode_names (decode_names n bytes) ++ drop (length (encode_names (decode_names n bytes))) bytes ≡ bytes
  unfolding state_of
  names_stored = h.names_stored

  names_here : decode_names n bytes ≡ st.names
  unfolding state_of
  names_here = refl

  names_are : names ≡ encode_names (remaining_names p st.names)
  unfolding remaining_names
  names_are =
      ap₂ (λ (l : List (List ℕ)) (xs : List ℕ). encode_names (entries [] l xs)) names_here (ap (λ (k : ℕ). marked k marks) (atoms_is h) ∙ t.marks_are)
      ∙ ap (λ (k : Kind). encode_names (remaining_names_of k p st.names)) (sym h.kind_is)

  pub names_range : InRange 0 names
  unfolding marked
  names_range = record {
    below =
        let e : 0 + n ≡ length (decode_names n bytes) = omega (arith, atoms_is h, ap length names_here) in
        omega (arith, some_names (λ a. get_or marks a false) (decode_names n bytes) 0 n e, ap (λ (l : List (List ℕ)). length (encode_names l)) names_here, h.bytes_is, (held_small h).bytes);
  }

  -- both

  module _ {none none' : List ℕ} {used : ℕ} (u : Emitted none 0 names none' used) (rules out : List ℕ) where
    names_long : length (encode_names (remaining_names p st.names)) ≡ used
    names_long = omega (arith, u.place, ap length names_are)

    pub rules_lack : length rules < g.words - (n - count) → Delivered (remaining p) (remaining_names p st.names) rules out rules out (Err (read_refusal Output 0))
    rules_lack l = rules_short (remaining p) (remaining_names p st.names) words_long names_long rules out l

    pub names_lack : length out < used → Delivered (remaining p) (remaining_names p st.names) rules out rules out (Err (read_refusal Output 0))
    names_lack l = names_short (remaining p) (remaining_names p st.names) words_long names_long rules out l

    pub left_delivered : g.words - (n - count) ≤ length rules → used ≤ length out
        → {rules' : List ℕ} {x : ℕ} → Emitted rules 0 (encode (remaining p)) rules' x
        → {out' : List ℕ} {y : ℕ} → Emitted out 0 names out' y
        → Delivered (remaining p) (remaining_names p st.names) rules out rules' out' (Ok (read_sizes (g.words - (n - count)) used))
    left_delivered l m v w = both_written (remaining p) (remaining_names p st.names) words_long names_long rules out l m v (renamed w names_are)
