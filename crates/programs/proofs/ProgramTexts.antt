-- The two programs: from what the lines of a text say to what is printed.
use Prim.Native.Nat.{ℕ, ◌-◌, ◌*◌, ◌≤◌, ◌<◌}
use native.Mathlib.Omega.{arith}
use mathlib.Core.Path.{◌≡◌, refl, sym, ap, ap₂, ◌∙◌, subst}
use mathlib.Core.Bool.{Bool, true, false, cond}
use mathlib.Core.List.{List}
use lib.Dec.{T, leb}
use lib.ListN.{length, get_or, take, drop, length-append}
use borrow.Author.Tests.{le-leb, lt-leb, leb-true, leb-false, eq-eqb, ne_eqb}
use Rattle.std.specs.Prelude.{Result, Ok, Err}
use Rattle.kinds.specs.Sizes.{longest_name, longest_entry, store_words, store_bytes}
use Rattle.kinds.specs.Limits.{stream_limit, walk_atoms, atom_limit}
use Rattle.kinds.specs.declared.limits.Kind.{Kind}
use Rattle.kinds.specs.declared.limits.Kind.TheVariants.{Plain, Preference}
use Rattle.kinds.specs.declared.refusals.Refusal.{Refusal}
use Rattle.kinds.specs.declared.refusals.Refusal.TheVariants.{TextTooLong, Output, RuleStore, TooManyAtoms}
use Rattle.rules.specs.Lists.{over}
use Rattle.rules.proofs.Lists.{all_imp}
use Rattle.stores.specs.Program.{Program, ProgramForm}
use Rattle.stores.specs.RuleStore.{StoreOf, encode, decode}
use Rattle.names.specs.Names.{allowed}
use Rattle.name_store.specs.NameStore.{encode_names, decode_names, NamesForm, NamesOf}
use Rattle.stores.proofs.RuleStores.{decode_encode, words_fit}
use Rattle.name_store.proofs.NameStores.{allowed_short, decode_names_lem, encoded_length}
use Rattle.answers.specs.declared.ReadSizes.{ReadSizes}
use Rattle.answers.specs.declared.ReadRefusal.{ReadRefusal}
use Rattle.answers.specs.Writing.{fitted, written_bytes}
use Rattle.lines.specs.Said.{Said, accepted, refused, said}
use Rattle.answers.specs.Reading.{read_refusal, read_answer, read_rules, read_names, answer_of}
use Rattle.reader.proofs.RoundTrip.{accepted_form}
use Rattle.translated.specs.PreferenceStore.{PreferenceStore}
use Rattle.answers.specs.Translating.{translation_text, stores_translation}
use Rattle.answers.specs.Printed.{refused_text}
use Rattle.answers.specs.Listed.{whole_listing, streamed, states_of}
use Rattle.answers.specs.Programs.{of_kind, on_said, printed, translation_of, translate_printed, states_printed}
use Rattle.programs.specs.ReadStores.{ReadStores, on_stores, printer}
use Rattle.answers.proofs.AcceptedTexts.{Filled, never, filled, reads_as, front}
use Rattle.text.proofs.TextParts.{store_header}
use Rattle.printing.proofs.PrintedLines.{refused_short}

-- the longest stores

pub bytes_fit : (p : Program) (names : List (List ℕ)) → ProgramForm p → NamesForm p.kind p.atoms names → length (encode_names names) ≤ store_bytes
bytes_fit p names f g = by_kind p.kind f.atoms_fit
  where
    short : length (encode_names names) ≤ longest_entry * p.atoms
    short = omega (arith, encoded_length names (all_imp (λ x. T (allowed p.kind x)) (λ x. length x ≤ longest_name) (allowed_short p.kind) names g.all_allowed), g.count)

    by_kind : (k : Kind) → p.atoms ≤ atom_limit k → length (encode_names names) ≤ store_bytes
    by_kind Plain l = omega (arith, short)
    by_kind Preference l = omega (arith, short)

-- a text against the room for it

module _ (text before : List ℕ) {answer : Result ℕ Refusal} (a : answer ≡ fitted text (length before)) where
  room_for : {k : ℕ} → answer ≡ Ok k → (k ≡ length text) × (length text ≤ length before)
  room_for {k} e = by_room (leb (length text) (length before)) refl (sym a ∙ e)
    where
      by_room : (b : Bool) → leb (length text) (length before) ≡ b → ◌≡◌ {A = Result ℕ Refusal} (cond b (Ok (length text)) (Err Output)) (Ok k) → (k ≡ length text) × (length text ≤ length before)
      by_room true f r = ((let z : length text ≡ k = cc in sym z), leb-true _ _ f)
      by_room false f r = never (cc)

  no_room : {g : Refusal} → answer ≡ Err g → (g ≡ Output) × (length before < length text)
  no_room {g} e = by_room (leb (length text) (length before)) refl (sym a ∙ e)
    where
      by_room : (b : Bool) → leb (length text) (length before) ≡ b → ◌≡◌ {A = Result ℕ Refusal} (cond b (Ok (length text)) (Err Output)) (Err g) → (g ≡ Output) × (length before < length text)
      by_room true f r = never (cc)
      by_room false f r = ((let z : Output ≡ g = cc in sym z), leb-false _ _ f)

-- on two stores as they were read

module _ {rules names : List ℕ} (h : ReadStores rules names) where
  pub header : 4 ≤ length rules
  header = store_header h.store

  pub plain_refused : (f : Program → List (List ℕ) → List ℕ) → get_or rules 0 0 ≡ 0 → refused_text RuleStore 0 ≡ on_stores f rules names
  unfolding on_stores decode
  plain_refused f e = rw (eq-eqb (get_or rules 0 0) 0 e)

  module _ (e : get_or rules 0 0 ≡ 0 → ⊥) where
    preference : (decode rules).kind ≡ Preference
    unfolding decode
    preference = rw (ne_eqb (get_or rules 0 0) 0 e)

    pub preference_store : PreferenceStore rules
    preference_store = record { store = h.store; kind = preference }

    pub preference_names : NamesOf names Preference (decode rules).atoms (decode_names (decode rules).atoms names)
    preference_names = subst (λ (k : Kind). NamesOf names k (decode rules).atoms (decode_names (decode rules).atoms names)) preference h.named

    on_preference : (f : Program → List (List ℕ) → List ℕ) → f (decode rules) (decode_names (decode rules).atoms names) ≡ on_stores f rules names
    unfolding on_stores
    on_preference f = sym (ap (λ (k : Kind). of_kind k (f (decode rules) (decode_names (decode rules).atoms names))) preference)

    module _ {listed : Bool} where
      pub by_lister : listed ≡ true → states_of (decode rules) (decode_names (decode rules).atoms names) ≡ on_stores (printer listed) rules names
      by_lister e = on_preference states_of ∙ ap (λ (b : Bool). on_stores (printer b) rules names) (sym e)

      pub by_translator : listed ≡ false → translation_of (decode rules) (decode_names (decode rules).atoms names) ≡ on_stores (printer listed) rules names
      by_translator e = on_preference translation_of ∙ ap (λ (b : Bool). on_stores (printer b) rules names) (sym e)

-- what the translator leaves in its scratch

module _ (rules names : List ℕ) where
  abbrev translation : List ℕ
  translation = stores_translation rules names

  abbrev shown_translation : List ℕ
  shown_translation = translation_of (decode rules) (decode_names (decode rules).atoms names)

  translation_of_lem : (b : Bool) → leb (length translation) stream_limit ≡ b → cond b translation (refused_text Output 0) ≡ shown_translation
  unfolding stores_translation
  translation_of_lem b f = ap (λ (x : Bool). cond x translation (refused_text Output 0)) (sym f)

  module _ (before : List ℕ) (room : length before ≡ stream_limit) {answer : Result ℕ Refusal} (a : answer ≡ fitted translation (length before)) where
    pub translation_refused : {g : Refusal} → answer ≡ Err g → refused_text g 0 ≡ shown_translation
    translation_refused r =
        let n = no_room translation before a r in
        let l = n.1 in
        ap (λ (x : Refusal). refused_text x 0) n.0 ∙ translation_of_lem false (lt-leb (length translation) stream_limit (omega arith))

    module _ {after : List ℕ} {k : ℕ} (w : after ≡ over (written_bytes (fitted translation (length before)) translation) before) (r : answer ≡ Ok k) where
      output_is : after ≡ over translation before
      output_is = w ∙ ap (λ (x : Result ℕ Refusal). over (written_bytes x translation) before) (sym a ∙ r)

      pub translation_fits : k ≤ length after
      translation_fits = omega (arith, (room_for translation before a r).0, ap length output_is ∙ length-append translation (drop (length translation) before))

      pub translation_is : take k after ≡ shown_translation
      translation_is =
          let n = room_for translation before a r in
          let l = n.1 in
          ap₂ (λ (n : ℕ) (l : List ℕ). take n l) n.0 output_is ∙ front translation before ∙ translation_of_lem true (le-leb (length translation) stream_limit (omega arith))

-- the stores that the reader fills

module _ (text rules names : List ℕ) {answer : Result ReadSizes ReadRefusal} (a : answer ≡ read_answer text (length rules) (length names)) {rules' names' : List ℕ} {sizes : ReadSizes} (e : answer ≡ Ok sizes) (u : rules' ≡ read_rules text rules names) (v : names' ≡ read_names text rules names) where
  read_as : Filled text (length rules) (length names) sizes.words sizes.bytes
  read_as = filled text (length rules) (length names) sizes.words sizes.bytes (sym a ∙ e)

  abbrev p : Program
  p = read_as.program

  abbrev atom_names : List (List ℕ)
  atom_names = read_as.atom_names

  rules_are : rules' ≡ over (encode p) rules
  rules_are = u ∙ (reads_as text p atom_names read_as.lines).rules_filled rules names read_as.rules_room read_as.names_room

  names_are : names' ≡ over (encode_names atom_names) names
  names_are = v ∙ (reads_as text p atom_names read_as.lines).names_filled rules names read_as.rules_room read_as.names_room

  pub rules_part : sizes.words ≤ length rules'
  rules_part = omega (arith, read_as.words_are, ap length rules_are ∙ length-append (encode p) (drop (length (encode p)) rules))

  pub names_part : sizes.bytes ≤ length names'
  names_part = omega (arith, read_as.bytes_are, ap length names_are ∙ length-append (encode_names atom_names) (drop (length (encode_names atom_names)) names))

  rules_taken : take sizes.words rules' ≡ encode p
  rules_taken =
      ap₂ (λ (n : ℕ) (l : List ℕ). take n l) read_as.words_are rules_are ∙ front (encode p) rules

  names_taken : take sizes.bytes names' ≡ encode_names atom_names
  names_taken =
      ap₂ (λ (n : ℕ) (l : List ℕ). take n l) read_as.bytes_are names_are ∙ front (encode_names atom_names) names

  form : ProgramForm p × NamesForm p.kind p.atoms atom_names
  form = accepted_form text p atom_names read_as.lines

  same : decode (encode p) ≡ p
  same = decode_encode p form.0

  stores_are : ReadStores (encode p) (encode_names atom_names)
  stores_are = record {
    store = subst (StoreOf (encode p)) (sym same) (record { form = form.0; words = refl });
    named = subst (λ (q : Program). NamesOf (encode_names atom_names) q.kind q.atoms (decode_names q.atoms (encode_names atom_names))) (sym same)
        (subst (NamesOf (encode_names atom_names) p.kind p.atoms) (sym (decode_names_lem form.1)) (record { form = form.1; bytes = refl }));
  }

  pub read_stores : ReadStores (take sizes.words rules') (take sizes.bytes names')
  read_stores = rw (rules_taken, names_taken) stores_are

  on_program : (f : Program → List (List ℕ) → List ℕ) → on_stores f (encode p) (encode_names atom_names) ≡ of_kind p.kind (f p atom_names)
  unfolding on_stores
  on_program f = rw (same, decode_names_lem form.1)

  -- a program that prints f of an accepted preference file
  pub accepted_text : (f : Program → List (List ℕ) → List ℕ) → length text ≤ stream_limit → on_stores f (take sizes.words rules') (take sizes.bytes names') ≡ printed f text
  unfolding printed
  accepted_text f l = ap₂ (on_stores f) rules_taken names_taken ∙ on_program f ∙ sym (rw (le-leb (length text) stream_limit l, read_as.lines))

module _ (f : Program → List (List ℕ) → List ℕ) (text : List ℕ) where
  pub long_text : stream_limit < length text → refused_text TextTooLong 0 ≡ printed f text
  unfolding printed
  long_text l = rw (lt-leb (length text) stream_limit l)

  module _ (l : length text ≤ stream_limit) (rules names : List ℕ) (words : store_words ≤ length rules) (bytes : store_bytes ≤ length names) {answer : Result ReadSizes ReadRefusal} (a : answer ≡ read_answer text (length rules) (length names)) where
    said_refused : (g : Refusal) (k : ℕ) → said text ≡ refused g k → read_answer text (length rules) (length names) ≡ Err (read_refusal g k)
    unfolding read_answer
    said_refused g k e = ap (λ (s : Said). answer_of s (length rules) (length names)) e

    printed_refused : (g : Refusal) (k : ℕ) → said text ≡ refused g k → printed f text ≡ refused_text g k
    unfolding printed
    printed_refused g k e = rw (le-leb (length text) stream_limit l, e)

    pub refused_text_lem : {r : ReadRefusal} → answer ≡ Err r → refused_text r.refusal r.line ≡ printed f text
    refused_text_lem {r} e = by_said (said text) refl
      where
        by_said : (s : Said) → said text ≡ s → refused_text r.refusal r.line ≡ printed f text
        by_said (accepted q ns) said-so =
            let g = accepted_form text q ns said-so in
            let k = (reads_as text q ns said-so).answer rules names (omega (arith, words_fit q g.0)) (omega (arith, bytes_fit q ns g.0 g.1)) in
            never (cc)
        by_said (refused g k) said-so =
            let y : ◌≡◌ {A = Result ReadSizes ReadRefusal} (Err r) (Err (read_refusal g k)) = sym e ∙ a ∙ said_refused g k said-so in
            let z : r ≡ read_refusal g k = cc in
            ap (λ (x : ReadRefusal). refused_text x.refusal x.line) z ∙ sym (printed_refused g k said-so)

-- what is printed is never longer than an output of the programs

streamed_short : (text : List ℕ) → length (streamed text) ≤ stream_limit
streamed_short text = go (leb (length text) stream_limit) refl
  where
    go : (b : Bool) → leb (length text) stream_limit ≡ b → length (cond b text (refused_text Output 0)) ≤ stream_limit
    go true e = leb-true _ _ e
    go false e = omega (arith, refused_short Output 0)

printed_short : (f : Program → List (List ℕ) → List ℕ) → ((p : Program) (names : List (List ℕ)) → length (f p names) ≤ stream_limit) → (text : List ℕ) → length (printed f text) ≤ stream_limit
unfolding printed
printed_short f h text = by_length_lem (leb (length text) stream_limit)
  where
    by_kind : (k : Kind) (p : Program) (names : List (List ℕ)) → length (of_kind k (f p names)) ≤ stream_limit
    by_kind Plain p names = omega (arith, refused_short RuleStore 0)
    by_kind Preference p names = h p names

    by_said : (s : Said) → length (on_said s f) ≤ stream_limit
    by_said (accepted p names) = by_kind p.kind p names
    by_said (refused r line) = omega (arith, refused_short r line)

    by_length_lem : (b : Bool) → length (cond b (on_said (said text) f) (refused_text TextTooLong 0)) ≤ stream_limit
    by_length_lem true = by_said (said text)
    by_length_lem false = omega (arith, refused_short TextTooLong 0)

pub translate_short : (text : List ℕ) → length (translate_printed text) ≤ stream_limit
unfolding translate_printed
translate_short text = printed_short translation_of (λ p names. streamed_short (translation_text p names)) text

pub states_short : (text : List ℕ) → length (states_printed text) ≤ stream_limit
unfolding states_printed states_of
states_short text = printed_short states_of few text
  where
    go : (p : Program) (names : List (List ℕ)) (b : Bool) → length (cond b (streamed (whole_listing p names)) (refused_text TooManyAtoms 0)) ≤ stream_limit
    go p names true = streamed_short (whole_listing p names)
    go p names false = omega (arith, refused_short TooManyAtoms 0)

    few : (p : Program) (names : List (List ℕ)) → length (states_of p names) ≤ stream_limit
    few p names = go p names (leb p.atoms walk_atoms)
