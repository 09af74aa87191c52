-- What the translator answers and leaves, from what its parts did.
use Prim.Native.Nat.{ℕ, ◌≤◌}
use native.Mathlib.Omega.{arith}
use mathlib.Core.Path.{◌≡◌, refl, sym, ap, ap₂, ◌∙◌, subst}
use mathlib.Core.Bool.{Bool, true, false}
use mathlib.Core.List.{List}
use lib.Dec.{T}
use lib.ListN.{length, get_or, take}
use Rattle.std.specs.Prelude.{Some, None, Result, Err}
use Rattle.kinds.specs.Sizes.{store_words, store_bytes}
use Rattle.kinds.specs.declared.limits.Kind.TheVariants.{Plain, Preference}
use Rattle.kinds.specs.declared.refusals.Refusal.{Refusal}
use Rattle.kinds.specs.declared.refusals.Refusal.TheVariants.{RuleStore, NameStore}
use Rattle.stores.specs.Program.{Program, ProgramForm}
use Rattle.stores.specs.RuleStore.{StoreOf, encode, decode, rule_store, is_of}
use Rattle.name_store.specs.NameStore.{NamesForm, NamesOf, encode_names, decode_names, are_names}
use Rattle.name_store.proofs.NameStores.{decode_names_lem, decoded_names}
use Rattle.stores.proofs.RuleStores.{decode_encode, of_kind_lem}
use Rattle.pairing.specs.Translated.{translated, translated_names}
use Rattle.pairing.proofs.PlainForm.{plain_form}
use Rattle.pairing.proofs.PlainNames.{plain_names}
use Rattle.text.specs.Text.{text_of}
use Rattle.output.specs.Emitted.{Emitted}
use Rattle.output.proofs.Emitting.{front_inside, front_is}
use Rattle.answers.specs.Writing.{fitted, stores_text}
use Rattle.writer.specs.Fitted.{fitted_output}
use Rattle.answers.specs.Translating.{translation_text, stores_translation, translate_answer, translate_output}
use Rattle.translated.specs.PreferenceStore.{PreferenceStore}
use Rattle.translated.proofs.FileStore.{store_fits}
use Rattle.translated.proofs.FileNames.{names_fit}

-- the stores of the plain program
module _ {rules names : List ℕ} (h : PreferenceStore rules) (g : NamesOf names Preference (decode rules).atoms (decode_names (decode rules).atoms names)) where
  abbrev program : Program
  program = translated (decode rules)

  abbrev named : List (List ℕ)
  named = translated_names (decode rules) (decode_names (decode rules).atoms names)

  form : ProgramForm program
  form = plain_form (decode rules) h.kind h.store.form

  names_form : NamesForm Plain program.atoms named
  names_form = plain_names (decode rules) h.kind h.store.form (decode_names (decode rules).atoms names) g.form

  same : decode (encode program) ≡ program
  same = decode_encode program form

  stored : StoreOf (encode program) (decode (encode program))
  stored = subst (StoreOf (encode program)) (sym same) (record { form = form; words = refl })

  names_stored : NamesOf (encode_names named) (decode (encode program)).kind (decode (encode program)).atoms (decode_names (decode (encode program)).atoms (encode_names named))
  names_stored =
      subst (λ (p : Program). NamesOf (encode_names named) p.kind p.atoms (decode_names p.atoms (encode_names named))) (sym same)
      (subst (NamesOf (encode_names named) Plain program.atoms) (sym (decode_names_lem names_form)) (record { form = names_form; bytes = refl }))

  text_same : stores_text (encode program) (encode_names named) ≡ stores_translation rules names
  unfolding stores_text stores_translation translation_text
  text_same =
      ap (λ (p : Program). text_of p (decode_names p.atoms (encode_names named))) same
      ∙ ap (text_of program) (decode_names_lem names_form)

  -- the two scratch arrays, as the code hands them on
  module _ {words words' : List ℕ} {rules_end : ℕ} (e : Emitted words 0 (encode program) words' rules_end) (few : store_words ≤ length words)
      {bytes bytes' : List ℕ} {names_end : ℕ} (f : Emitted bytes 0 (encode_names named) bytes' names_end) (short : store_bytes ≤ length bytes) where
    words_room : length (encode program) ≤ length words
    words_room = omega (arith, store_fits h)

    bytes_room : length (encode_names named) ≤ length bytes
    bytes_room = omega (arith, names_fit h g)

    pub words_inside : rules_end ≤ length words'
    words_inside = front_inside e words_room

    pub bytes_inside : names_end ≤ length bytes'
    bytes_inside = front_inside f bytes_room

    words_are : encode program ≡ take rules_end words'
    words_are = sym (front_is e words_room)

    bytes_are : encode_names named ≡ take names_end bytes'
    bytes_are = sym (front_is f bytes_room)

    pub both_stores : StoreOf (take rules_end words') (decode (take rules_end words'))
        × NamesOf (take names_end bytes') (decode (take rules_end words')).kind (decode (take rules_end words')).atoms (decode_names (decode (take rules_end words')).atoms (take names_end bytes'))
    both_stores = (
      subst (λ (l : List ℕ). StoreOf l (decode l)) words_are stored,
      subst (λ (b : List ℕ). NamesOf b (decode (take rules_end words')).kind (decode (take rules_end words')).atoms (decode_names (decode (take rules_end words')).atoms b)) bytes_are
          (subst (λ (l : List ℕ). NamesOf (encode_names named) (decode l).kind (decode l).atoms (decode_names (decode l).atoms (encode_names named))) words_are names_stored),
    )

    text_is : stores_text (take rules_end words') (take names_end bytes') ≡ stores_translation rules names
    text_is = ap₂ stores_text (sym words_are) (sym bytes_are) ∙ text_same

    pub translated_answer : (before : List ℕ) {r : Result ℕ Refusal} {after : List ℕ}
        → (r ≡ fitted (stores_text (take rules_end words') (take names_end bytes')) (length before)) × (after ≡ fitted_output (stores_text (take rules_end words') (take names_end bytes')) before)
        → (r ≡ fitted (stores_translation rules names) (length before)) × (after ≡ fitted_output (stores_translation rules names) before)
    translated_answer before k = (k.0 ∙ ap (λ (t : List ℕ). fitted t (length before)) text_is, k.1 ∙ ap (λ (t : List ℕ). fitted_output t before) text_is)

-- the refusals, in their order
module _ (rules names before : List ℕ) where
  pub no_store : rule_store rules ≡ None → (Err RuleStore ≡ translate_answer rules names (length before)) × (before ≡ translate_output rules names before)
  unfolding translate_answer translate_output
  no_store e = let t : is_of Preference (rule_store rules) ≡ false = ap (is_of Preference) e in (rw t, rw t)

  pub plain_store : rule_store rules ≡ Some Plain → (Err RuleStore ≡ translate_answer rules names (length before)) × (before ≡ translate_output rules names before)
  unfolding translate_answer translate_output
  plain_store e = let t : is_of Preference (rule_store rules) ≡ false = ap (is_of Preference) e in (rw t, rw t)

  module _ (e : rule_store rules ≡ Some Preference) where
    is_preference : is_of Preference (rule_store rules) ≡ true
    is_preference = ap (is_of Preference) e

    pub store_here : PreferenceStore rules
    store_here = let s = of_kind_lem rules Preference e in record { store = s.0; kind = s.1 }

    module _ (b : Bool) (f : b ≡ are_names Preference (get_or rules 1 0) names) where
      fits : are_names Preference (decode rules).atoms names ≡ b
      unfolding decode
      fits = sym f

      pub no_names : b ≡ false → (Err NameStore ≡ translate_answer rules names (length before)) × (before ≡ translate_output rules names before)
      unfolding translate_answer translate_output
      no_names g = let t = fits ∙ g in (rw (is_preference, t), rw (is_preference, t))

      module _ (g : b ≡ true) where
        pub names_here : NamesOf names Preference (decode rules).atoms (decode_names (decode rules).atoms names)
        names_here = decoded_names Preference (decode rules).atoms names (subst T (sym (fits ∙ g)) tt)

        pub answered : {r : Result ℕ Refusal} {after : List ℕ} → (r ≡ fitted (stores_translation rules names) (length before)) × (after ≡ fitted_output (stores_translation rules names) before)
            → (r ≡ translate_answer rules names (length before)) × (after ≡ translate_output rules names before)
        unfolding translate_answer translate_output
        answered h = let t = fits ∙ g in (rw (is_preference, t) h.0, rw (is_preference, t) h.1)
