-- What the canonical writer answers and leaves, from what its parts did.
use Prim.Native.Nat.{ℕ, ◌≤◌}
use native.Mathlib.Omega.{arith}
use mathlib.Core.Path.{◌≡◌, sym, ap, ◌∙◌, subst}
use mathlib.Core.Bool.{Bool, true, false}
use mathlib.Core.List.{List}
use lib.ListN.{length, get_or, take}
use Rattle.std.specs.Prelude.{Some, None, Result, Err}
use Rattle.kinds.specs.Sizes.{store_words}
use Rattle.kinds.specs.declared.limits.Kind.{Kind}
use Rattle.kinds.specs.declared.refusals.Refusal.{Refusal}
use Rattle.kinds.specs.declared.refusals.Refusal.TheVariants.{RuleStore, NameStore}
use Rattle.stores.specs.Program.{Program, ProgramForm}
use Rattle.stores.specs.RuleStore.{StoreOf, encode, decode, rule_store}
use Rattle.stores.proofs.RuleStores.{decode_encode, words_fit}
use Rattle.name_store.specs.NameStore.{NamesOf, decode_names, are_names}
use Rattle.output.specs.Emitted.{Emitted}
use Rattle.output.proofs.Emitting.{front_inside, front_is}
use Rattle.text.specs.Text.{text_of}
use Rattle.canonical.specs.CanonicalProgram.{canonical_program}
use Rattle.canonical.proofs.CanonicalForm.{canonical_form}
use Rattle.answers.specs.Writing.{fitted, stores_text}
use Rattle.answers.specs.WritingCanonical.{canonical_text, stores_canonical, canonical_answer, canonical_output}
use Rattle.writer.specs.Fitted.{fitted_output}
use Rattle.writer.proofs.StoreTests.{not_stored, not_named, both_stored}

-- the canonical rule store in a scratch that has room for it
module _ {rules names : List ℕ} (s : StoreOf rules (decode rules)) (m : NamesOf names (decode rules).kind (decode rules).atoms (decode_names (decode rules).atoms names)) {words words' : List ℕ} {end : ℕ}
    (e : Emitted words 0 (encode (canonical_program (decode rules))) words' end) (few : store_words ≤ length words) where
  abbrev program : Program
  program = canonical_program (decode rules)

  form : ProgramForm program
  form = canonical_form (decode rules) s.form

  room : length (encode program) ≤ length words
  room = omega (arith, words_fit program form)

  pub words_inside : end ≤ length words'
  words_inside = front_inside e room

  words_are : encode program ≡ take end words'
  words_are = sym (front_is e room)

  says : program ≡ decode (take end words')
  says = sym (decode_encode program form) ∙ ap decode words_are

  pub both_stores : StoreOf (take end words') (decode (take end words'))
      × NamesOf names (decode (take end words')).kind (decode (take end words')).atoms (decode_names (decode (take end words')).atoms names)
  unfolding canonical_program
  both_stores = (
    subst (StoreOf (take end words')) says (record { form = form; words = words_are }),
    subst (λ (q : Program). NamesOf names q.kind q.atoms (decode_names q.atoms names)) says m,
  )

  text_is : stores_text (take end words') names ≡ stores_canonical rules names
  unfolding stores_text stores_canonical canonical_text canonical_program
  text_is = ap (λ (q : Program). text_of q (decode_names q.atoms names)) (sym says)

  pub canonical_answer_lem : (before : List ℕ) {r : Result ℕ Refusal} {after : List ℕ}
      → (r ≡ fitted (stores_text (take end words') names) (length before)) × (after ≡ fitted_output (stores_text (take end words') names) before)
      → (r ≡ fitted (stores_canonical rules names) (length before)) × (after ≡ fitted_output (stores_canonical rules names) before)
  canonical_answer_lem before h = (h.0 ∙ ap (λ (t : List ℕ). fitted t (length before)) text_is, h.1 ∙ ap (λ (t : List ℕ). fitted_output t before) text_is)

-- the refusals, in their order
module _ (rules names before : List ℕ) where
  pub no_store : rule_store rules ≡ None → (Err RuleStore ≡ canonical_answer rules names (length before)) × (before ≡ canonical_output rules names before)
  unfolding canonical_answer canonical_output
  no_store = not_stored rules names (stores_canonical rules names) before

  module _ (kind : Kind) (e : rule_store rules ≡ Some kind) (b : Bool) (f : b ≡ are_names kind (get_or rules 1 0) names) where
    pub no_names : b ≡ false → (Err NameStore ≡ canonical_answer rules names (length before)) × (before ≡ canonical_output rules names before)
    unfolding canonical_answer canonical_output
    no_names = not_named rules names (stores_canonical rules names) before kind e b f

    pub answered : b ≡ true → {r : Result ℕ Refusal} {after : List ℕ} → (r ≡ fitted (stores_canonical rules names) (length before)) × (after ≡ fitted_output (stores_canonical rules names) before)
        → (r ≡ canonical_answer rules names (length before)) × (after ≡ canonical_output rules names before)
    unfolding canonical_answer canonical_output
    answered g h = both_stored rules names (stores_canonical rules names) before kind e b f g h
