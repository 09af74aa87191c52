-- Demand 3, from the round trips of reader and writer, the pairing and the form of the translation.
use Prim.Native.Nat.{ℕ, ◌≤◌}
use mathlib.Core.Path.{◌≡◌, refl, sym, ap, ap₂, subst, ◌∙◌}
use mathlib.Core.Bool.{Bool, true, false, cond}
use mathlib.Core.List.{List}
use lib.Dec.{T, leb, leb→le}
use lib.ListN.{length, take}
use Rattle.std.specs.Prelude.{Some, Result, Ok, Err}
use Rattle.kinds.specs.declared.limits.Kind.{Kind}
use Rattle.kinds.specs.declared.limits.Kind.TheVariants.{Plain, Preference}
use Rattle.kinds.specs.declared.refusals.Refusal.{Refusal}
use Rattle.kinds.specs.declared.refusals.Refusal.TheVariants.{Output, RuleStore, NameStore}
use Rattle.rules.specs.Lists.{over}
use Rattle.stores.specs.Program.{Program, ProgramForm}
use Rattle.stores.specs.RuleStore.{encode, decode, is_of}
use Rattle.name_store.specs.NameStore.{encode_names, are_names, NamesForm}
use Rattle.stores.proofs.RuleStores.{decode_encode}
use Rattle.answers.specs.Writing.{fitted}
use Rattle.lines.specs.Said.{accepted, said}
use Rattle.reader.proofs.RoundTrip.{accepted_form, plain_back}
use Rattle.answers.specs.Reading.{read_rules, read_names}
use Rattle.answers.proofs.AcceptedTexts.{Filled, never, filled, reads_as, front}
use Rattle.pairing.specs.Translated.{translated, translated_names}
use Rattle.pairing.proofs.Paired.{paired, only_one}
use Rattle.pairing.proofs.Sums.{atoms_sum_lem, rules_sum_lem, occurrences_sum_lem}
use Rattle.pairing.proofs.PlainForm.{plain_form}
use Rattle.pairing.proofs.PlainNames.{plain_names, file_names as names_kept}
use Rattle.answers.specs.Translating.{translation_text, stores_translation, translate_answer, translate_output}
use Rattle.translation.proofs.ProgramStores.{answered, named, stores_text_lem}
use Rattle.rigtomato.specs.Demand3.{Handed, delivered, Demand3, Demand3Holds}

-- the translator on the stores of a program of the form

module _ (p : Program) (form : ProgramForm p) (names : List (List ℕ)) (fit : NamesForm p.kind p.atoms names) where
  -- any answer but a refusal is for a preference program, and gives its text
  pub record Translated (room size : ℕ) : Type 0 where
    pub kind : p.kind ≡ Preference
    pub size_is : size ≡ length (translation_text p names)
    pub room_for : length (translation_text p names) ≤ room

  translated_only : (room size : ℕ) → translate_answer (encode p) (encode_names names) room ≡ Ok size → Translated room size
  unfolding translate_answer
  translated_only room size e = by_kind p.kind refl (rw (answered p form) at e)
    where
      rest : Result ℕ Refusal
      rest = cond (are_names Preference (decode (encode p)).atoms (encode_names names)) (fitted (stores_translation (encode p) (encode_names names)) room) (Err NameStore)

      by_fit : (b : Bool) → leb (length (translation_text p names)) room ≡ b → p.kind ≡ Preference
          → ◌≡◌ {A = Result ℕ Refusal} (cond b (Ok (length (translation_text p names))) (Err Output)) (Ok size) → Translated room size
      by_fit true f k r = record { kind = k; size_is = let z : length (translation_text p names) ≡ size = cc in sym z; room_for = leb→le _ _ (subst T (sym f) tt) }
      by_fit false f k r = never (cc)

      by_kind : (k : Kind) → p.kind ≡ k → ◌≡◌ {A = Result ℕ Refusal} (cond (is_of Preference (Some k)) rest (Err RuleStore)) (Ok size) → Translated room size
      by_kind Plain q r = never (cc)
      by_kind Preference q r = by_fit (leb (length (translation_text p names)) room) refl q (rw (decode_encode p form, named p form names fit q, stores_text_lem p form names fit) at r)

  output_is : (out : List ℕ) (size : ℕ) → translate_answer (encode p) (encode_names names) (length out) ≡ Ok size → translate_output (encode p) (encode_names names) out ≡ over (translation_text p names) out
  unfolding translate_output
  output_is out size e = rw (e, stores_text_lem p form names fit)

module _ (text rules names out : List ℕ) (h : Handed text rules names out) where
  read_as : Filled text (length rules) (length names) h.words h.bytes
  read_as = filled text (length rules) (length names) h.words h.bytes h.read

  abbrev p : Program
  p = read_as.program

  abbrev file_names : List (List ℕ)
  file_names = read_as.atom_names

  form : ProgramForm p
  form = (accepted_form text p file_names read_as.lines).0

  fit : NamesForm p.kind p.atoms file_names
  fit = (accepted_form text p file_names read_as.lines).1

  rules_handed : take h.words (read_rules text rules names) ≡ encode p
  rules_handed =
      ap₂ take read_as.words_are ((reads_as text p file_names read_as.lines).rules_filled rules names read_as.rules_room read_as.names_room)
      ∙ front (encode p) rules

  names_handed : take h.bytes (read_names text rules names) ≡ encode_names file_names
  names_handed =
      ap₂ take read_as.bytes_are ((reads_as text p file_names read_as.lines).names_filled rules names read_as.rules_room read_as.names_room)
      ∙ front (encode_names file_names) names

  written : translate_answer (encode p) (encode_names file_names) (length out) ≡ Ok h.size
  written = ap₂ (λ (r n : List ℕ). translate_answer r n (length out)) (sym rules_handed) (sym names_handed) ∙ h.written

  sent : Translated p form file_names fit (length out) h.size
  sent = translated_only p form file_names fit (length out) h.size written

  kind : p.kind ≡ Preference
  kind = sent.kind

  delivered_is : delivered h ≡ translation_text p file_names
  delivered_is =
      ap₂ take sent.size_is (ap₂ (λ (r n : List ℕ). translate_output r n out) rules_handed names_handed ∙ output_is p form file_names fit out h.size written)
      ∙ front (translation_text p file_names) out

  preference_fit : NamesForm Preference p.atoms file_names
  preference_fit = subst (λ (c : Kind). NamesForm c p.atoms file_names) kind fit

  plain_fit : NamesForm Plain (translated p).atoms (translated_names p file_names)
  plain_fit = plain_names p kind form file_names preference_fit

  plain_said : said (delivered h) ≡ accepted (translated p) (translated_names p file_names)
  unfolding translation_text
  plain_said = ap said delivered_is ∙ plain_back (translated p) (translated_names p file_names) (plain_form p kind form) plain_fit refl

  pub demand3 : Demand3 text (delivered h)
  demand3 = record {
    file = p;
    names = file_names;
    plain = translated p;
    plain_names = translated_names p file_names;
    file_read = reads_as text p file_names read_as.lines;
    plain_read = reads_as (delivered h) (translated p) (translated_names p file_names) plain_said;
    file_kind = kind;
    plain_kind = refl;
    steps = delivered_is;
    program = refl;
    atom_names = refl;
    own_names = ap (λ (n : ℕ). take n (translated_names p file_names)) fit.count ∙ names_kept p kind form file_names preference_fit;
    paired = λ s l. rw (fit.count, plain_fit.count) (paired p kind form s (rw fit.count at l));
    only_one = λ t u lt lu st su e. only_one p kind form t u (rw plain_fit.count at lt) (rw plain_fit.count at lu) st su (rw fit.count at e);
    atoms = plain_fit.count ∙ atoms_sum_lem p kind form;
    rules = rules_sum_lem p kind form;
    places = occurrences_sum_lem p kind form;
  }

pub demand_3 : Demand3Holds
demand_3 text rules names out h = demand3 text rules names out h
