-- Canonical texts are equal exactly when the programs are the same, are read as the canonical program, and have its states.
use Prim.Native.Nat.{ℕ}
use mathlib.Core.Path.{◌≡◌, refl, sym, ap, ap₂, ◌∙◌, subst}
use mathlib.Core.List.{List}
use lib.ListN.{length}
use Rattle.kinds.specs.declared.limits.Kind.{Kind}
use Rattle.kinds.specs.declared.limits.Kind.TheVariants.{Plain, Preference}
use Rattle.rules.specs.Rules.{Rule}
use Rattle.stores.specs.Program.{Program}
use Rattle.stores.specs.RuleStore.{encode}
use Rattle.stores.proofs.RuleStores.{decode_encode}
use Rattle.name_store.specs.NameStore.{NamesForm, encode_names}
use Rattle.name_store.proofs.NameStores.{decode_names_lem}
use Rattle.restriction.specs.Remaining.{remaining, remaining_names, AllUsed}
use Rattle.restriction.proofs.Whole.{remaining_plain, names_plain, remaining_kind, remaining_whole, names_whole, all_used}
use Rattle.lines.specs.Said.{accepted, typed, said}
use Rattle.text.specs.Text.{text_of}
use Rattle.faults.specs.EarliestFault.{Accepts}
use Rattle.faults.proofs.EarliestFault.{same_accepted, said_accepted}
use Rattle.reader.proofs.RoundTrip.{accepted_form, write_typed, write_read}
use Rattle.canonical.specs.CanonicalProgram.{canonical_program, SamePrograms}
use Rattle.canonical.proofs.CanonicalRules.{canonical_same, canonical_twice, canonical_stable, canonical_preferred}
use Rattle.canonical.proofs.CanonicalForm.{canonical_form}
use Rattle.answers.specs.WritingCanonical.{canonical_text, stores_canonical}
use Rattle.canonical_text.specs.CanonicalTexts.{Formed, EqualTexts, WrittenAgain, CanonicalTexts, SameStates, CanonicalStates}
use Rattle.canonical_text.proofs.UsedAtoms.{canonical_used}

-- a program of the form

module _ (p : Program) (names : List (List ℕ)) (f : Formed p names) where
  canonical_names : NamesForm (canonical_program p).kind (canonical_program p).atoms names
  unfolding canonical_program
  canonical_names = f.names_form

  text_typed : typed (canonical_text p names) ≡ accepted (canonical_program p) names
  unfolding canonical_text
  text_typed = write_typed (canonical_program p) names (canonical_form p f.form) canonical_names

  text_said : said (canonical_text p names) ≡ accepted (remaining (canonical_program p)) (remaining_names (canonical_program p) names)
  unfolding canonical_text
  text_said = write_read (canonical_program p) names (canonical_form p f.form) canonical_names

  written : stores_canonical (encode p) (encode_names names) ≡ canonical_text p names
  unfolding stores_canonical
  written = rw (decode_encode p f.form, decode_names_lem f.names_form)

program_twice : (p : Program) → canonical_program (canonical_program p) ≡ canonical_program p
unfolding canonical_program
program_twice p = ap (λ (rs : List (Rule ℕ)). record { kind = p.kind; atoms = p.atoms; classes = p.classes; words = p.words; rules = rs }) (canonical_twice p.rules)

-- two of them

module _ (p q : Program) (names others : List (List ℕ)) where
  same_programs : canonical_program p ≡ canonical_program q → names ≡ others → SamePrograms p names q others
  unfolding canonical_program
  same_programs e n = record {
    same_kind = ap (λ (r : Program). r.kind) e;
    same_classes = ap (λ (r : Program). r.classes) e;
    same_words = ap (λ (r : Program). r.words) e;
    same_names = n;
    same_rules = (canonical_same p.rules q.rules).0 (ap (λ (r : Program). r.rules) e);
  }

  programs_same : p.atoms ≡ q.atoms → SamePrograms p names q others → canonical_program p ≡ canonical_program q
  unfolding canonical_program
  programs_same n s i = record {
    kind = s.same_kind i;
    atoms = n i;
    classes = s.same_classes i;
    words = s.same_words i;
    rules = (canonical_same p.rules q.rules).1 s.same_rules i;
  }

  equal : Formed p names → Formed q others → EqualTexts p names q others
  unfolding canonical_text
  equal f g = (
    λ e. let s = same_accepted (sym (text_typed p names f) ∙ ap typed e ∙ text_typed q others g) in same_programs s.0 s.1,
    λ s. ap₂ text_of (programs_same (sym f.names_form.count ∙ ap length s.same_names ∙ g.names_form.count) s) s.same_names,
  )

-- an accepted text

module _ (text : List ℕ) (p : Program) (names : List (List ℕ)) (a : Accepts text p names) where
  formed : Formed p names
  formed = let f = accepted_form text p names ((said_accepted text p names).1 a) in record { form = f.0; names_form = f.1 }

  -- what was read of a preference file has no unused atom
  used : p.kind ≡ Preference → AllUsed p
  used e = subst AllUsed (sym a.1.program) (all_used a.1.whole (sym (remaining_kind a.1.whole) ∙ ap (λ (q : Program). q.kind) (sym a.1.program) ∙ e))

  stays : (remaining (canonical_program p) ≡ canonical_program p) × (remaining_names (canonical_program p) names ≡ names)
  unfolding canonical_program
  stays = by_kind p.kind refl
    where
      by_kind : (k : Kind) → p.kind ≡ k → (remaining (canonical_program p) ≡ canonical_program p) × (remaining_names (canonical_program p) names ≡ names)
      by_kind Plain e = (remaining_plain (canonical_program p) e, names_plain (canonical_program p) names e)
      by_kind Preference e =
          let u = canonical_used p (used e) in
          let f = canonical_form p formed.form in
          (remaining_whole (canonical_program p) f u, names_whole (canonical_program p) f u names formed.names_form.count)

  read_back : said (canonical_text p names) ≡ accepted (canonical_program p) names
  read_back = text_said p names formed ∙ ap₂ accepted stays.0 stays.1

  again : WrittenAgain p names
  unfolding canonical_text
  again = record {
    read = (said_accepted (canonical_text p names) (canonical_program p) names).0 read_back;
    same = ap (λ (q : Program). text_of q names) (program_twice p);
  }

  same_states : SameStates p names (canonical_program p) names
  unfolding canonical_program
  same_states = record {
    same_kind = refl;
    same_atoms = refl;
    same_classes = refl;
    same_words = refl;
    same_names = refl;
    preferred = canonical_preferred p.words p.rules;
    stable = canonical_stable p.rules;
  }

pub canonical_texts : CanonicalTexts
canonical_texts = record {
  written = written;
  equal = equal;
  equal_files = λ text other p q names others a b. equal p q names others (formed text p names a) (formed other q others b);
  again = again;
  handed_in_holds = λ p names f. (said_accepted (canonical_text p names) (remaining (canonical_program p)) (remaining_names (canonical_program p) names)).0 (text_said p names f);
}

pub canonical_states : CanonicalStates
canonical_states text p q names others a b =
    let s = same_accepted (sym (read_back text p names a) ∙ (said_accepted (canonical_text p names) q others).1 b) in
    rw (← s.0, ← s.1) (same_states text p names a)
