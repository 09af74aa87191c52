-- Demand 1, from the refusals of each entry point.
use Prim.Native.Nat.{ℕ}
use mathlib.Core.Path.{◌≡◌, refl, sym, ap₂, subst, ◌∙◌}
use mathlib.Core.Logic.{◌↔◌}
use mathlib.Core.List.{List}
use Rattle.kinds.specs.declared.limits.Kind.{Kind}
use Rattle.stores.specs.Program.{Program, ProgramForm}
use Rattle.stores.specs.RuleStore.{encode}
use Rattle.stores.proofs.RuleStores.{decode_encode}
use Rattle.name_store.specs.NameStore.{NamesForm, encode_names}
use Rattle.name_store.proofs.NameStores.{decode_names_lem}
use Rattle.restriction.proofs.Whole.{remaining_whole, names_whole}
use Rattle.text.specs.Text.{text_of}
use Rattle.lines.specs.Said.{accepted}
use Rattle.faults.specs.EarliestFault.{Accepts}
use Rattle.faults.proofs.EarliestFault.{said_accepted}
use Rattle.reader.specs.WrittenText.{NoConditions, TypedText}
use Rattle.reader.proofs.RoundTrip.{write_read, accepted_iff, round_trips}
use Rattle.clauses.specs.Sentences.{AcceptsClauses}
use Rattle.clauses.proofs.Satisfying.{written_clauses}
use Rattle.canonical_text.proofs.CanonicalTexts.{canonical_texts}
use Rattle.answers.specs.Writing.{stores_text}
use Rattle.answers.proofs.Readers.{read_refuses, clauses_refuse}
use Rattle.answers.proofs.Indexing.{index_refuses, add_refuses, flip_refuses}
use Rattle.answers.proofs.Refusals.{write_refuses, canonical_refuses, translate_refuses, verdict_refuses, print_refuses, prints_into}
use Rattle.rigtomato.specs.Demand1.{PreferenceStores, Demand1}

accepted_texts : (text : List ℕ) → NoConditions text → ((p : Program) × (names : List (List ℕ)) × Accepts text p names) ↔ TypedText text
accepted_texts text none = (
  λ h. (accepted_iff text none).0 (h.0, h.1, (said_accepted text h.0 h.1).1 h.2),
  λ w. let r = (accepted_iff text none).1 w in (r.0, r.1, (said_accepted text r.0 r.1).0 r.2),
)

stores_text_lem : (p : Program) (names : List (List ℕ)) → ProgramForm p → NamesForm p.kind p.atoms names → stores_text (encode p) (encode_names names) ≡ text_of p names
unfolding stores_text
stores_text_lem p names f g = rw (decode_encode p f, decode_names_lem g)

clause_stores : (text : List ℕ) (p : Program) (names : List (List ℕ)) → AcceptsClauses text p names → PreferenceStores p names
clause_stores text p names a =
    let w = written_clauses text p names a in
    let f = w.form.0 in
    let g = subst (λ (k : Kind). NamesForm k p.atoms names) (sym w.kind_is) w.form.1 in
    record {
      kind = w.kind_is;
      stores = (record { form = f; words = refl }, record { form = g; bytes = refl });
      written = stores_text_lem p names f g;
      read = (said_accepted (text_of p names) p names).0 (write_read p names f g ∙ ap₂ accepted (remaining_whole p f w.all_used) (names_whole p f w.all_used names g.count));
    }

pub demand_1 : Demand1
demand_1 = record {
  read = read_refuses;
  accepted = accepted_texts;
  texts = round_trips;
  clauses = clauses_refuse;
  clause_stores = clause_stores;
  write = write_refuses;
  write_canonical = canonical_refuses;
  canonical_texts = canonical_texts;
  translate = translate_refuses;
  verdicts = verdict_refuses;
  index_rules = index_refuses;
  add_rule_holds = add_refuses;
  flip = flip_refuses;
  programs = print_refuses;
  printed = prints_into;
}
