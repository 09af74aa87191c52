-- What the writer answers and leaves, from what its parts did.
use Prim.Native.Nat.{ℕ, ◌+◌, ◌≤◌, ◌<◌}
use native.Mathlib.Nat.{zero-add}
use native.Mathlib.Omega.{arith}
use mathlib.Core.Path.{◌≡◌, sym, ap, ◌∙◌}
use mathlib.Core.Bool.{Bool, true, false}
use mathlib.Core.List.{List, ◌++◌}
use lib.ListN.{length, get_or, take, drop}
use lib.Seq.{sets-eq}
use borrow.Author.Tests.{le-leb, lt-leb}
use Rattle.std.specs.Prelude.{Some, None, Result, Ok, Err}
use Rattle.kinds.specs.Limits.{atom_limit}
use Rattle.kinds.specs.declared.limits.Kind.{Kind}
use Rattle.kinds.specs.declared.limits.Kind.TheVariants.{Plain}
use Rattle.kinds.specs.declared.refusals.Refusal.{Refusal}
use Rattle.kinds.specs.declared.refusals.Refusal.TheVariants.{Output, RuleStore, NameStore}
use Rattle.stores.specs.RuleStore.{StoreOf, decode, rule_store}
use Rattle.name_store.specs.NameStore.{NamesOf, decode_names, are_names}
use Rattle.name_store.specs.NameIndex.{Placed, Indexed}
use Rattle.name_store.proofs.NamePlaces.{length_decode}
use Rattle.name_store.proofs.NameEntries.{length_filled, filled}
use Rattle.stores.proofs.StoreHeader.{atoms_small}
use Rattle.text.specs.Text.{text_of}
use Rattle.output.specs.Emitted.{Emitted}
use Rattle.text.specs.Items.{stored_names}
use Rattle.text.specs.Sources.{Sources, source_text}
use Rattle.answers.specs.Writing.{fitted, stores_text, write_answer, write_output}
use Rattle.writer.specs.Fitted.{fitted_output}
use Rattle.writer.proofs.StoreTests.{store_here, names_here, not_stored, not_named, both_stored}
use Rattle.text.proofs.TextLength.{text_fits}
use Rattle.text.proofs.FilledTable.{handed_length, handed_placed}

-- counted, then refused or written
module _ {none none' w : List ℕ} {size : ℕ} (e : Emitted none 0 w none' size) where
  pub too_short : (d : List ℕ) → length d < size → (Err Output ≡ fitted w (length d)) × (d ≡ fitted_output w d)
  too_short d l = let t = lt-leb (length w) (length d) (omega (arith, e.place)) in (rw t, rw t)

  pub written : {d d' : List ℕ} {size' : ℕ} → size ≤ length d → Emitted d 0 w d' size' → (Ok size ≡ fitted w (length d)) × (d' ≡ fitted_output w d)
  written {d} l p =
      let t = le-leb (length w) (length d) (omega (arith, e.place)) in
      let c : 0 + length w ≤ length d = omega (arith, e.place) in (
        rw t (ap Ok (e.place ∙ zero-add (length w))),
        rw t (p.bytes ∙ sets-eq w d 0 c ∙ ap (λ (m : ℕ). w ++ drop m d) (zero-add (length w))),
      )

-- two stores of the form
module _ {rules names : List ℕ} (s : StoreOf rules (decode rules)) (m : NamesOf names (decode rules).kind (decode rules).atoms (decode_names (decode rules).atoms names)) where
  pub few_atoms : get_or rules 1 0 ≤ atom_limit Plain
  unfolding decode
  few_atoms = omega (arith, s.form.atoms_fit, atoms_small (decode rules).kind)

  module _ (starts : List ℕ) (n : length starts ≡ get_or rules 1 0) where
    counts : (decode rules).atoms ≡ length starts
    unfolding decode
    counts = sym n

    pub text_same : source_text rules names starts ≡ stores_text rules names
    unfolding source_text stores_text
    text_same = ap (λ (c : ℕ). text_of (decode rules) (decode_names c names)) (sym counts)

    pub sources : Placed (stored_names names starts) names starts → Sources rules names starts
    unfolding stores_text
    sources p = record { store = s; count = sym counts; placed = p; range = record { below = omega (arith, text_fits s.form m.form, ap length text_same) } }

  pub names_at : NamesOf names (decode rules).kind (get_or rules 1 0) (decode_names (get_or rules 1 0) names)
  unfolding decode
  names_at = m

  pub few_of_kind : get_or rules 1 0 ≤ atom_limit (decode rules).kind
  unfolding decode
  few_of_kind = s.form.atoms_fit

  -- the table: its front is filled, and handed on
  module _ (table : List ℕ) (room : atom_limit Plain ≤ length table) where
    pub front_inside : get_or rules 1 0 ≤ length table
    front_inside = omega (arith, few_atoms)

    module _ (places : List ℕ) (k : length places ≡ length (take (get_or rules 1 0) table)) where
      abbrev front : List ℕ
      front = take (get_or rules 1 0) (places ++ drop (get_or rules 1 0) table)

      front_sized : length front ≡ get_or rules 1 0
      front_sized = handed_length names_at few_of_kind table front_inside places k

      pub handed_sources : Placed (stored_names names (take (get_or rules 1 0) table)) names places → Sources rules names front
      handed_sources p = sources front front_sized (handed_placed names_at few_of_kind table front_inside places k p)

      pub handed_answer : (before : List ℕ) {r : Result ℕ Refusal} {after : List ℕ} → (r ≡ fitted (source_text rules names front) (length before)) × (after ≡ fitted_output (source_text rules names front) before)
          → (r ≡ fitted (stores_text rules names) (length before)) × (after ≡ fitted_output (stores_text rules names) before)
      handed_answer before h =
          let e = text_same front front_sized in
          (h.0 ∙ ap (λ (t : List ℕ). fitted t (length before)) e, h.1 ∙ ap (λ (t : List ℕ). fitted_output t before) e)

-- the refusals, in their order

module _ (rules names before : List ℕ) where
  pub no_store : rule_store rules ≡ None → (Err RuleStore ≡ write_answer rules names (length before)) × (before ≡ write_output rules names before)
  unfolding write_answer write_output
  no_store = not_stored rules names (stores_text rules names) before

  module _ (kind : Kind) (e : rule_store rules ≡ Some kind) (b : Bool) (f : b ≡ are_names kind (get_or rules 1 0) names) where
    pub no_names : b ≡ false → (Err NameStore ≡ write_answer rules names (length before)) × (before ≡ write_output rules names before)
    unfolding write_answer write_output
    no_names = not_named rules names (stores_text rules names) before kind e b f

    -- the places that the check of the names has found
    module _ (g : b ≡ true) {starts heads next : List ℕ} (x : Indexed (decode_names (get_or rules 1 0) names) names starts heads next) where
      abbrev found : List ℕ
      found = take (get_or rules 1 0) starts

      pub found_length : length found ≡ get_or rules 1 0
      found_length = length_filled (get_or rules 1 0) x

      pub found_inside : get_or rules 1 0 ≤ length starts
      found_inside = omega (arith, x.placed.room, length_decode (get_or rules 1 0) names)

      pub found_sources : Sources rules names found
      found_sources = sources (store_here rules kind e) (names_here rules kind e names b f g) found found_length (filled (get_or rules 1 0) x).placed

      pub answered : {r : Result ℕ Refusal} {after : List ℕ} → (r ≡ fitted (source_text rules names found) (length before)) × (after ≡ fitted_output (source_text rules names found) before)
          → (r ≡ write_answer rules names (length before)) × (after ≡ write_output rules names before)
      unfolding write_answer write_output
      answered h =
          let t = text_same (store_here rules kind e) (names_here rules kind e names b f g) found found_length in
          both_stored rules names (stores_text rules names) before kind e b f g (rw (← t) h.0, rw (← t) h.1)
