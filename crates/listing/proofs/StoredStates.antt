-- What the lister prints on two stores that are known to be of the form.
use Prim.Native.Nat.{ℕ, suc, ◌^◌, ◌≤◌, ◌<◌}
use native.Mathlib.Omega.{arith}
use mathlib.Core.Path.{◌≡◌, sym, ap, ◌∙◌, subst, fun_ext}
use mathlib.Core.List.{List, ◌++◌}
use lib.Dec.{T}
use lib.ListN.{length, get_or, take, drop}
use borrow.Author.Tests.{le-leb, lt-leb}
use Rattle.kinds.specs.Limits.{atom_limit, walk_atoms, budget_limit}
use Rattle.kinds.specs.declared.limits.Kind.{Kind}
use Rattle.kinds.specs.declared.limits.Kind.TheVariants.{Preference}
use Rattle.kinds.specs.declared.refusals.Refusal.TheVariants.{TooManyAtoms}
use Rattle.rules.specs.Lists.{All}
use Rattle.stores.specs.Program.{Program}
use Rattle.stores.specs.RuleStore.{StoreOf, decode}
use Rattle.names.specs.Names.{allowed}
use Rattle.name_store.specs.NameStore.{NamesOf, decode_names}
use Rattle.name_store.specs.NameIndex.{Placed}
use Rattle.text.specs.Items.{stored_names, StoredNames}
use Rattle.text.proofs.TextParts.{store_header}
use Rattle.text.proofs.FilledTable.{front_length, front_stored, table_inside, handed_length, handed_placed}
use Rattle.places.specs.Places.{place}
use Rattle.walks.specs.Walk.{next_verdict}
use Rattle.walks.specs.declared.answers.NextState.{NextState}
use Rattle.masks.specs.FilledMasks.{MasksOf}
use Rattle.masks.specs.declared.masks.Sizes.{Sizes}
use Rattle.groups.specs.Groups.{GroupsOf}
use Rattle.groups.specs.Plans.{starts_in, care_in, want_in, TablesOf}
use Rattle.descent.proofs.FilledGroups.{same_length, rules_fit_lem, masks_small}
use Rattle.lister.proofs.FilledNext.{next_filled}
use Rattle.printing.specs.Parts.{Shown}
use Rattle.printing.proofs.PrintedLines.{shown_renamed}
use Rattle.answers.specs.Printed.{refused_text}
use Rattle.answers.specs.Listed.{listing, whole_listing, streamed, states_of}
use Rattle.listing.specs.ListedMasks.{ListedNames, ListedStores, SortableMasks, SortedListing, masks_listing, plan_listing}

-- the listing by a plan
pub listing_sorted : {cs ws ks p : List ℕ} {fixed n : ℕ} {names : List (List ℕ)} {before after : List ℕ} {size : ℕ} → TablesOf cs ws ks p → Shown (streamed (plan_listing p fixed n names)) before after size → SortedListing cs ws ks fixed n names before after size
listing_sorted {cs} {ws} {ks} {p} {fixed} {n} {names} t s = record {
  care = care_in p;
  want = want_in p;
  groups = starts_in p;
  sorted = t.groups;
  shown = shown_renamed (ap (λ (x : List ℕ). streamed (masks_listing (care_in p) (want_in p) (starts_in p) x fixed n names)) t.classes_are) s;
}

-- the masks of a store, as the code hands them on
module _ {rules names starts care want classes : List ℕ} {z : Sizes} (h : ListedStores rules names starts) (d : MasksOf (decode rules) care want classes z) where
  abbrev program : Program
  program = decode rules

  pub masks_sortable : SortableMasks (take z.rules care) (take z.rules want)
  masks_sortable = record { same_length = same_length d; rules_fit_lem = rules_fit_lem d; small = masks_small d }

  pub names_listed : ListedNames z.atoms names starts
  names_listed = subst (λ (n : ℕ). ListedNames n names starts) (sym d.atoms_are) h.named

  same_listing : {c w g : List ℕ} → GroupsOf (take z.rules care) (take z.rules want) c w g → masks_listing c w g classes z.fixed z.atoms (stored_names names starts) ≡ whole_listing program (stored_names names starts)
  unfolding whole_listing
  same_listing g =
      ap (λ (next : ℕ → NextState). listing (place z.atoms) next (suc (2 ^ z.atoms)) (stored_names names starts) 0 0) (fun_ext (λ t. next_filled d g t budget_limit))
      ∙ ap (λ (n : ℕ). listing (place n) (λ t. next_verdict program.words program.rules t budget_limit) (suc (2 ^ n)) (stored_names names starts) 0 0) d.atoms_are

  pub listing_shown : {before after : List ℕ} {size : ℕ} → SortedListing (take z.rules care) (take z.rules want) classes z.fixed z.atoms (stored_names names starts) before after size → Shown (streamed (whole_listing program (stored_names names starts))) before after size
  listing_shown s = shown_renamed (ap streamed (same_listing s.sorted)) s.shown

-- two stores of the form
module _ {rules names : List ℕ} (s : StoreOf rules (decode rules)) (k : (decode rules).kind ≡ Preference) (m : NamesOf names Preference (decode rules).atoms (decode_names (decode rules).atoms names)) where
  pub header : 4 ≤ length rules
  header = store_header s

  names_at : NamesOf names Preference (get_or rules 1 0) (decode_names (get_or rules 1 0) names)
  unfolding decode
  names_at = m

  pub few_atoms : get_or rules 1 0 ≤ atom_limit Preference
  unfolding decode
  few_atoms = subst (λ (q : Kind). get_or rules 1 0 ≤ atom_limit q) k s.form.atoms_fit

  pub many_atoms : walk_atoms < get_or rules 1 0 → refused_text TooManyAtoms 0 ≡ states_of (decode rules) (decode_names (decode rules).atoms names)
  unfolding states_of decode
  many_atoms l = rw (lt-leb (get_or rules 1 0) walk_atoms l)

  -- the table of places: its front is filled, and handed on
  module _ (few : get_or rules 1 0 ≤ walk_atoms) (table : List ℕ) (size : length table ≡ walk_atoms) where
    pub front_inside : get_or rules 1 0 ≤ length table
    front_inside = omega arith

    pub front_sized : length (take (get_or rules 1 0) table) ≡ get_or rules 1 0
    front_sized = front_length names_at few_atoms table front_inside

    pub names_stored : StoredNames names (take (get_or rules 1 0) table)
    names_stored = front_stored names_at few_atoms table front_inside

    module _ (places : List ℕ) (e : length places ≡ length (take (get_or rules 1 0) table)) where
      abbrev front : List ℕ
      front = take (get_or rules 1 0) (places ++ drop (get_or rules 1 0) table)

      pub filled_inside : get_or rules 1 0 ≤ length (places ++ drop (get_or rules 1 0) table)
      filled_inside = table_inside names_at few_atoms table front_inside places e

      pub handed_sized : length front ≡ get_or rules 1 0
      handed_sized = handed_length names_at few_atoms table front_inside places e

      names_are : stored_names names front ≡ decode_names (get_or rules 1 0) names
      names_are = ap (λ (c : ℕ). decode_names c names) handed_sized

      pub stores_listed : Placed (stored_names names (take (get_or rules 1 0) table)) names places → ListedStores rules names front
      unfolding decode
      stores_listed p = record {
        store = s;
        kind = k;
        named = record {
          few = few;
          count = handed_sized;
          placed = handed_placed names_at few_atoms table front_inside places e p;
          all_allowed = subst (All (λ x. T (allowed Preference x))) (sym names_are) names_at.form.all_allowed;
        };
      }

      pub states_are : streamed (whole_listing (decode rules) (stored_names names front)) ≡ states_of (decode rules) (decode_names (decode rules).atoms names)
      unfolding states_of decode
      states_are = rw (le-leb (get_or rules 1 0) walk_atoms few, names_are)
