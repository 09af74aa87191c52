-- The text of two stores: the declarations, then the rules.
use Prim.Native.Nat.{ℕ, suc, ◌+◌, ◌-◌, ◌≤◌}
use native.Mathlib.Nat.{add-sub_cancel_left}
use native.Mathlib.Omega.{arith}
use mathlib.Core.Path.{◌≡◌, refl, sym, ap, ap₂, ◌∙◌, subst}
use mathlib.Core.Bool.{Bool, cond}
use mathlib.Core.List.{List, [], ◌∷◌, ◌++◌, map}
use lib.ListN.{length, get_or, take, drop, length-drop, length-take}
use borrow.Author.Tests.{eq-eqb, ne_eqb}
use Rattle.kinds.specs.declared.limits.Kind.{Kind}
use Rattle.kinds.specs.declared.limits.Kind.TheVariants.{Plain, Preference}
use Rattle.rules.specs.Lists.{from}
use Rattle.rules.proofs.Lists.{part_rest}
use Rattle.stores.specs.Program.{Program, ClassesForm}
use Rattle.stores.specs.RuleStore.{encode, StoreOf, decode, kind_of, word_count, rules_from}
use Rattle.stores.specs.StoredRules.{StoredRules}
use Rattle.stores.proofs.RuleStores.{rules_count}
use Rattle.stores.proofs.StoredRules.{stored_rules}
use Rattle.name_store.proofs.NamePlaces.{length_decode}
use Rattle.kinds.specs.Words.{open_bracket, atoms_word}
use Rattle.text.specs.Text.{open_text, list_line, named, declarations, text_of}
use Rattle.text.specs.ClassRuns.{ClassWordsOf}
use Rattle.text.specs.Items.{stored_names, atom_items, atom_line, rule_items, class_item, min_items, class_items}
use Rattle.text.specs.Sources.{Sources, source_text}
use Rattle.output.proofs.Emitting.{Ahead}

pub store_header : {rules : List ℕ} {p : Program} → StoreOf rules p → 4 ≤ length rules
unfolding encode
store_header s = omega (arith, ap length s.words)

-- every name of a list, by its number
named_from : (names : List (List ℕ)) (s : ℕ) (all : List (List ℕ)) → ((i : ℕ) → get_or all (s + i) [] ≡ get_or names i []) → map (λ a. get_or all a []) (from s (length names)) ≡ names
named_from [] s all h = refl
named_from (x ∷ names) s all h =
    let e : s ≡ s + 0 = omega arith in
    ap₂ ◌∷◌ (ap (λ (a : ℕ). get_or all a []) e ∙ h 0)
    (named_from names (suc s) all (λ i. let f : suc s + i ≡ s + suc i = omega arith in ap (λ (a : ℕ). get_or all a []) f ∙ h (suc i)))

pub named_all : (names : List (List ℕ)) → named names (from 0 (length names)) ≡ names
named_all names = named_from names 0 names (λ i. let e : 0 + i ≡ i = omega arith in ap (λ (a : ℕ). get_or names a []) e)

-- the program that words say, their kind being known
abbrev program_of : Kind → List ℕ → Program
program_of kind ws =
    record {
      kind = kind;
      atoms = get_or ws 1 0;
      classes = get_or ws 2 0;
      words = take (word_count kind (get_or ws 1 0)) (drop 4 ws);
      rules = rules_from (get_or ws 3 0) (drop (4 + word_count kind (get_or ws 1 0)) ws);
    }

module _ {rules names starts : List ℕ} (h : Sources rules names starts) where
  abbrev name_list : List (List ℕ)
  name_list = stored_names names starts

  pub header : 4 ≤ length rules
  header = store_header h.store

  counted : length starts ≡ get_or rules 1 0
  unfolding decode
  counted = h.count

  module _ (kind : Kind) (k : kind_of (get_or rules 0 0) ≡ kind) where
    abbrev words : ℕ
    words = word_count kind (get_or rules 1 0)

    abbrev rule_words_from : List ℕ
    rule_words_from = take (length rules - (4 + words)) (drop (4 + words) rules)

    text_of_kind : source_text rules names starts ≡ text_of (program_of kind rules) name_list
    unfolding source_text decode
    text_of_kind = ap (λ (q : Kind). text_of (program_of q rules) name_list) k

    classes_of_kind : ClassesForm kind (length starts) (get_or rules 2 0) (take words (drop 4 rules))
    unfolding decode
    classes_of_kind =
        subst (λ (m : ℕ). ClassesForm kind m (get_or rules 2 0) (take words (drop 4 rules))) (sym counted)
        (subst (λ (q : Kind). ClassesForm q (get_or rules 1 0) (get_or rules 2 0) (take (word_count q (get_or rules 1 0)) (drop 4 rules))) k h.store.form.classes_form)

    rules_of_kind : StoredRules (length starts) (get_or rules 3 0) rule_words_from
    unfolding decode
    rules_of_kind =
        subst (StoredRules (length starts) (get_or rules 3 0)) (sym (part_rest (4 + words) rules))
        (subst (λ (m : ℕ). StoredRules m (get_or rules 3 0) (drop (4 + words) rules)) (sym counted)
        (subst (λ (q : Kind). StoredRules (get_or rules 1 0) (get_or rules 3 0) (drop (4 + word_count q (get_or rules 1 0)) rules)) k
        (subst (λ (r : ℕ). StoredRules (get_or rules 1 0) r (drop (4 + word_count (kind_of (get_or rules 0 0)) (get_or rules 1 0)) rules)) (rules_count (get_or rules 3 0) (drop (4 + word_count (kind_of (get_or rules 0 0)) (get_or rules 1 0)) rules))
        (stored_rules h.store))))

    parts : (declared : List ℕ) → declarations kind (program_of kind rules) name_list ≡ declared → Ahead (source_text rules names starts) declared (rule_items name_list (rules_from (get_or rules 3 0) rule_words_from))
    unfolding text_of rule_items
    parts declared e =
        record {
          is = text_of_kind ∙ ap₂ (λ (d l : List ℕ). d ++ rule_items name_list (rules_from (get_or rules 3 0) l)) e (sym (part_rest (4 + words) rules));
        }

  -- a plain program
  module _ (e : get_or rules 0 0 ≡ 0) where
    plain : kind_of (get_or rules 0 0) ≡ Plain
    plain = ap (λ (b : Bool). cond b Plain Preference) (eq-eqb (get_or rules 0 0) 0 e)

    pub plain_rules : StoredRules (length starts) (get_or rules 3 0) (take (length rules - 4) (drop 4 rules))
    plain_rules = rules_of_kind Plain plain

    pub atoms_ahead : Ahead (source_text rules names starts) (atom_line name_list (open_bracket ∷ atoms_word) (from 0 (length starts - 0))) (rule_items name_list (rules_from (get_or rules 3 0) (take (length rules - 4) (drop 4 rules))))
    unfolding list_line open_text atom_line atom_items
    atoms_ahead =
        let m : length name_list ≡ length starts - 0 = omega (arith, length_decode (length starts) names) in
        parts Plain plain (atom_line name_list (open_bracket ∷ atoms_word) (from 0 (length starts - 0)))
        (ap (λ (l : List (List ℕ)). list_line atoms_word l) (sym (named_all name_list) ∙ ap (λ (c : ℕ). named name_list (from 0 c)) m))

  -- a preference program
  module _ (e : get_or rules 0 0 ≡ 0 → ⊥) where
    preference : kind_of (get_or rules 0 0) ≡ Preference
    preference = ap (λ (b : Bool). cond b Plain Preference) (ne_eqb (get_or rules 0 0) 0 e)

    pub words_inside : 4 + get_or rules 1 0 ≤ length rules
    words_inside = omega (arith, header, (classes_of_kind Preference preference).1, counted, length-take (get_or rules 1 0) (drop 4 rules), length-drop 4 rules)

    abbrev words_here : List ℕ
    words_here = take (4 + get_or rules 1 0 - 4) (drop 4 rules)

    words_here_lem : words_here ≡ take (get_or rules 1 0) (drop 4 rules)
    words_here_lem = rw add-sub_cancel_left

    pub class_words_lem : ClassWordsOf (length starts) (get_or rules 2 0) words_here
    class_words_lem = subst (ClassWordsOf (length starts) (get_or rules 2 0)) (sym words_here_lem) (record { form = classes_of_kind Preference preference })

    pub preference_rules : StoredRules (length starts) (get_or rules 3 0) (take (length rules - (4 + get_or rules 1 0)) (drop (4 + get_or rules 1 0) rules))
    preference_rules = rules_of_kind Preference preference

    pub classes_ahead : Ahead (source_text rules names starts) (class_items name_list words_here (get_or rules 2 0)) (rule_items name_list (rules_from (get_or rules 3 0) (take (length rules - (4 + get_or rules 1 0)) (drop (4 + get_or rules 1 0) rules))))
    unfolding class_items min_items class_item
    classes_ahead = parts Preference preference (class_items name_list words_here (get_or rules 2 0)) (ap (λ (l : List ℕ). class_items name_list l (get_or rules 2 0)) (sym words_here_lem))
