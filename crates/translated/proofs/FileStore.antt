-- What the store of a preference program holds, place by place, and the store of its translation.
use Prim.Native.Nat.{ℕ, suc, ◌+◌, ◌-◌, ◌*◌, ◌≤◌}
use native.Mathlib.Omega.{arith}
use mathlib.Core.Path.{◌≡◌, refl, sym, ap, ◌∙◌, subst}
use mathlib.Core.Bool.{not}
use mathlib.Core.List.{List, [], ◌∷◌}
use lib.Dec.{leb→le, lt→ltb}
use lib.ListN.{length, get_or, take, drop, length-append}
use Rattle.kinds.specs.Sizes.{store_words}
use Rattle.kinds.specs.Limits.{class_limit}
use Rattle.kinds.specs.declared.limits.Kind.{Kind}
use Rattle.rules.specs.Lists.{filter, flat, from}
use Rattle.rules.proofs.Booleans.{T_of}
use Rattle.rules.proofs.Lists.{length_from, part_rest}
use Rattle.stores.specs.Program.{Program, ProgramForm, ClassesForm, NeverFalling}
use Rattle.stores.specs.RuleStore.{rule_words, encode, decode, word_count, rules_from}
use Rattle.stores.specs.StoredRules.{StoredRules}
use Rattle.stores.proofs.RuleStores.{rules_length}
use Rattle.stores.proofs.StoredRules.{stored_rules}
use Rattle.pairing.specs.Atoms.{originals, class_word, is_fixed, is_minimised, minimised_atoms, unfixed_atoms, fixed_atoms, declared}
use Rattle.pairing.specs.Loops.{looped}
use Rattle.pairing.specs.Translated.{translated, numbers}
use Rattle.pairing.proofs.Fit.{Fit, fit_of}
use Rattle.pairing.proofs.SumLaws.{length_parts}
use Rattle.pairing.proofs.Numbering.{count, minimised_below}
use Rattle.pairing.proofs.Sums.{rules_sum_lem}
use Rattle.pairing.proofs.Looped.{looped_rules}
use Rattle.pairing.proofs.PlainForm.{plain_form}
use Rattle.output.specs.Emitted.{InRange}
use Rattle.output.proofs.Emitting.{Ahead}
use Rattle.steps.specs.declared.offsets.Offsets.{Offsets}
use Rattle.steps.specs.Offsets.{offsets_of, Small, FileFits, ClassesFit}
use Rattle.translated.specs.PreferenceStore.{PreferenceStore}
use Rattle.atom_lists.specs.Roles.{Low, FirstMinimised, minimised_count, unfixed_count}
use Rattle.steps.specs.StepWords.{step_words}
use Rattle.translated.proofs.StoreWords.{all_steps}

-- the class words and the words of the rules, as the code takes them
abbrev pub class_part : List ℕ → List ℕ
class_part ws = take (4 + get_or ws 1 0 - 4) (drop 4 ws)

abbrev pub rule_part : List ℕ → List ℕ
rule_part ws = take (length ws - (4 + get_or ws 1 0)) (drop (4 + get_or ws 1 0) ws)

module _ {ws : List ℕ} (h : PreferenceStore ws) where
  abbrev p : Program
  p = decode ws

  fit : Fit p
  fit = fit_of p h.kind h.store.form

  pub atoms_at : p.atoms ≡ get_or ws 1 0
  unfolding decode
  atoms_at = refl

  pub classes_at : p.classes ≡ get_or ws 2 0
  unfolding decode
  classes_at = refl

  count_at : length p.rules ≡ get_or ws 3 0
  unfolding encode
  count_at = ap (λ (l : List ℕ). get_or l 3 0) h.store.words

  size : length ws ≡ 4 + (length p.words + length (flat rule_words p.rules))
  unfolding encode
  size = sym (ap length h.store.words) ∙ omega (arith, length-append p.words (flat rule_words p.rules))

  pub few_atoms : get_or ws 1 0 ≤ 256
  few_atoms = omega (arith, atoms_at, fit.atoms_fit)

  pub few_classes_lem : get_or ws 2 0 ≤ 16
  few_classes_lem = omega (arith, classes_at, fit.classes)

  pub few_rules : get_or ws 3 0 ≤ 1024
  few_rules = omega (arith, count_at, fit.rules_fit_lem)

  pub long : 4 + get_or ws 1 0 ≤ length ws
  long = omega (arith, atoms_at, size, fit.count)

  words_at : p.words ≡ class_part ws
  unfolding decode
  words_at =
      let e : get_or ws 1 0 ≡ 4 + get_or ws 1 0 - 4 = omega arith in
      ap (λ (k : Kind). take (word_count k (get_or ws 1 0)) (drop 4 ws)) h.kind ∙ ap (λ (c : ℕ). take c (drop 4 ws)) e

  rules_at : p.rules ≡ rules_from (get_or ws 3 0) (rule_part ws)
  unfolding decode
  rules_at =
      ap (λ (k : Kind). rules_from (get_or ws 3 0) (drop (4 + word_count k (get_or ws 1 0)) ws)) h.kind
      ∙ ap (rules_from (get_or ws 3 0)) (sym (part_rest (4 + get_or ws 1 0) ws))

  rules_stored : StoredRules (get_or ws 1 0) (get_or ws 3 0) (rule_part ws)
  unfolding decode
  rules_stored =
      subst (StoredRules (get_or ws 1 0) (get_or ws 3 0)) (sym (part_rest (4 + get_or ws 1 0) ws))
      (subst (λ (k : Kind). StoredRules (get_or ws 1 0) (get_or ws 3 0) (drop (4 + word_count k (get_or ws 1 0)) ws)) h.kind
      (subst (λ (r : ℕ). StoredRules (get_or ws 1 0) r (drop (4 + word_count p.kind (get_or ws 1 0)) ws)) count_at (stored_rules h.store)))

  pub class_count_lem : length (class_part ws) ≡ get_or ws 1 0
  class_count_lem = sym (ap length words_at) ∙ fit.count ∙ atoms_at

  pub few_words : length (class_part ws) ≤ 256
  few_words = omega (arith, class_count_lem, few_atoms)

  low_words : Low p.words
  low_words = record { word = λ a l. fit.low a (omega (arith, fit.count)) }

  pub low : Low (class_part ws)
  low = subst Low words_at low_words

  pub minimised_count_lem : minimised_count (class_part ws) ≡ length (minimised_atoms p)
  unfolding minimised_count
  minimised_count_lem = ap minimised_count (sym words_at) ∙ ap (λ (c : ℕ). length (filter (is_minimised p) (from 0 c))) fit.count

  pub unfixed_count_lem : unfixed_count (class_part ws) ≡ length (unfixed_atoms p)
  unfolding unfixed_count
  unfixed_count_lem = ap unfixed_count (sym words_at) ∙ ap (λ (c : ℕ). length (filter (λ a. not (is_fixed p a)) (from 0 c))) fit.count

  pub few_minimised : length (minimised_atoms p) ≤ p.atoms
  few_minimised = omega (arith, length_parts (is_minimised p) (originals p), length_from 0 p.atoms)

  pub few_unfixed : length (fixed_atoms p) + length (unfixed_atoms p) ≡ p.atoms
  few_unfixed = length_parts (is_fixed p) (originals p) ∙ length_from 0 p.atoms

  first_words : FirstMinimised (length (minimised_atoms p)) p.words
  first_words = record {
    inside = omega (arith, few_minimised, fit.count);
    low = low_words;
    class = λ a l. leb→le (class_word p a) class_limit (T_of (sym (minimised_below p fit a (omega (arith, few_minimised)))) (lt→ltb a (length (minimised_atoms p)) l));
  }

  rising : NeverFalling 0 p.words
  rising = (subst (λ (k : Kind). ClassesForm k p.atoms p.classes p.words) h.kind h.store.form.classes_form).3

  module _ {m q : ℕ} (m-is : m ≡ minimised_count (class_part ws)) (q-is : q ≡ unfixed_count (class_part ws)) where
    pub few_m : m ≤ 256
    few_m = omega (arith, m-is, minimised_count_lem, few_minimised, fit.atoms_fit)

    pub few_q : q ≤ 256
    few_q = omega (arith, q-is, unfixed_count_lem, few_unfixed, fit.atoms_fit)

    module _ {o : Offsets} (o_is : o ≡ offsets_of (get_or ws 1 0) (get_or ws 2 0) m q) where
      pub small : Small o
      small = subst Small (sym o_is) (record {
        n_fits = few_atoms;
        s_fits = omega (arith, few_atoms);
        d_fits = omega (arith, few_atoms, few_q);
        e_fits = omega (arith, few_atoms, few_q, few_m);
        u_fits = omega (arith, few_atoms, few_q, few_m, few_classes_lem);
      })

      n_is : get_or ws 1 0 ≡ o.n
      n_is = ap (λ (x : Offsets). x.n) (sym o_is)

      pub file_fits : FileFits (rule_part ws) (get_or ws 3 0) o
      file_fits = record {
        small = small;
        rules = subst (λ (n : ℕ). StoredRules n (get_or ws 3 0) (rule_part ws)) n_is rules_stored;
      }

      pub classes_fit : ClassesFit (class_part ws) (get_or ws 2 0) m o
      classes_fit = record {
        small = small;
        atoms = class_count_lem ∙ n_is;
        classes = few_classes_lem;
        rising = subst (NeverFalling 0) words_at rising;
        first = subst (λ (c : ℕ). FirstMinimised c (class_part ws)) (sym (m-is ∙ minimised_count_lem)) (subst (FirstMinimised (length (minimised_atoms p))) words_at first_words);
      }

      -- the store of the translation: its header, and the words of all steps

      abbrev offsets : Offsets
      offsets =
          record {
            n = p.atoms;
            s = 2 * p.atoms;
            d = 2 * p.atoms + length (unfixed_atoms p);
            e = 2 * p.atoms + length (unfixed_atoms p) + length (minimised_atoms p);
            u = 2 * p.atoms + length (unfixed_atoms p) + length (minimised_atoms p) + suc p.classes;
          }

      offsets_are : offsets ≡ o
      offsets_are =
          let qs : length (unfixed_atoms p) ≡ q = sym (q-is ∙ unfixed_count_lem) in
          let ms : length (minimised_atoms p) ≡ m = sym (m-is ∙ minimised_count_lem) in
          let last : 2 * p.atoms + length (unfixed_atoms p) + length (minimised_atoms p) + suc p.classes ≡ 2 * p.atoms + length (unfixed_atoms p) + length (minimised_atoms p) + (p.classes + 1) = omega arith in
          (λ i. record {
            n = p.atoms;
            s = 2 * p.atoms;
            d = 2 * p.atoms + length (unfixed_atoms p);
            e = 2 * p.atoms + length (unfixed_atoms p) + length (minimised_atoms p);
            u = last i;
          })
          ∙ (λ i. offsets_of (atoms_at i) (classes_at i) (ms i) (qs i))
          ∙ sym o_is

      steps_are : flat rule_words (translated p).rules ≡ step_words (class_part ws) (rules_from (get_or ws 3 0) (rule_part ws)) (get_or ws 2 0) m q o
      unfolding looped
      steps_are =
          ap (flat rule_words) (looped_rules p h.kind h.store.form)
          ∙ all_steps p.words p.rules p.classes (length (minimised_atoms p)) (length (unfixed_atoms p)) offsets refl refl refl
          ∙ (λ i. step_words (words_at i) (rules_at i) (classes_at i) (sym (m-is ∙ minimised_count_lem) i) (sym (q-is ∙ unfixed_count_lem) i) (offsets_are i))

      atoms_are : length (declared p) ≡ o.u + 1
      atoms_are =
          let u-is : o.u ≡ 2 * get_or ws 1 0 + q + m + (get_or ws 2 0 + 1) = ap (λ (x : Offsets). x.u) o_is in
          omega (arith, count p, u-is, atoms_at, classes_at, q-is, unfixed_count_lem, m-is, minimised_count_lem)

      rules_are : length (translated p).rules ≡ 2 * get_or ws 1 0 + q + 2 * get_or ws 3 0 + 4 * m + 2 * get_or ws 2 0 + 4
      unfolding numbers
      rules_are = omega (arith, rules_sum_lem p h.kind h.store.form, few_unfixed, atoms_at, classes_at, count_at, q-is, unfixed_count_lem, m-is, minimised_count_lem)

      pub header_ahead : Ahead (encode (translated p)) (0 ∷ (o.u + 1) ∷ 0 ∷ (2 * get_or ws 1 0 + q + 2 * get_or ws 3 0 + 4 * m + 2 * get_or ws 2 0 + 4) ∷ []) (step_words (class_part ws) (rules_from (get_or ws 3 0) (rule_part ws)) (get_or ws 2 0) m q o)
      unfolding encode
      header_ahead = record { is = λ i. 0 ∷ atoms_are i ∷ 0 ∷ rules_are i ∷ steps_are i }

  -- the store fits the scratch of the translator
  pub store_fits : length (encode (translated p)) ≤ store_words
  unfolding encode
  store_fits =
      let f : ProgramForm (translated p) = plain_form p h.kind h.store.form in
      omega (arith, rules_length (translated p).rules, f.rules_fit_lem, f.occurrences_fit)

  pub store_range : InRange 0 (encode (translated p))
  store_range = record { below = omega (arith, store_fits) }
