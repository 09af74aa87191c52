-- The translation is of the plain form: inside the limits, atom numbers below the count, no list with an atom twice.
use Prim.Native.Nat.{ℕ, ◌<◌}
use native.Mathlib.Omega.{arith}
use mathlib.Core.Path.{◌≡◌, refl, sym, ap, ◌∙◌}
use mathlib.Core.List.{List, [], ◌∷◌, ◌++◌, map}
use mathlib.Core.Bool.{Bool, not}
use mathlib.Core.Logic.{◌≢◌}
use lib.Dec.{T, eqb}
use lib.ListN.{length, get_or}
use Rattle.kinds.specs.declared.limits.Kind.TheVariants.{Plain, Preference}
use Rattle.rules.specs.Lists.{All, Distinct, filter, from}
use Rattle.rules.specs.Rules.{Rule}
use Rattle.rules.specs.Renumbering.{Within}
use Rattle.rules.specs.Preferred.{of_class}
use Rattle.rules.proofs.Booleans.{T-not-out, eq_to_eqb}
use Rattle.rules.proofs.Lists.{all_imp, all_both, all_zip, all_map, app_iff, map_iff, length_from, distinct_from, distinct_map}
use Rattle.stores.specs.Program.{Program, ProgramForm, ListForm, RuleForm}
use Rattle.pairing.specs.Atoms.{Atom, original, N, S, D, E, U, originals, class_word, is_fixed, is_unfixed, is_minimised, is_unminimised, declared, atom_number}
use Rattle.pairing.specs.Steps.{step1, step2, step3, step4, step5, step6, step7, step8, step9, step10, translation}
use Rattle.pairing.specs.Translated.{translated, translated_rules, numbers}
use Rattle.pairing.proofs.Quantified.{Each·simp}
use Rattle.rules.proofs.Filtered.{distinct_filter}
use Rattle.rules.proofs.ListLaws.{all_each, distinct_inj, distinct_map_app, NoImage}
use Rattle.pairing.proofs.SumLaws.{length_parts}
use Rattle.pairing.proofs.Fit.{Fit, Inside, fit_of}
use Rattle.pairing.proofs.Numbering.{order, known}
use Rattle.pairing.proofs.NumberedSets.{of_numbers}
use Rattle.pairing.proofs.Closed.{closed}
use Rattle.pairing.proofs.Sums.{atoms_sum_lem, rules_sum_lem, occurrences_sum_lem}

-- atoms of two kinds differ
abbrev kind_of : Atom → ℕ
kind_of (original a) = 0
kind_of (N a) = 1
kind_of (S a) = 2
kind_of (D a) = 3
kind_of (E j) = 4
kind_of U = 5

differ : (c d : Atom) → T (not (eqb (kind_of c) (kind_of d))) → c ≢ d
differ c d h e = T-not-out (eqb (kind_of c) (kind_of d)) h (eq_to_eqb (kind_of c) (kind_of d) (ap kind_of e))

-- no list of a rule has an atom twice
pub record Single {A : Type 0} (r : Rule A) : Type 0 where
  pub head : Distinct r.head
  pub body : Distinct r.body
  pub nots : Distinct r.nots

module _ (p : Program) (fit : Fit p) where
  owns : (t : ℕ → Bool) (l : List ℕ) → Distinct l → Distinct (map original (filter t l))
  owns t l h = distinct_inj original (λ a b e. cc) (filter t l) (distinct_filter t l h)

  copies : (l : List ℕ) (ys : List Atom) → Distinct l → Distinct ys → All (NoImage S) ys → Distinct (map S (filter (is_unfixed p) l) ++ ys)
  copies l ys h = distinct_map_app S (λ a b e. cc) (filter (is_unfixed p) l) ys (distinct_filter (is_unfixed p) l h)

  single1 : All Single (step1 p)
  unfolding step1
  single1 = simp Each·simp (search)

  single2 : All Single (step2 p)
  unfolding step2
  single2 = simp map_iff (all_imp (Inside p.atoms) _ (λ r i. record {
    head = owns (is_minimised p) r.head i.head_distinct;
    body = owns (is_minimised p) r.body i.body_distinct;
    nots =
        let others : List ℕ = filter (is_unminimised p) r.body in
        distinct_map_app original (λ a b e. cc) (filter (is_unminimised p) r.head) (map N others) (distinct_filter (is_unminimised p) r.head i.head_distinct) (distinct_inj N (λ a b e. cc) others (distinct_filter (is_unminimised p) r.body i.body_distinct)) (simp map_iff (all_each _ (λ b a. differ (original a) (N b) tt) others));
  }) p.rules fit.rules)

  single3 : All Single (step3 p)
  unfolding step3
  single3 = simp map_iff (all_imp (Inside p.atoms) _ (λ r i. record {
    head = copies r.head (U ∷ []) i.head_distinct (tt, tt) ((λ a. differ (S a) U tt), tt);
    body = copies r.body (map original (filter (is_fixed p) r.body)) i.body_distinct (owns (is_fixed p) r.body i.body_distinct) (simp map_iff (all_each _ (λ b a. differ (S a) (original b) tt) (filter (is_fixed p) r.body)));
    nots = owns (is_fixed p) r.head i.head_distinct;
  }) p.rules fit.rules)

  single4 : All Single (step4 p)
  unfolding step4
  single4 = search differ

  single5 : All Single (step5 p)
  unfolding step5
  single5 = simp Each·simp (λ i l u. record {
    head = distinct_map_app D (λ a b e. cc) (of_class p.words i) (E i ∷ U ∷ []) (distinct_filter (λ a. eqb (class_word p a) i) (from 0 (length p.words)) (distinct_from 0 (length p.words))) ((differ (E i) U tt, tt), (tt, tt)) ((λ a. differ (D a) (E i) tt), ((λ a. differ (D a) U tt), tt));
    body = (tt, tt);
    nots = tt;
  })

  single6 : All Single (step6 p)
  unfolding step6
  single6 = simp Each·simp (λ a l c. search differ)

  single7 : All Single (step7 p)
  unfolding step7
  single7 = simp Each·simp (search)

  single8 : All Single (step8 p)
  unfolding step8
  single8 = simp Each·simp (search)

  single9 : All Single (step9 p)
  unfolding step9
  single9 = simp Each·simp (search)

  single10 : All Single (step10 p)
  unfolding step10
  single10 = search

  single : All Single (translation p)
  unfolding translation
  single = simp app_iff (single1, (single2, (single3, (single4, (single5, (single6, (single7, (single8, (single9, single10)))))))))

  -- a declared atom: its number is below the count, and it is found again by it
  abbrev Placed : Atom → Type 0
  Placed c = (atom_number p c < length (declared p)) × (get_or (declared p) (atom_number p c) U ≡ c)

  placed : All Placed (declared p)
  placed = all_both (λ c. atom_number p c < length (declared p)) (λ c. get_or (declared p) (atom_number p c) U ≡ c) (declared p) (of_numbers (atom_number p) U (declared p) (order p fit) (λ i. i < length (declared p)) (λ i l. l)) (known p fit)

  list_form : (l : List Atom) → All Placed l → Distinct l → ListForm (length (declared p)) (map (atom_number p) l)
  list_form l h d = (
    all_map (λ a. a < length (declared p)) (atom_number p) l (all_imp Placed (λ c. atom_number p c < length (declared p)) (λ c q. q.0) l h),
    distinct_map (atom_number p) Placed (λ a b q s e. sym q.1 ∙ ap (λ (i : ℕ). get_or (declared p) i U) e ∙ s.1) l h d,
  )

  rule_forms : All (RuleForm Plain (length (declared p))) (translated_rules p)
  unfolding translated_rules
  rule_forms = simp map_iff (all_zip (Within Placed) Single _ (λ r g k. record {
    head_form = list_form r.head g.head k.head;
    body_form = list_form r.body g.body k.body;
    nots_form = list_form r.nots g.nots k.nots;
    no_nots = tt;
  }) (translation p) (closed p fit Placed placed) single)

pub plain_form : (p : Program) → p.kind ≡ Preference → ProgramForm p → ProgramForm (translated p)
unfolding numbers
plain_form p kind form =
    let fit = fit_of p kind form in
    let few = length_parts (is_minimised p) (originals p) ∙ length_from 0 p.atoms in
    record {
      atoms_fit = omega (arith, atoms_sum_lem p kind form);
      rules_fit_lem = omega (arith, rules_sum_lem p kind form);
      occurrences_fit = omega (arith, occurrences_sum_lem p kind form);
      classes_form = (refl, refl);
      rule_forms = rule_forms p fit;
    }
