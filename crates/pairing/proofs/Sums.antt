-- The three sums: declared atoms, rules and atom places of a translation.
use Prim.Native.Nat.{ℕ, suc, ◌+◌, ◌*◌, ◌≤◌, ◌<◌}
use native.Mathlib.Omega.{arith}
use native.Mathlib.Decide.{ℕ_discrete, dec_le}
use mathlib.Core.Path.{◌≡◌, refl, sym, ap, ◌∙◌}
use mathlib.Core.List.{List, map}
use mathlib.Core.Logic.{inr}
use lib.Dec.{eqb, leb, eqb→eq, leb→le, le→leb}
use lib.ListN.{length, length-append, length-map}
use Rattle.kinds.specs.Limits.{class_limit, varying, fixed}
use Rattle.kinds.specs.declared.limits.Kind.TheVariants.{Preference}
use Rattle.rules.specs.Lists.{filter, from, sum}
use Rattle.rules.specs.Rules.{occurrences}
use Rattle.rules.specs.Preferred.{of_class}
use Rattle.rules.proofs.Booleans.{eq_to_eqb}
use Rattle.rules.proofs.Lists.{all_imp, all_from, length_from, sum_app, sum_eq, sum_twice}
use Rattle.rules.proofs.MappedLists.{sum_map, sum_flat, length_flat}
use Rattle.rules.proofs.Rules.{rename_occurrences}
use Rattle.rules.proofs.Sets.{digit}
use Rattle.stores.specs.Program.{Program, ProgramForm}
use Rattle.pairing.specs.Atoms.{original, S, originals, class_word, is_minimised, is_unminimised, is_varying, is_fixed, is_unfixed, minimised_atoms, fixed_atoms, unfixed_atoms, atom_number}
use Rattle.pairing.specs.Steps.{step1, step2, step3, step4, step5, step6, step7, step8, step9, step10, translation}
use Rattle.pairing.specs.Translated.{translated, translated_rules, numbers, atoms_sum, rules_sum, occurrences_sum}
use Rattle.rules.proofs.ListLaws.{all_each}
use Rattle.pairing.proofs.SumLaws.{sum_add, sum_const, sum_swap, length_filter, length_parts, length_keep, sum_keep, digit_same, digit_other, met, met_not, met_once}
use Rattle.pairing.proofs.Fit.{Fit, Minimised, Inside, fit_of}
use Rattle.pairing.proofs.Numbering.{count}

module _ (p : Program) where
  abbrev n : ℕ
  n = p.atoms

  abbrev k : ℕ
  k = p.classes

  abbrev r : ℕ
  r = length p.rules

  abbrev m : ℕ
  m = length (minimised_atoms p)

  abbrev u : ℕ
  u = length (unfixed_atoms p)

  -- the atoms that are not minimised
  abbrev o : ℕ
  o = length (filter (is_unminimised p) (originals p))

  others : m + o ≡ n
  others = length_parts (is_minimised p) (originals p) ∙ length_from 0 n

  -- the same number c for each of n atoms
  each : (c : ℕ) → sum (λ a. c) (originals p) ≡ c * n
  each c = sum_const c (originals p) ∙ ap (λ (x : ℕ). c * x) (length_from 0 n)

  -- rules, step by step

  rules1 : length (step1 p) ≡ o + n
  unfolding step1
  rules1 = simp (length_flat, length_keep) (sum_add (λ a. digit (is_unminimised p a)) (λ a. 1) (originals p) ∙ omega (arith, length_filter (is_unminimised p) (originals p), each 1))

  rules2 : length (step2 p) ≡ r
  unfolding step2
  rules2 = simp length-map

  rules3 : length (step3 p) ≡ r
  unfolding step3
  rules3 = simp length-map

  rules4 : length (step4 p) ≡ 1
  unfolding step4
  rules4 = refl

  rules5 : length (step5 p) ≡ k
  unfolding step5
  rules5 = simp (length-map, length_from)

  rules6 : length (step6 p) ≡ 4 * m
  unfolding step6
  rules6 = simp length_flat (sum_const 4 (minimised_atoms p))

  rules7 : length (step7 p) ≡ u
  unfolding step7
  rules7 = simp length-map

  rules8 : length (step8 p) ≡ m
  unfolding step8
  rules8 = simp length-map

  rules9 : length (step9 p) ≡ suc k
  unfolding step9
  rules9 = simp (length-map, length_from)

  rules10 : length (step10 p) ≡ 2
  unfolding step10
  rules10 = refl

  parts : length (fixed_atoms p) + u ≡ n
  parts = length_parts (is_fixed p) (originals p) ∙ length_from 0 n

  rules_all : length (translation p) ≡ o + n + (r + (r + (1 + (k + (4 * m + (u + (m + (suc k + 2))))))))
  unfolding translation
  rules_all = simp (length-append, rules1, rules2, rules3, rules4, rules5, rules6, rules7, rules8, rules9, rules10)

  module _ (fit : Fit p) where
    -- places, step by step

    places1 : sum occurrences (step1 p) ≡ 2 * o + 2 * n
    unfolding step1
    places1 = simp (sum_flat, sum_keep)
        (sum_add (λ a. digit (is_unminimised p a) * 2) (λ a. 2) (originals p)
        ∙ omega (arith, sum_twice (λ a. digit (is_unminimised p a)) (originals p), length_filter (is_unminimised p) (originals p), each 2))

    places2 : sum occurrences (step2 p) ≡ sum occurrences p.rules
    unfolding step2
    places2 = simp sum_map (sum_eq _ occurrences p.rules (all_imp (Inside n) _ (λ q i.
        let e : length q.nots ≡ 0 = ap length i.nots in
        simp (length-append, length-map) (omega (arith, length_parts (is_minimised p) q.head, length_parts (is_minimised p) q.body))) p.rules fit.rules))

    split : (l : List ℕ) → length (map S (filter (is_unfixed p) l)) + length (map original (filter (is_fixed p) l)) ≡ length l
    split l = omega (arith, length-map (filter (is_unfixed p) l) S, length-map (filter (is_fixed p) l) original, length_parts (is_fixed p) l)

    places3 : sum occurrences (step3 p) ≡ sum occurrences p.rules + r
    unfolding step3
    places3 = simp sum_map
        (sum_eq _ (λ q. occurrences q + 1) p.rules (all_imp (Inside n) _ (λ q i.
        let e : length q.nots ≡ 0 = ap length i.nots in
        simp length-append (omega (arith, split q.head, split q.body))) p.rules fit.rules)
        ∙ sum_add occurrences (λ q. 1) p.rules ∙ ap (λ (x : ℕ). sum occurrences p.rules + x) (sum_const 1 p.rules ∙ omega arith))

    places4 : sum occurrences (step4 p) ≡ 2
    unfolding step4
    places4 = refl

    -- each minimised atom is in one class
    met_minimised : (a : ℕ) → a < n → met (class_word p a) 1 k ≡ digit (is_minimised p a)
    met_minimised a l = step (dec_le (class_word p a) class_limit)
      where
        step : Dec (Minimised p a) → met (class_word p a) 1 k ≡ digit (is_minimised p a)
        step (yes c) = met_once (class_word p a) 1 k (fit.low a l) (omega (arith, fit.class a l c)) ∙ sym (digit_same (is_minimised p a) (le→leb (class_word p a) class_limit c))
        step (no c) = met_not (class_word p a) 1 k (inr (omega (arith, fit.classes))) ∙ sym (digit_other (is_minimised p a) (λ t. c (leb→le (class_word p a) class_limit t)))

    classes_sum : sum (λ i. length (of_class p.words i)) (from 1 k) ≡ m
    classes_sum =
        let c = fit.count in
        let all = from 0 (length p.words) in
        sum_eq (λ i. length (of_class p.words i)) (λ i. sum (λ a. digit (eqb (class_word p a) i)) all) (from 1 k) (all_each (λ i. length (of_class p.words i) ≡ sum (λ a. digit (eqb (class_word p a) i)) all) (λ i. length_filter (λ a. eqb (class_word p a) i) all) (from 1 k))
        ∙ sum_swap (λ i a. digit (eqb (class_word p a) i)) (from 1 k) all
        ∙ sum_eq (λ a. met (class_word p a) 1 k) (λ a. digit (is_minimised p a)) all (all_from (λ a. met (class_word p a) 1 k ≡ digit (is_minimised p a)) 0 (length p.words) (λ a l u. met_minimised a (omega arith)))
        ∙ ap (λ (x : ℕ). sum (λ a. digit (is_minimised p a)) (from 0 x)) c
        ∙ sym (length_filter (is_minimised p) (originals p))

    places5 : sum occurrences (step5 p) ≡ m + 3 * k
    unfolding step5
    places5 = simp sum_map
        (sum_eq _ (λ i. length (of_class p.words i) + 3) (from 1 k) (all_each _ (λ i. simp (length-append, length-map) (omega arith)) (from 1 k))
        ∙ sum_add (λ i. length (of_class p.words i)) (λ i. 3) (from 1 k)
        ∙ omega (arith, classes_sum, sum_const 3 (from 1 k), length_from 1 k))

    places6 : sum occurrences (step6 p) ≡ 14 * m
    unfolding step6
    places6 = simp sum_flat (sum_const 14 (minimised_atoms p))

    places7 : sum occurrences (step7 p) ≡ 2 * u
    unfolding step7
    places7 = simp sum_map (sum_const 2 (unfixed_atoms p))

    places8 : sum occurrences (step8 p) ≡ 2 * m
    unfolding step8
    places8 = simp sum_map (sum_const 2 (minimised_atoms p))

    places9 : sum occurrences (step9 p) ≡ 2 * suc k
    unfolding step9
    places9 = simp sum_map (sum_const 2 (from 0 (suc k)) ∙ ap (λ (x : ℕ). 2 * x) (length_from 0 (suc k)))

    places10 : sum occurrences (step10 p) ≡ 3
    unfolding step10
    places10 = refl

    places_all : sum occurrences (translation p)
        ≡ 2 * o + 2 * n + (sum occurrences p.rules + (sum occurrences p.rules + r + (2 + (m + 3 * k + (14 * m + (2 * u + (2 * m + (2 * suc k + 3))))))))
    unfolding translation
    places_all = simp (sum_app, places1, places2, places3, places4, places5, places6, places7, places8, places9, places10)

module _ (p : Program) (kind : p.kind ≡ Preference) (form : ProgramForm p) where
  pub atoms_sum_lem : (translated p).atoms ≡ atoms_sum (numbers p)
  unfolding numbers
  atoms_sum_lem = omega (arith, count p, parts p)

  pub rules_sum_lem : length (translated p).rules ≡ rules_sum (numbers p)
  unfolding numbers translated_rules
  rules_sum_lem = simp length-map (omega (arith, rules_all p, parts p, others p))

  pub occurrences_sum_lem : sum occurrences (translated p).rules ≡ occurrences_sum (numbers p)
  unfolding numbers translated_rules
  occurrences_sum_lem = rename_occurrences (atom_number p) (translation p) ∙ omega (arith, places_all p (fit_of p kind form), parts p, others p)

  -- n counts all three
  pub atoms_three : (numbers p).n ≡ (numbers p).p + (numbers p).v + (numbers p).f
  unfolding numbers
  atoms_three = omega (
    arith,
    length_from 0 p.atoms,
    length_filter (is_minimised p) (originals p),
    length_filter (is_varying p) (originals p),
    length_filter (is_fixed p) (originals p),
    sum_add (λ a. digit (is_minimised p a) + digit (is_varying p a)) (λ a. digit (is_fixed p a)) (originals p),
    sum_add (λ a. digit (is_minimised p a)) (λ a. digit (is_varying p a)) (originals p),
    sum_const 1 (originals p),
    sum_eq (λ a. digit (is_minimised p a) + digit (is_varying p a) + digit (is_fixed p a)) (λ a. 1) (originals p) (all_from (λ a. digit (is_minimised p a) + digit (is_varying p a) + digit (is_fixed p a) ≡ 1) 0 p.atoms (λ a l u. one a (omega arith))),
  )
    where
      one : (a : ℕ) → a < p.atoms → digit (is_minimised p a) + digit (is_varying p a) + digit (is_fixed p a) ≡ 1
      one a l = step (class_word p a) ((fit_of p kind form).high a l)
        where
          step : (w : ℕ) → w ≤ fixed → digit (leb w class_limit) + digit (eqb w varying) + digit (eqb w fixed) ≡ 1
          step w h = go (dec_le w class_limit) (ℕ_discrete w varying)
            where
              go : Dec (w ≤ class_limit) → Dec (w ≡ varying) → digit (leb w class_limit) + digit (eqb w varying) + digit (eqb w fixed) ≡ 1
              go (yes c) d = omega (arith, digit_same (leb w class_limit) (le→leb w class_limit c), digit_other (eqb w varying) (λ t. let e = eqb→eq w varying t in omega arith), digit_other (eqb w fixed) (λ t. let e = eqb→eq w fixed t in omega arith))
              go (no c) (yes d) = omega (arith, digit_other (leb w class_limit) (λ t. c (leb→le w class_limit t)), digit_same (eqb w varying) (eq_to_eqb w varying d), digit_other (eqb w fixed) (λ t. let e = eqb→eq w fixed t in omega arith))
              go (no c) (no d) = omega (arith, digit_other (leb w class_limit) (λ t. c (leb→le w class_limit t)), digit_other (eqb w varying) (λ t. d (eqb→eq w varying t)), digit_same (eqb w fixed) (eq_to_eqb w fixed (omega arith)))
