-- The translated rules and names are what the loops over numbers write.
use Prim.Native.Nat.{ℕ, suc, ◌+◌, ◌*◌, ◌≤◌, ◌<◌}
use native.Mathlib.Omega.{arith}
use mathlib.Core.Path.{◌≡◌, refl, sym, ap, ap₂, ◌∙◌}
use mathlib.Core.List.{List, [], ◌∷◌, ◌++◌, map, map-map, map-id, map-append}
use mathlib.Core.Bool.{Bool}
use lib.ListN.{length, get_or, take}
use lib.Seq.{take-length}
use Rattle.kinds.specs.declared.limits.Kind.TheVariants.{Preference}
use Rattle.kinds.specs.Words.{decimal}
use Rattle.rules.specs.Lists.{All, keep, filter, flat, from}
use Rattle.rules.specs.Rules.{Rule, rule, rename}
use Rattle.rules.proofs.Lists.{all_imp, all_from, length_from}
use Rattle.rules.proofs.MappedLists.{map_keep}
use Rattle.stores.specs.Program.{Program, ProgramForm}
use Rattle.pairing.specs.Atoms.{Atom, original, N, S, D, E, U, originals, class_word, is_fixed, is_unfixed, is_minimised, is_unminimised, minimised_atoms, unfixed_atoms, declared, atom_number, name_of}
use Rattle.pairing.specs.Steps.{step1, step2, step3, step4, step5, step6, step7, step8, step9, step10, translation}
use Rattle.pairing.specs.Translated.{translated, translated_rules, translated_names}
use Rattle.pairing.specs.Loops.{below, beyond, loop1, loop2, loop3, loop4, loop5, loop6, loop789, loop10, looped, dot, looped_names}
use Rattle.rules.proofs.Filtered.{filter_same}
use Rattle.rules.proofs.ListLaws.{map_flat, map_eq, map_same, flat_same, entries}
use Rattle.pairing.proofs.SumLaws.{length_parts}
use Rattle.pairing.proofs.Fit.{Fit, Inside, fit_of}
use Rattle.pairing.proofs.Numbering.{unfixed_first, minimised_first, minimised_below, unminimised_beyond, unfixed_below, fixed_beyond}

module _ (p : Program) where
  abbrev q : ℕ
  q = length (unfixed_atoms p)

  abbrev m : ℕ
  m = length (minimised_atoms p)

  abbrev s : ℕ
  s = 2 * p.atoms

  abbrev d : ℕ
  d = 2 * p.atoms + q

  abbrev e : ℕ
  e = 2 * p.atoms + q + m

  abbrev u : ℕ
  u = 2 * p.atoms + q + m + suc p.classes

  abbrev numbered : Rule Atom → Rule ℕ
  numbered = rename (atom_number p)

  looped5 : map numbered (step5 p) ≡ map (loop5 p.words d e u) (from 1 p.classes)
  unfolding step5
  looped5 = simp (map-map, map-append)

  looped4 : map numbered (step4 p) ≡ loop4 e u ∷ []
  unfolding step4
  looped4 = refl

  looped9 : map numbered (step9 p) ≡ map (λ j. loop789 u (e + j)) (from 0 (suc p.classes))
  unfolding step9
  looped9 = map-map numbered (λ j. rule (E j ∷ []) (U ∷ []) []) (from 0 (suc p.classes))

  looped10 : map numbered (step10 p) ≡ loop10 e u p.classes
  unfolding step10
  looped10 = refl

  module _ (fit : Fit p) where
    looped1 : map numbered (step1 p) ≡ flat (loop1 m p.atoms) (from 0 p.atoms)
    unfolding step1
    looped1 = simp (map_flat, map_keep) (flat_same _ (loop1 m p.atoms) (from 0 p.atoms) (all_from _ 0 p.atoms (λ a l h.
        ap (λ (b : Bool). keep b (rule (a ∷ []) [] ((p.atoms + a) ∷ [])) (rule ((p.atoms + a) ∷ []) [] (a ∷ []) ∷ [])) (unminimised_beyond p fit a (omega arith)))))

    -- a rule's lists by the two tests
    chosen : (t u : ℕ → Bool) → ((a : ℕ) → a < p.atoms → t a ≡ u a) → (l : List ℕ) → All (λ a. a < p.atoms) l → filter t l ≡ filter u l
    chosen t u e l h = filter_same t u l (all_imp (λ a. a < p.atoms) (λ a. t a ≡ u a) e l h)

    looped2 : map numbered (step2 p) ≡ map (loop2 m p.atoms) p.rules
    unfolding step2
    looped2 = simp (map-map, map-append, map-id) (map_same _ (loop2 m p.atoms) p.rules (all_imp (Inside p.atoms) _ (λ r i j. rule
        (chosen (is_minimised p) (below m) (minimised_below p fit) r.head i.head j)
        (chosen (is_minimised p) (below m) (minimised_below p fit) r.body i.body j)
        (chosen (is_unminimised p) (beyond m) (unminimised_beyond p fit) r.head i.head j ++ map (λ a. p.atoms + a) (chosen (is_unminimised p) (beyond m) (unminimised_beyond p fit) r.body i.body j))) p.rules fit.rules))

    looped3 : map numbered (step3 p) ≡ map (loop3 q s u) p.rules
    unfolding step3
    looped3 = simp (map-map, map-append, map-id) (map_same _ (loop3 q s u) p.rules (all_imp (Inside p.atoms) _ (λ r i j. rule
        (map (λ a. s + a) (chosen (is_unfixed p) (below q) (unfixed_below p fit) r.head i.head j) ++ (u ∷ []))
        (map (λ a. s + a) (chosen (is_unfixed p) (below q) (unfixed_below p fit) r.body i.body j) ++ chosen (is_fixed p) (beyond q) (fixed_beyond p fit) r.body i.body j)
        (chosen (is_fixed p) (beyond q) (fixed_beyond p fit) r.head i.head j)) p.rules fit.rules))

    looped6 : map numbered (step6 p) ≡ flat (λ a. loop6 p.atoms s d e u (class_word p a) a) (from 0 m)
    unfolding step6
    looped6 = simp map_flat (ap (flat (λ a. loop6 p.atoms s d e u (class_word p a) a)) (minimised_first p fit))

    looped7 : map numbered (step7 p) ≡ map (λ a. loop789 u (s + a)) (from 0 q)
    unfolding step7
    looped7 = simp map-map (ap (map (λ a. loop789 u (s + a))) (unfixed_first p fit))

    looped8 : map numbered (step8 p) ≡ map (λ a. loop789 u (d + a)) (from 0 m)
    unfolding step8
    looped8 = simp map-map (ap (map (λ a. loop789 u (d + a))) (minimised_first p fit))

    whole : translated_rules p ≡ looped p
    unfolding translated_rules translation looped
    whole = simp (map-append, looped1, looped2, looped3, looped4, looped5, looped6, looped7, looped8, looped9, looped10)

  -- the names

  module _ (fit : Fit p) (names : List (List ℕ)) (count : length names ≡ p.atoms) where
    abbrev name : ℕ → List ℕ
    name a = get_or names a []

    first_names : (c : ℕ) → c ≤ p.atoms → map name (from 0 c) ≡ take c names
    first_names c l = entries [] names [] c (omega arith)

    few_unfixed : q ≤ p.atoms
    few_unfixed = omega (arith, length_parts (is_fixed p) (originals p), length_from 0 p.atoms)

    few_minimised : m ≤ p.atoms
    few_minimised = omega (arith, length_parts (is_minimised p) (originals p), length_from 0 p.atoms)

    all_names : map name (originals p) ≡ names
    all_names = first_names p.atoms (omega arith) ∙ ap (λ (c : ℕ). take c names) (sym count) ∙ take-length names

    dots : (c : ℕ) (l : List ℕ) (r : List (List ℕ)) → map name l ≡ r → map (λ a. dot c (name a)) l ≡ map (dot c) r
    dots c l r h = sym (map-map (dot c) name l) ∙ ap (map (dot c)) h

    both : (xs ys : List Atom) (l r : List (List ℕ)) → map (name_of names) xs ≡ l → map (name_of names) ys ≡ r → map (name_of names) (xs ++ ys) ≡ l ++ r
    both xs ys l r f g = map-append (name_of names) xs ys ∙ ap₂ (λ (x y : List (List ℕ)). x ++ y) f g

    run : (f : ℕ → Atom) (c : ℕ) (l : List ℕ) (r : List (List ℕ)) → ((a : ℕ) → name_of names (f a) ≡ dot c (name a)) → map name l ≡ r → map (name_of names) (map f l) ≡ map (dot c) r
    run f c l r g h = map-map (name_of names) f l ∙ map_eq (λ a. name_of names (f a)) (λ a. dot c (name a)) g l ∙ dots c l r h

    whole_names : translated_names p names ≡ looped_names p names
    unfolding translated_names declared looped_names
    whole_names =
        both (map original (originals p)) _ names _ (map-map (name_of names) original (originals p) ∙ all_names)
        (both (map N (originals p)) _ (map (dot 78) names) _ (run N 78 (originals p) names (λ a. refl) all_names)
        (both (map S (unfixed_atoms p)) _ (map (dot 83) (take q names)) _ (run S 83 (unfixed_atoms p) (take q names) (λ a. refl) (ap (map name) (unfixed_first p fit) ∙ first_names q few_unfixed))
        (both (map D (minimised_atoms p)) _ (map (dot 68) (take m names)) _ (run D 68 (minimised_atoms p) (take m names) (λ a. refl) (ap (map name) (minimised_first p fit) ∙ first_names m few_minimised))
        (both (map E (from 0 (suc p.classes))) (U ∷ []) (map (λ j. dot 69 (decimal j)) (from 0 (suc p.classes))) ((85 ∷ []) ∷ []) (map-map (name_of names) E (from 0 (suc p.classes))) refl))))

pub looped_rules : (p : Program) → p.kind ≡ Preference → ProgramForm p → (translated p).rules ≡ looped p
looped_rules p kind form = whole p (fit_of p kind form)

pub looped_names_lem : (p : Program) → p.kind ≡ Preference → ProgramForm p → (names : List (List ℕ)) → length names ≡ p.atoms → translated_names p names ≡ looped_names p names
looped_names_lem p kind form names count = whole_names p (fit_of p kind form) names count
