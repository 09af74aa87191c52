-- The names of a preference file, and the name store of its translation.
use Prim.Native.Nat.{ℕ, suc, ◌≤◌}
use native.Mathlib.Omega.{arith}
use mathlib.Core.Path.{◌≡◌, refl, sym, ap, ap₂, ◌∙◌, subst}
use mathlib.Core.List.{List, [], ◌∷◌, ◌++◌, map}
use lib.ListN.{length, get_or, take}
use lib.Seq.{take-length}
use Rattle.kinds.specs.Sizes.{store_bytes}
use Rattle.kinds.specs.declared.limits.Kind.TheVariants.{Plain, Preference}
use Rattle.rules.specs.Lists.{from}
use Rattle.rules.proofs.ListLaws.{flat_append}
use Rattle.stores.specs.Program.{ProgramForm}
use Rattle.stores.specs.RuleStore.{decode}
use Rattle.name_store.specs.NameStore.{NamesForm, NamesOf, name_bytes, encode_names, decode_names}
use Rattle.kinds.specs.Words.{decimal}
use Rattle.pairing.specs.Loops.{dot, looped_names}
use Rattle.pairing.specs.Translated.{translated, translated_names}
use Rattle.pairing.proofs.Looped.{looped_names_lem}
use Rattle.pairing.proofs.PlainForm.{plain_form}
use Rattle.pairing.proofs.PlainNames.{plain_names}
use Rattle.output.specs.Emitted.{InRange}
use Rattle.output.proofs.Emitting.{Ahead}
use Rattle.translated.specs.NameBytes.{FileNames, dotted_bytes, generated_bytes}
use Rattle.translated.specs.PreferenceStore.{PreferenceStore}
use Rattle.atom_lists.specs.Roles.{minimised_count, unfixed_count}
use Rattle.atom_lists.specs.ListWords.{each}
use Rattle.name_store.proofs.NameStores.{encoded_length}
use Rattle.translated.proofs.NameLaws.{short_of, first_names, first_decoded, dotted_run, ends_run}
use Rattle.translated.proofs.FileStore.{class_part, atoms_at, classes_at, minimised_count_lem, unfixed_count_lem, few_minimised, few_unfixed}

module _ {ws : List ℕ} (h : PreferenceStore ws) where
  pub few_first : {m : ℕ} → m ≡ minimised_count (class_part ws) → m ≤ get_or ws 1 0
  few_first e = omega (arith, e, minimised_count_lem h, few_minimised h, atoms_at h)

  pub few_second : {q : ℕ} → q ≡ unfixed_count (class_part ws) → q ≤ get_or ws 1 0
  few_second e = omega (arith, e, unfixed_count_lem h, few_unfixed h, atoms_at h)

  module _ {bs : List ℕ} (g : NamesOf bs Preference (decode ws).atoms (decode_names (decode ws).atoms bs)) where
    abbrev names : List (List ℕ)
    names = decode_names (decode ws).atoms bs

    count_is : length names ≡ get_or ws 1 0
    count_is = g.form.count ∙ atoms_at h

    pub stored : (c : ℕ) → c ≤ get_or ws 1 0 → FileNames c bs
    stored c l = subst (FileNames c) g.bytes (first_names names (short_of Preference names g.form.all_allowed) c (omega (arith, count_is)))

    pub stored_all : FileNames (get_or ws 1 0) bs
    stored_all = stored (get_or ws 1 0) (omega arith)

    decoded : (c : ℕ) → c ≤ get_or ws 1 0 → take c names ≡ decode_names c bs
    decoded c l = sym (ap (decode_names c) (sym g.bytes) ∙ first_decoded names c (omega (arith, count_is)))

    run : (letter c : ℕ) → c ≤ get_or ws 1 0 → encode_names (map (dot letter) (take c names)) ≡ each (dotted_bytes letter) (decode_names c bs)
    run letter c l = dotted_run letter (take c names) ∙ ap (each (dotted_bytes letter)) (decoded c l)

    both : (xs ys : List (List ℕ)) (v w : List ℕ) → encode_names xs ≡ v → encode_names ys ≡ w → encode_names (xs ++ ys) ≡ v ++ w
    unfolding encode_names
    both xs ys v w e f = flat_append name_bytes xs ys ∙ ap₂ (λ (x y : List ℕ). x ++ y) e f

    last : encode_names ((85 ∷ []) ∷ []) ≡ 1 ∷ 85 ∷ []
    unfolding encode_names
    last = refl

    module _ {m q : ℕ} (m-is : m ≡ minimised_count (class_part ws)) (q-is : q ≡ unfixed_count (class_part ws)) where
      abbrev ends : List (List ℕ)
      ends = map (λ j. dot 69 (decimal j)) (from 0 (suc (get_or ws 2 0)))

      abbrev from_d : List (List ℕ)
      from_d = map (dot 68) (take m names) ++ (ends ++ ((85 ∷ []) ∷ []))

      abbrev from_s : List (List ℕ)
      from_s = map (dot 83) (take q names) ++ from_d

      abbrev from_n : List (List ℕ)
      from_n = map (dot 78) (take (get_or ws 1 0) names) ++ from_s

      names_are : translated_names (decode ws) names ≡ names ++ from_n
      unfolding looped_names
      names_are =
          looped_names_lem (decode ws) h.kind h.store.form names g.form.count
          ∙ (λ i. names
          ++ (map (dot 78) (sym (ap (λ (c : ℕ). take c names) (sym count_is) ∙ take-length names) i)
          ++ (map (dot 83) (take (sym (q-is ∙ unfixed_count_lem h) i) names)
          ++ (map (dot 68) (take (sym (m-is ∙ minimised_count_lem h) i) names)
          ++ (map (λ j. dot 69 (decimal j)) (from 0 (suc (classes_at h i)))
          ++ ((85 ∷ []) ∷ []))))))

      pub names_ahead : Ahead (encode_names (translated_names (decode ws) names)) bs (generated_bytes bs (get_or ws 1 0) q m (get_or ws 2 0))
      names_ahead =
          record {
            is =
                ap encode_names names_are
                ∙ both names from_n _ _ g.bytes
                (both (map (dot 78) (take (get_or ws 1 0) names)) from_s _ _ (run 78 (get_or ws 1 0) (omega arith))
                (both (map (dot 83) (take q names)) from_d _ _ (run 83 q (few_second q-is))
                (both (map (dot 68) (take m names)) (ends ++ ((85 ∷ []) ∷ [])) _ _ (run 68 m (few_first m-is))
                (both ends ((85 ∷ []) ∷ []) _ _ (ends_run (get_or ws 2 0)) last))));
          }

    plain : NamesForm Plain (translated (decode ws)).atoms (translated_names (decode ws) names)
    plain = plain_names (decode ws) h.kind h.store.form names g.form

    -- the store fits the scratch of the translator
    pub names_fit : length (encode_names (translated_names (decode ws) names)) ≤ store_bytes
    names_fit =
        let f : ProgramForm (translated (decode ws)) = plain_form (decode ws) h.kind h.store.form in
        omega (arith, encoded_length (translated_names (decode ws) names) (short_of Plain (translated_names (decode ws) names) plain.all_allowed), plain.count, f.atoms_fit)

    pub names_range : InRange 0 (encode_names (translated_names (decode ws) names))
    names_range = record { below = omega (arith, names_fit) }
