-- The translated names fit the plain program: allowed to it, all different, one for each atom, the file's names first.
use Prim.Native.Nat.{ℕ, suc, ◌+◌, ◌^◌, ◌≤◌, ◌<◌}
use native.Mathlib.Omega.{arith}
use mathlib.Core.Path.{◌≡◌, refl, sym, ap, subst, ◌∙◌}
use mathlib.Core.List.{List, [], ◌∷◌, ◌++◌, map, tail-eq_of_cons-eq}
use mathlib.Core.Bool.{Bool, true, false, not, ◌&&◌, ◌||◌, cond}
use mathlib.Core.Logic.Iff
use mathlib.Core.Logic.{◌≢◌}
use lib.Dec.{T, leb, eqb}
use lib.ListN.{length, get_or, take, drop, length-map}
use lib.Seq.{take_at}
use borrow.Author.Tests.{le-leb, ne_eqb}
use Rattle.kinds.specs.Limits.{name_limit, class_limit}
use Rattle.kinds.specs.Words.{digits, decimal}
use Rattle.kinds.specs.declared.limits.Kind.TheVariants.{Plain, Preference}
use Rattle.rules.specs.Lists.{All, Distinct, from}
use Rattle.rules.proofs.Booleans.{T-not-out, eq_to_eqb}
use Rattle.rules.proofs.Lists.{all_imp, all_app, all_map, all_from, app_iff, every_from, distinct_from, distinct_map}
use Rattle.stores.specs.Program.{Program, ProgramForm}
use Rattle.names.specs.Names.{is_first_byte, is_house, is_made_name, is_common_name, is_class_number, name_class, by_length, dotted, generated, takes, allowed}
use Rattle.names.proofs.Decimals.{decimal_inj}
use Rattle.name_store.specs.NameStore.{NamesForm}
use Rattle.names.specs.declared.forms.NameClass.{NameClass}
use Rattle.names.specs.declared.forms.NameClass.TheVariants.{Common, Generated, TooLong, Wrong}
use Rattle.pairing.specs.Atoms.{unfixed_atoms, minimised_atoms, declared, name_of}
use Rattle.pairing.specs.Translated.{translated, translated_names}
use Rattle.pairing.specs.Loops.{dot, looped_names}
use Rattle.rules.proofs.ListLaws.{all_each, all_take, distinct_app, distinct_take, distinct_map_app, NoImage}
use Rattle.pairing.proofs.Fit.{fit_of}
use Rattle.pairing.proofs.Looped.{looped_names_lem}

-- a preference program takes names of both kinds only

either : (b : Bool) (c d : NameClass) → (T (takes Preference c) → ⊥) → (T (takes Preference d) → ⊥) → T (takes Preference (cond b c d)) → ⊥
either true c d f g h = f h
either false c d f g h = g h

not_dotted : (c : ℕ) (x : List ℕ) → T (takes Preference (dotted c x)) → ⊥
not_dotted c x = either ((eqb c 78 || (eqb c 83 || eqb c 68)) && is_common_name x) (by_length x Generated) (cond (eqb c 69 && is_class_number x) Generated Wrong)
    (either (leb (length x) name_limit) Generated TooLong (λ h. h) (λ h. h))
    (either (eqb c 69 && is_class_number x) Generated Wrong (λ h. h) (λ h. h))

not_generated : (x : List ℕ) → T (takes Preference (generated x)) → ⊥
not_generated x = either (eqb (length x) 1 && eqb (get_or x 0 0) 85) Generated (cond (leb 2 (length x) && eqb (get_or x 1 0) 46) (dotted (get_or x 0 0) (drop 2 x)) Wrong) (λ h. h)
    (either (leb 2 (length x) && eqb (get_or x 1 0) 46) (dotted (get_or x 0 0) (drop 2 x)) Wrong (not_dotted (get_or x 0 0) (drop 2 x)) (λ h. h))

record CommonName (x : List ℕ) : Type 0 where
  form : is_common_name x ≡ true
  short : leb (length x) name_limit ≡ true

common_name : (x : List ℕ) → T (allowed Preference x) → CommonName x
unfolding allowed name_class
common_name x h = step (is_common_name x) (leb (length x) name_limit) refl refl h
  where
    step : (b c : Bool) → is_common_name x ≡ b → leb (length x) name_limit ≡ c → T (takes Preference (cond b (cond c Common TooLong) (generated x))) → CommonName x
    step true true e f h = record { form = e; short = f }
    step true false e f h = absurd h
    step false c e f h = absurd (not_generated x h)

common_allowed : (x : List ℕ) → CommonName x → T (allowed Plain x)
unfolding allowed name_class
common_allowed x h = simp (h.form, h.short) tt

dot_allowed : (c : ℕ) (x : List ℕ) → is_first_byte c ≡ false → eqb c 84 ≡ false → (eqb c 78 || (eqb c 83 || eqb c 68)) ≡ true → CommonName x → T (allowed Plain (dot c x))
unfolding allowed name_class is_common_name is_made_name is_house
dot_allowed c x l m d h =
    let long : eqb (suc (suc (length x))) 1 ≡ false = ne_eqb (suc (suc (length x))) 1 (λ e. omega arith) in
    let two : leb 2 (suc (suc (length x))) ≡ true = le-leb 2 (suc (suc (length x))) (omega arith) in
    simp (l, m, long, two, d, h.form, h.short) tt

end_allowed : (j : ℕ) → j ≤ class_limit → T (allowed Plain (dot 69 (decimal j)))
unfolding allowed name_class is_common_name is_made_name is_house is_class_number digits
end_allowed j l = (every_from (λ j. allowed Plain (dot 69 (decimal j))) (λ j. T (allowed Plain (dot 69 (decimal j)))) (λ j. Iff.rfl) 0 (suc class_limit)).0 tt j (omega arith) (omega arith)

-- the names differ

dot_inj : (c : ℕ) (x y : List ℕ) → dot c x ≡ dot c y → x ≡ y
dot_inj c x y e = tail-eq_of_cons-eq (tail-eq_of_cons-eq e)

-- y begins with another byte than c
abbrev Other : ℕ → List ℕ → Type 0
Other c y = T (not (eqb c (get_or y 0 0)))

other : (c : ℕ) (x y : List ℕ) → Other c y → ◌≡◌ {A = List ℕ} (c ∷ x) y → ⊥
other c x y h e = T-not-out (eqb c (get_or y 0 0)) h (eq_to_eqb c (get_or y 0 0) (ap (λ (z : List ℕ). get_or z 0 0) e))

dots_then : (c : ℕ) (l ys : List (List ℕ)) → Distinct l → Distinct ys → All (Other c) ys → Distinct (map (dot c) l ++ ys)
dots_then c l ys d e h = distinct_map_app (dot c) (dot_inj c) l ys d e (all_imp (Other c) (NoImage (dot c)) (λ y o x. other c (46 ∷ x) y o) ys h)

-- what holds of all the names from some run on
module _ (Q : List ℕ → Type 0) where
  dots_all : (c : ℕ) (l ys : List (List ℕ)) → ((x : List ℕ) → Q (dot c x)) → All Q ys → All Q (map (dot c) l ++ ys)
  dots_all c l ys h k = all_app Q (map (dot c) l) ys (all_map Q (dot c) l (all_each (λ x. Q (dot c x)) h l)) k

  ends_all : (l : List ℕ) → ((x : List ℕ) → Q (dot 69 x)) → Q (85 ∷ []) → All Q (map (λ j. dot 69 (decimal j)) l ++ ((85 ∷ []) ∷ []))
  ends_all l h u = all_app Q (map (λ j. dot 69 (decimal j)) l) ((85 ∷ []) ∷ []) (all_map Q (λ j. dot 69 (decimal j)) l (all_each (λ j. Q (dot 69 (decimal j))) (λ j. h (decimal j)) l)) (u, tt)

module _ (p : Program) (kind : p.kind ≡ Preference) (form : ProgramForm p) (names : List (List ℕ)) (names_form : NamesForm Preference p.atoms names) where
  common : All CommonName names
  common = all_imp (λ x. T (allowed Preference x)) CommonName common_name names names_form.all_allowed

  dots_allowed : (c : ℕ) (l : List (List ℕ)) → is_first_byte c ≡ false → eqb c 84 ≡ false → (eqb c 78 || (eqb c 83 || eqb c 68)) ≡ true → All CommonName l → All (λ x. T (allowed Plain x)) (map (dot c) l)
  dots_allowed c l f g d h = all_map (λ x. T (allowed Plain x)) (dot c) l (all_imp CommonName (λ x. T (allowed Plain (dot c x))) (λ x. dot_allowed c x f g d) l h)

  plain_allowed : All (λ x. T (allowed Plain x)) (looped_names p names)
  unfolding looped_names allowed name_class is_common_name is_made_name is_house
  plain_allowed = simp app_iff (
    all_imp CommonName (λ x. T (allowed Plain x)) common_allowed names common,
    (
      dots_allowed 78 names refl refl refl common,
      (
        dots_allowed 83 (take (length (unfixed_atoms p)) names) refl refl refl (all_take CommonName (length (unfixed_atoms p)) names common),
        (
          dots_allowed 68 (take (length (minimised_atoms p)) names) refl refl refl (all_take CommonName (length (minimised_atoms p)) names common),
          (
            all_map (λ x. T (allowed Plain x)) (λ j. dot 69 (decimal j)) (from 0 (suc p.classes)) (all_from (λ j. T (allowed Plain (dot 69 (decimal j)))) 0 (suc p.classes) (λ j l u. end_allowed j (omega (arith, (fit_of p kind form).classes)))),
            (tt, tt),
          ),
        ),
      ),
    ),
  )

  numbered : List ℕ
  numbered = from 0 (suc p.classes)

  abbrev ends : List (List ℕ)
  ends = map (λ j. dot 69 (decimal j)) numbered ++ ((85 ∷ []) ∷ [])

  ends_different : Distinct ends
  unfolding numbered
  ends_different =
      let low : All (λ j. j < 10 ^ 20) (from 0 (suc p.classes)) = all_from (λ j. j < 10 ^ 20) 0 (suc p.classes) (λ j l u. omega (arith, (fit_of p kind form).classes)) in
      distinct_app (map (λ j. dot 69 (decimal j)) (from 0 (suc p.classes))) ((85 ∷ []) ∷ [])
      (distinct_map (λ j. dot 69 (decimal j)) (λ j. j < 10 ^ 20) (λ i j l u e. decimal_inj i j l u (dot_inj 69 (decimal i) (decimal j) e)) (from 0 (suc p.classes)) low (distinct_from 0 (suc p.classes)))
      (tt, tt)
      (all_map (λ x. All (λ y. x ≢ y) ((85 ∷ []) ∷ [])) (λ j. dot 69 (decimal j)) (from 0 (suc p.classes)) (all_each (λ j. All (λ y. dot 69 (decimal j) ≢ y) ((85 ∷ []) ∷ [])) (λ j. (other 69 (46 ∷ decimal j) (85 ∷ []) tt, tt)) (from 0 (suc p.classes))))

  abbrev NotCommon : List ℕ → Type 0
  NotCommon y = (is_common_name y ≡ true) → ⊥

  not_common : (c : ℕ) (x : List ℕ) → is_first_byte c ≡ false → eqb c 84 ≡ false → NotCommon (c ∷ x)
  unfolding is_common_name is_made_name is_house
  not_common c x l m h = subst T (sym (simp (l, m) at h)) tt

  plain_different : Distinct (looped_names p names)
  unfolding looped_names numbered
  plain_different =
      let d = names_form.different in
      let u = take (length (unfixed_atoms p)) names in
      let m = take (length (minimised_atoms p)) names in
      distinct_app names (map (dot 78) names ++ (map (dot 83) u ++ (map (dot 68) m ++ ends))) d
      (dots_then 78 names (map (dot 83) u ++ (map (dot 68) m ++ ends)) d
      (dots_then 83 u (map (dot 68) m ++ ends) (distinct_take (length (unfixed_atoms p)) names d)
      (dots_then 68 m ends (distinct_take (length (minimised_atoms p)) names d) ends_different
      (ends_all (Other 68) numbered (λ x. tt) tt))
      (dots_all (Other 83) 68 m ends (λ x. tt) (ends_all (Other 83) numbered (λ x. tt) tt)))
      (dots_all (Other 78) 83 u (map (dot 68) m ++ ends) (λ x. tt) (dots_all (Other 78) 68 m ends (λ x. tt) (ends_all (Other 78) numbered (λ x. tt) tt))))
      (all_imp CommonName (λ x. All (λ y. x ≢ y) (map (dot 78) names ++ (map (dot 83) u ++ (map (dot 68) m ++ ends)))) (λ x h.
      all_imp NotCommon (λ y. x ≢ y) (λ y q e. q (ap is_common_name (sym e) ∙ h.form)) (map (dot 78) names ++ (map (dot 83) u ++ (map (dot 68) m ++ ends)))
      (dots_all NotCommon 78 names (map (dot 83) u ++ (map (dot 68) m ++ ends)) (λ y. not_common 78 (46 ∷ y) refl refl)
      (dots_all NotCommon 83 u (map (dot 68) m ++ ends) (λ y. not_common 83 (46 ∷ y) refl refl)
      (dots_all NotCommon 68 m ends (λ y. not_common 68 (46 ∷ y) refl refl)
      (ends_all NotCommon numbered (λ y. not_common 69 (46 ∷ y) refl refl) (not_common 85 [] refl refl)))))) names common)

  abbrev same : translated_names p names ≡ looped_names p names
  same = looped_names_lem p kind form names names_form.count

  one_each : length (translated_names p names) ≡ length (declared p)
  unfolding translated_names
  one_each = length-map (declared p) (name_of names)

  pub plain_names : NamesForm Plain (translated p).atoms (translated_names p names)
  plain_names = record {
    count = one_each;
    all_allowed = subst (All (λ x. T (allowed Plain x))) (sym same) plain_allowed;
    different = subst Distinct (sym same) plain_different;
  }

  -- the members numbered below n bear the file's names in the file's order
  pub file_names : take p.atoms (translated_names p names) ≡ names
  unfolding looped_names
  file_names = ap (take p.atoms) same ∙ take_at names _ p.atoms names_form.count
