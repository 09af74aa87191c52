-- What is written for an accepted clause file has the sets satisfying its clauses as models, and their subset-minimal ones as preferred states.
use Prim.Native.Nat.{ℕ, ◌+◌, ◌^◌, ◌<◌}
use native.Mathlib.Omega.{arith}
use mathlib.Core.Path.{◌≡◌, refl, sym, ap, ap₂, subst, subst₂, ◌∙◌}
use mathlib.Core.Logic.Iff
use mathlib.Core.Logic.{◌↔◌}
use mathlib.Core.List.{List, [], ◌∷◌, map}
use lib.Dec.{T}
use lib.ListN.{length, get_or, drop, replicate, length-map, get_or-replicate}
use Rattle.kinds.specs.declared.limits.Kind.TheVariants.{Preference}
use Rattle.rules.specs.Lists.{All, flat, filter}
use Rattle.rules.specs.Sets.{has, ProperSubset}
use Rattle.rules.specs.Rules.{Rule, Model, rename}
use Rattle.rules.specs.Preferred.{Preferred}
use Rattle.rules.proofs.Lists.{all_imp, map_from_at}
use Rattle.rules.proofs.ListLaws.{map_same}
use Rattle.rules.proofs.Preferred.{preferred_iff_minimal}
use Rattle.rules.proofs.Renumbering.{model_renumbered}
use Rattle.stores.specs.Program.{Program, ProgramForm}
use Rattle.name_store.specs.NameStore.{NamesForm}
use Rattle.restriction.specs.Atoms.{is_member, place_in, renumbered, entries}
use Rattle.restriction.specs.Covers.{Covers}
use Rattle.restriction.specs.Remaining.{restrict, remaining, remaining_names, AllUsed}
use Rattle.restriction.specs.PreferredLeft.{cut_to}
use Rattle.restriction.proofs.Places.{at_place}
use Rattle.restriction.proofs.PreferredLeft.{cut_at}
use Rattle.restriction.proofs.Forms.{covers_left, remaining_form, remaining_names_lem}
use Rattle.restriction.proofs.Whole.{remaining_preference, names_preference, all_used}
use Rattle.lines.specs.Lines.{lines}
use Rattle.clauses.specs.Literals.{Literal, Satisfies}
use Rattle.clauses.specs.Tokens.{line_tokens}
use Rattle.clauses.specs.Written.{clause_name, clause_names, clause_program}
use Rattle.clauses.specs.ClausesSaid.{is_filled, clauses_of}
use Rattle.clauses.specs.Satisfying.{standing, SatisfiedBy, Satisfying, WrittenClauses}
use Rattle.clauses.specs.Sentences.{AcceptsClauses}
use Rattle.clauses.proofs.ClauseSentences.{accepted_typed}
use Rattle.clauses.proofs.ClauseForms.{typed_lines, typed_form_lem}
use Rattle.clauses.proofs.RenamedRules.{model_renamed}
use Rattle.clauses.proofs.ClauseRules.{clause_rule, gathered_rules, satisfies_iff, used_standing}

-- what is left of one class and of the names

one_class_lem : (n : ℕ) (xs : List ℕ) → All (λ a. a < n) xs → entries {A = ℕ} 0 (replicate n 1) xs ≡ replicate (length xs) 1
one_class_lem n [] h = refl
one_class_lem n (x ∷ xs) h = ap₂ (λ (w : ℕ) (ws : List ℕ). w ∷ ws) (get_or-replicate n x 1 0 h.0) (one_class_lem n xs h.1)

names_left : (n : ℕ) (xs : List ℕ) → All (λ a. a < n) xs → entries [] (clause_names n) xs ≡ map clause_name xs
unfolding clause_names
names_left n xs h = map_same (λ a. get_or (clause_names n) a []) clause_name xs
    (all_imp (λ a. a < n) _ (λ a l. let e : 0 + a ≡ a = omega arith in map_from_at clause_name [] 0 n a l ∙ ap clause_name e) xs h)

module _ (n : ℕ) (cs : List (List Literal)) (xs : List ℕ) (covers : Covers n xs (map clause_rule cs)) where
  abbrev rs : List (Rule ℕ)
  rs = map clause_rule cs

  abbrev ws : List ℕ
  ws = entries 0 (replicate n 1) xs

  models : (m : ℕ) → SatisfiedBy xs cs m ↔ Model (renumbered xs rs) (has m)
  models m = Iff.trans (satisfies_iff (λ a. has m (place_in xs a)) cs) (model_renamed (place_in xs) (has m) rs)

  whole : (x : ℕ) → Satisfies (has x) cs ↔ Model (renumbered xs rs) (has (cut_to xs x))
  whole x = Iff.trans (satisfies_iff (has x) cs) (model_renumbered (place_in xs) (λ a. T (is_member xs a)) x (cut_to xs x) same rs covers.atoms)
    where
      same : (a : ℕ) → T (is_member xs a) → has (cut_to xs x) (place_in xs a) ≡ has x a
      same a h = let q = at_place xs a h in cut_at xs x (place_in xs a) q.0 ∙ ap (has x) q.1

  size : length ws ≡ length xs
  size = length-map xs (λ a. get_or (replicate n 1) a 0)

  one : (a : ℕ) → a < length ws → get_or ws a 0 ≡ 1
  one a l = ap (λ (l : List ℕ). get_or l a 0) (one_class_lem n xs covers.inside) ∙ get_or-replicate (length xs) a 1 0 (omega (arith, size))

  minimal : (m : ℕ) → m < 2 ^ length xs → Preferred ws (renumbered xs rs) m ↔ (SatisfiedBy xs cs m × ((x : ℕ) → ProperSubset x m → SatisfiedBy xs cs x → ⊥))
  minimal m l =
      let law = preferred_iff_minimal ws (renumbered xs rs) one m (subst (λ (c : ℕ). m < 2 ^ c) (sym size) l) in (
        λ h. let k = law.0 h in ((models m).1 k.model, λ x p s. k.least x p ((models x).0 s)),
        λ h. law.1 (record { model = (models m).0 h.0; least = λ x p k. h.1 x p ((models x).1 k) }),
      )

  satisfying : Satisfying xs cs (restrict xs (clause_program n rs))
  unfolding restrict
  satisfying = record { models = models; whole = whole; minimal = minimal }

module _ (n : ℕ) (cs : List (List Literal)) (form : ProgramForm (clause_program n (map clause_rule cs))) (names : NamesForm Preference n (clause_names n)) where
  abbrev all : Program
  all = clause_program n (map clause_rule cs)

  covers : Covers n (standing n cs) (map clause_rule cs)
  covers = subst (λ (xs : List ℕ). Covers n xs (map clause_rule cs)) (used_standing n cs) (covers_left all form)

  left_is : remaining all ≡ restrict (standing n cs) all
  left_is = remaining_preference all refl ∙ ap (λ (xs : List ℕ). restrict xs all) (used_standing n cs)

  written : WrittenClauses n cs (restrict (standing n cs) all) (remaining_names all (clause_names n))
  unfolding restrict
  written = record {
    names_are = names_preference all (clause_names n) refl ∙ ap (entries [] (clause_names n)) (used_standing n cs) ∙ names_left n (standing n cs) covers.inside;
    atoms_are = refl;
    kind_is = refl;
    one_class_lem = (refl, one_class_lem n (standing n cs) covers.inside);
    a_rule_each = length-map (map clause_rule cs) (rename (place_in (standing n cs))) ∙ length-map cs clause_rule;
    form = (subst ProgramForm left_is (remaining_form all form), subst (λ (p : Program). NamesForm p.kind p.atoms (remaining_names all (clause_names n))) left_is (remaining_names_lem all (clause_names n) form names));
    all_used = subst AllUsed left_is (all_used all refl);
    satisfying = satisfying n cs (standing n cs) covers;
  }

  left_written : WrittenClauses n cs (remaining all) (remaining_names all (clause_names n))
  left_written = subst (λ (p : Program). WrittenClauses n cs p (remaining_names all (clause_names n))) (sym left_is) written

pub written_clauses : (text : List ℕ) (p : Program) (names : List (List ℕ)) (a : AcceptsClauses text p names) → WrittenClauses a.atoms (clauses_of text) p names
unfolding clauses_of
written_clauses text p names a =
    let n = a.atoms in
    let cs = clauses_of text in
    let q = clause_program n a.gathered.rules in
    let t = accepted_typed text p names a in
    let h = typed_lines text q (clause_names n) t in
    let same : n ≡ h.atoms = ap (λ (q : Program). q.atoms) h.rest.program_is in
    let program_is : q ≡ clause_program n (map clause_rule cs) =
    h.rest.program_is ∙ ap₂ clause_program (sym same) (gathered_rules (flat line_tokens (drop 1 (filter is_filled (lines text))))) in
    let f = typed_form_lem text q (clause_names n) t in
    subst₂ (WrittenClauses n cs) (ap remaining (sym program_is) ∙ sym a.program) (ap (λ (q : Program). remaining_names q (clause_names n)) (sym program_is) ∙ sym a.are_names_lem)
    (left_written n cs (subst ProgramForm program_is f.0) f.1)
