-- The verdict by the masks of a preference program is the program's.
use Prim.Native.Nat.{ℕ}
use mathlib.Core.Path.{◌≡◌, sym, ap, ap₂, ◌∙◌}
use mathlib.Core.List.{List, map}
use lib.Dec.{T}
use lib.ListN.{length, take}
use Rattle.rules.specs.Sets.{has}
use Rattle.rules.specs.Rules.{is_model, first_broken}
use Rattle.rules.proofs.Booleans.{is_false}
use Rattle.rules.proofs.Rules.{model_law, no_broken_model, model_no_broken}
use Rattle.places.specs.Places.{place}
use Rattle.stores.specs.Program.{Program}
use Rattle.walks.specs.Walk.{capped, preferred_needs, preferred_verdict}
use Rattle.walks.specs.declared.answers.Verdict.{Verdict}
use Rattle.walks.specs.declared.answers.Verdict.TheVariants.{Broken}
use Rattle.masks.specs.AnswersAt.{verdict_at}
use Rattle.masks.specs.Masks.{care_at, want_at, first_m}
use Rattle.masks.specs.FilledMasks.{MasksOf}
use Rattle.masks.specs.declared.masks.Sizes.{Sizes}
use Rattle.masks.proofs.AnswersAt.{capped_at}
use Rattle.stores.proofs.StoredRules.{rules_within}
use Rattle.masks.proofs.FilledMasks.{nots_empty}
use Rattle.masks.proofs.RulesAt.{first_at}
use Rattle.groups.specs.Plans.{classes_in, starts_in, care_in, want_in, TablesOf}
use Rattle.descent.specs.Verdicts.{preferred_m}
use Rattle.descent.proofs.FilledGroups.{words_are, words_few, rules_below, groups_are}
use Rattle.descent.proofs.PreferredMasks.{preferred_masks}
use Rattle.preferred_verdict.specs.SortedSearch.{SortedSearch}

-- the verdict by a plan
pub verdict_sorted : {cs ws ks p : List ℕ} {fixed n of b : ℕ} {v : Verdict} → TablesOf cs ws ks p → v ≡ capped b (preferred_m (care_in p) (want_in p) (starts_in p) (classes_in p) fixed n of) → SortedSearch cs ws ks fixed n of b v
verdict_sorted {cs} {ws} {ks} {p} {fixed} {n} {of} {b} t e = record {
  care = care_in p;
  want = want_in p;
  starts = starts_in p;
  groups = t.groups;
  verdict = e ∙ ap (λ (x : List ℕ). capped b (preferred_m (care_in p) (want_in p) (starts_in p) x fixed n of)) t.classes_are;
}

module _ {p : Program} {cs wants ks : List ℕ} {z : Sizes} (d : MasksOf p cs wants ks z) where
  -- the first broken rule by the masks
  first_is : (m q : ℕ) → q ≡ place z.atoms m → first_m q (take z.rules cs) (take z.rules wants) ≡ first_broken p.rules (has m)
  first_is m q e =
      ap₂ (first_m q) d.care_front d.want_front ∙ ap (λ (x : ℕ). first_m x (map (care_at p.atoms) p.rules) (map (want_at p.atoms) p.rules)) (e ∙ ap (λ (n : ℕ). place n m) d.atoms_are)
      ∙ first_at p.atoms p.rules (rules_within d.form) (nots_empty d) m

  module _ (m q i : ℕ) (at : q ≡ place z.atoms m) (first : i ≡ first_m q (take z.rules cs) (take z.rules wants)) where
    pub broken_filled : (b : ℕ) → (i ≡ z.rules → ⊥) → Broken i ≡ preferred_verdict p.words p.rules m b
    unfolding preferred_verdict preferred_needs capped
    broken_filled b ne =
        let e : i ≡ first_broken p.rules (has m) = first ∙ first_is m q at in
        let none : is_model p.rules (has m) ≡ _ = is_false (is_model p.rules (has m)) (λ t. ne (e ∙ model_no_broken p.rules (has m) ((model_law p.rules (has m)).0 t) ∙ sym d.rules_are)) in
        rw (e, none)

    model_filled : i ≡ z.rules → T (is_model p.rules (has m))
    model_filled e = (model_law p.rules (has m)).1 (no_broken_model p.rules (has m) (sym (first ∙ first_is m q at) ∙ e ∙ d.rules_are))

    pub walk_filled : (b : ℕ) (v u : Verdict) → i ≡ z.rules → SortedSearch (take z.rules cs) (take z.rules wants) ks z.fixed z.atoms q b v → u ≡ verdict_at z.atoms v → u ≡ preferred_verdict p.words p.rules m b
    unfolding preferred_verdict
    walk_filled b v u all s told =
        let at' : q ≡ place (length p.words) m = at ∙ ap (λ (n : ℕ). place n m) (words_are d) in
        told ∙ ap (verdict_at z.atoms) s.verdict ∙ sym (capped_at z.atoms b (preferred_m s.care s.want s.starts ks z.fixed z.atoms q))
        ∙ ap (capped b) ((λ j. verdict_at (words_are d j) (preferred_m s.care s.want s.starts (d.class_masks_holds j) (d.fixed_is j) (words_are d j) (at' j)))
        ∙ preferred_masks p.words p.rules (words_few d) (rules_below d) (nots_empty d) s.care s.want s.starts (groups_are d s.groups) m (model_filled all))
