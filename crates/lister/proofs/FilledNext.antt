-- The next state by the masks of a preference program is the program's.
use Prim.Native.Nat.{ℕ}
use mathlib.Core.Path.{◌≡◌, sym, ap, ◌∙◌}
use mathlib.Core.List.{List}
use lib.ListN.{take}
use Rattle.stores.specs.Program.{Program}
use Rattle.walks.specs.Walk.{capped_next, next_verdict}
use Rattle.walks.specs.declared.answers.NextState.{NextState}
use Rattle.masks.specs.AnswersAt.{next_at}
use Rattle.masks.specs.FilledMasks.{MasksOf}
use Rattle.masks.specs.declared.masks.Sizes.{Sizes}
use Rattle.masks.proofs.AnswersAt.{capped_next_at}
use Rattle.masks.proofs.FilledMasks.{nots_empty}
use Rattle.groups.specs.Groups.{GroupsOf}
use Rattle.groups.specs.Plans.{classes_in, starts_in, care_in, want_in, TablesOf}
use Rattle.descent.proofs.FilledGroups.{words_are, words_few, rules_below, groups_are}
use Rattle.lister.specs.NextMasks.{next_outcome, next_of, next_m}
use Rattle.lister.specs.SortedNext.{SortedNext}
use Rattle.lister.proofs.NextStates.{next_masks}

-- the next state by a plan
pub next_sorted : {cs ws ks p : List ℕ} {fixed n start b : ℕ} {v : NextState} → TablesOf cs ws ks p → v ≡ next_m (care_in p) (want_in p) (starts_in p) (classes_in p) fixed n start b → SortedNext cs ws ks fixed n start b v
next_sorted {cs} {ws} {ks} {p} {fixed} {n} {start} {b} t e = record {
  care = care_in p;
  want = want_in p;
  starts = starts_in p;
  groups = t.groups;
  next = e ∙ ap (λ (x : List ℕ). next_m (care_in p) (want_in p) (starts_in p) x fixed n start b) t.classes_are;
}

module _ {p : Program} {cs wants ks : List ℕ} {z : Sizes} (d : MasksOf p cs wants ks z) where
  pub next_filled : {care want starts : List ℕ} → GroupsOf (take z.rules cs) (take z.rules wants) care want starts → (start b : ℕ) → next_at z.atoms (next_m care want starts ks z.fixed z.atoms start b) ≡ next_verdict p.words p.rules start b
  unfolding next_m next_verdict
  next_filled {care} {want} {starts} g start b =
      sym (capped_next_at z.atoms b (next_of (next_outcome care want starts ks z.fixed z.atoms start)))
      ∙ ap (capped_next b) ((λ j. next_at (words_are d j) (next_of (next_outcome care want starts (d.class_masks_holds j) (d.fixed_is j) (words_are d j) start)))
      ∙ next_masks p.words p.rules (words_few d) (rules_below d) (nots_empty d) care want starts (groups_are d g) start)

  pub next_told : (start b : ℕ) (v u : NextState) → SortedNext (take z.rules cs) (take z.rules wants) ks z.fixed z.atoms start b v → u ≡ next_at z.atoms v → u ≡ next_verdict p.words p.rules start b
  next_told start b v u s told = told ∙ ap (next_at z.atoms) s.next ∙ next_filled s.groups start b
