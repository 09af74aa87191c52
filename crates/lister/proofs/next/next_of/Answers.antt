use mathlib.Core.Path.{refl}
use Rattle.masks.proofs.FilledMasks.{taken_fits, care_length, want_length}
use Rattle.descent.proofs.FilledGroups.{same_length, rules_fit_lem, masks_small, atoms_few}
use Rattle.lister.proofs.FilledNext.{next_told}
use Rattle.lister.proofs.next.next_of.Goals as goal

pub fill_masks-sizes-requires : goal.fill_masks-sizes-requires
fill_masks-sizes-requires c =
    record {
      store_of = c.requires.store_of;
      words_bound = c.requires.words_bound;
      words_value = c.requires.words_value;
      care_len = (refl, refl, refl);
    }

pub slice_bounds-care-end : goal.slice_bounds-care-end
slice_bounds-care-end c = taken_fits _ _ (care_length c.fill_masks-sizes.ensures)

pub slice_bounds-next_sorted-end : goal.slice_bounds-next_sorted-end
slice_bounds-next_sorted-end c = care_length c.fill_masks-sizes.ensures

pub slice_bounds-want-end : goal.slice_bounds-want-end
slice_bounds-want-end c = taken_fits _ _ (want_length c.fill_masks-sizes.ensures)

pub slice_bounds-next_sorted-end-2 : goal.slice_bounds-next_sorted-end-2
slice_bounds-next_sorted-end-2 c = want_length c.fill_masks-sizes.ensures

pub next_sorted-next-requires : goal.next_sorted-next-requires
next_sorted-next-requires c =
    record {
      want_len = same_length c.fill_masks-sizes.ensures;
      care_len_bound = rules_fit_lem c.fill_masks-sizes.ensures;
      all = masks_small c.fill_masks-sizes.ensures;
      atoms_le_walk_atoms = atoms_few c.fill_masks-sizes.ensures;
      budget_le_budget_limit = c.requires.budget_le_budget_limit;
    }

pub returns : goal.returns
returns c = next_told c.fill_masks-sizes.ensures _ _ _ _ c.next_sorted-next.ensures c.next_at.ensures
