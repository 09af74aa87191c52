use mathlib.Core.Path.{refl}
use Rattle.masks.proofs.FilledMasks.{taken_fits, care_length, want_length}
use Rattle.descent.proofs.FilledGroups.{same_length, rules_fit_lem, masks_small, atoms_few}
use Rattle.preferred_verdict.proofs.FilledVerdict.{broken_filled, walk_filled}
use Rattle.preferred_verdict.proofs.preferred.preferred_of.Goals as goal

pub fill_masks-sizes-requires : goal.fill_masks-sizes-requires
fill_masks-sizes-requires c =
    record {
      store_of = c.requires.store_of;
      words_bound = c.requires.words_bound;
      words_value = c.requires.words_value;
      care_len = (refl, refl, refl);
    }

pub slice_bounds-care-end : goal.slice_bounds-care-end
slice_bounds-care-end c = taken_fits _ _ (care_length c.fill_masks-sizes.ensures)

pub slice_bounds-first_broken-end : goal.slice_bounds-first_broken-end
slice_bounds-first_broken-end c = care_length c.fill_masks-sizes.ensures

pub slice_bounds-want-end : goal.slice_bounds-want-end
slice_bounds-want-end c = taken_fits _ _ (want_length c.fill_masks-sizes.ensures)

pub slice_bounds-first_broken-end-2 : goal.slice_bounds-first_broken-end-2
slice_bounds-first_broken-end-2 c = want_length c.fill_masks-sizes.ensures

pub first_broken-broken-requires : goal.first_broken-broken-requires
first_broken-broken-requires c = same_length c.fill_masks-sizes.ensures

pub returns-then-broken-rules : goal.returns-then-broken-rules
returns-then-broken-rules c = broken_filled c.fill_masks-sizes.ensures _ _ _ c.turned-place.ensures c.first_broken-broken.ensures _ c.if-broken-rules.true

pub slice_bounds-care-end-2 : goal.slice_bounds-care-end-2
slice_bounds-care-end-2 c = taken_fits _ _ (care_length c.fill_masks-sizes.ensures)

pub slice_bounds-search_sorted-end : goal.slice_bounds-search_sorted-end
slice_bounds-search_sorted-end c = care_length c.fill_masks-sizes.ensures

pub slice_bounds-want-end-2 : goal.slice_bounds-want-end-2
slice_bounds-want-end-2 c = taken_fits _ _ (want_length c.fill_masks-sizes.ensures)

pub slice_bounds-search_sorted-end-2 : goal.slice_bounds-search_sorted-end-2
slice_bounds-search_sorted-end-2 c = want_length c.fill_masks-sizes.ensures

pub search_sorted-verdict-requires : goal.search_sorted-verdict-requires
search_sorted-verdict-requires c =
    record {
      want_len = same_length c.fill_masks-sizes.ensures;
      care_len_bound = rules_fit_lem c.fill_masks-sizes.ensures;
      all = masks_small c.fill_masks-sizes.ensures;
      atoms_le_walk_atoms = atoms_few c.fill_masks-sizes.ensures;
      budget_le_budget_limit = c.requires.budget_le_budget_limit;
    }

pub returns : goal.returns
returns c = walk_filled c.fill_masks-sizes.ensures _ _ _ c.turned-place.ensures c.first_broken-broken.ensures _ _ _ c.if-broken-rules.false c.search_sorted-verdict.ensures c.verdict_at.ensures
