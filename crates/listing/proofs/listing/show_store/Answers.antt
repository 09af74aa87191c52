use mathlib.Core.Path.{refl}
use Rattle.masks.proofs.FilledMasks.{taken_fits, care_length, want_length}
use Rattle.listing.proofs.StoredStates.{masks_sortable, names_listed, listing_shown}
use Rattle.listing.proofs.listing.show_store.Goals as goal

pub show_sorted-requires : goal.show_sorted-requires
show_sorted-requires c =
    record {
      sortable_masks = masks_sortable c.requires c.fill_masks-sizes.ensures;
      listed_names = names_listed c.requires c.fill_masks-sizes.ensures;
    }

pub returns : goal.returns
returns c = listing_shown c.requires c.fill_masks-sizes.ensures c.show_sorted.ensures
