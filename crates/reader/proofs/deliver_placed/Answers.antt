use Prim.Native.Nat.{ℕ}
use mathlib.Core.Path.{refl}
use lib.ListN.{length-replicate}
use Rattle.kinds.specs.Sizes.{store_words, store_bytes}
use Rattle.reader.proofs.Delivering.{unplaced, placed_held, placed_delivered}
use Rattle.placing.proofs.made.place_made.Reads as place-made-reads
use Rattle.remaining_stores.proofs.remaining.deliver.Reads as deliver-reads
use Rattle.reader.proofs.deliver_placed.Goals as goal

pub place_made-placed-requires : goal.place_made-placed-requires
place_made-placed-requires c =
    record {
      held = (c.requires.0, unplaced c.requires.0 c.requires.1 c.requires.2 refl);
      rules_len = (length-replicate {A = ℕ} store_words 0, length-replicate {A = ℕ} store_bytes 0);
    }

pub deliver-requires : goal.deliver-requires
deliver-requires c = placed_held c.requires.0 c.requires.1 c.place_made-placed.ensures

pub returns : goal.returns
returns c = placed_delivered c.requires.0 c.requires.1 c.place_made-placed.ensures c.deliver.ensures
