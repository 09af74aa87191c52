use Rattle.index_check.proofs.Checked.{next_sized, tables_ready, store_decided}
use Rattle.index_check.proofs.is_index.Goals as goal

pub slice_bounds-is_index_of-end-2 : goal.slice_bounds-is_index_of-end-2
slice_bounds-is_index_of-end-2 c = next_sized c.requires.0

pub is_index_of-requires : goal.is_index_of-requires
is_index_of-requires c =
    let r = tables_ready c.requires.0 c.requires.1 in
    record {
      stored_rules = r.0;
      next_in_bounds = r.1;
    }

pub returns : goal.returns
returns c =
    let r = store_decided c.requires.0 c.args.index.now (c.is_index_of.ensures.value, c.is_index_of.ensures.placed) in
    record {
      value = r.0;
      placed = r.1;
    }
