use Rattle.output.proofs.Emitting.{renamed}
use Rattle.canonical_store.proofs.SortedStores.{sorted_ready}
use Rattle.canonical_store.proofs.emit_sorted.Goals as goal

pub emit_store-requires : goal.emit_store-requires
emit_store-requires c = sorted_ready c.requires.0 c.sort_store.ensures

pub returns : goal.returns
returns c = renamed c.emit_store.ensures c.sort_store.ensures.words
