use Rattle.output.proofs.Emitting.{range_begin}
use Rattle.canonical_store.proofs.KeptLoop.{rule_ahead, rest_range, both_runs}
use Rattle.canonical_store.proofs.written_rules.emit_rule.Goals as goal

pub emit-counted-requires : goal.emit-counted-requires
emit-counted-requires c = range_begin c.requires.1 (rule_ahead c.parts_of-parts.ensures)

pub emit-requires : goal.emit-requires
emit-requires c = rest_range (rule_ahead c.parts_of-parts.ensures) c.emit-counted.ensures c.requires.1

pub returns : goal.returns
returns c = both_runs (rule_ahead c.parts_of-parts.ensures) c.emit-counted.ensures c.emit.ensures
