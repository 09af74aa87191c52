use Rattle.made_names.proofs.NamesPut.{opening_range, number_range, made_written}
use Rattle.made_names.proofs.writing.emit_made.Goals as goal

pub emit-start-requires : goal.emit-start-requires
emit-start-requires c = opening_range _ _ c.requires

pub emit_decimal-requires : goal.emit_decimal-requires
emit_decimal-requires c = number_range _ _ c.requires c.emit-start.ensures

pub returns : goal.returns
returns c = made_written _ _ c.requires c.emit-start.ensures c.emit_decimal.ensures
