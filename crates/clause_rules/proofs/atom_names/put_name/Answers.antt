use native.Mathlib.Omega.{arith}
use Rattle.clause_rules.proofs.ClauseNames.{size_small, named}
use Rattle.clause_rules.proofs.atom_names.put_name.Goals as goal

pub overflow_cast-end : goal.overflow_cast-end
overflow_cast-end c = omega (arith, size_small _ _ c.requires.1 c.push-start.ensures c.emit_decimal-end.ensures)

pub returns : goal.returns
returns c = named _ _ c.requires.1 c.push-start.ensures c.emit_decimal-end.ensures c.push.ensures
