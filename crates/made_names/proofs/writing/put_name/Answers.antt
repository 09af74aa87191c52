use Rattle.made_names.proofs.NamesPut.{name_short}
use Rattle.output.proofs.Emitting.{run_length, behind_length}
use native.Mathlib.Omega.{arith}
use Rattle.made_names.proofs.writing.put_name.Goals as goal

pub overflow_cast-end : goal.overflow_cast-end
overflow_cast-end c = omega (arith, run_length _ c.emit_made-end.ensures, name_short c.args.number)

pub returns : goal.returns
returns c = behind_length _ c.emit_made-end.ensures c.push.ensures
