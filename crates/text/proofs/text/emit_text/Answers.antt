use Rattle.text.proofs.TextParts.{header}
use native.Mathlib.Omega.{arith}
use Rattle.text.proofs.text.emit_text.Goals as goal

pub bounds-rules-0 : goal.bounds-rules-0
bounds-rules-0 c = omega (arith, header c.requires)
