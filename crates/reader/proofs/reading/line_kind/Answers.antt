use Prim.Native.Nat.{zero-le}
use Rattle.lines.specs.Forms.{atoms}
use Rattle.lines.proofs.LineShapes.{whole_word}
use Rattle.reader.proofs.LineByLine.{tells_plain, tells_preference}
use Rattle.reader.proofs.reading.line_kind.Goals as goal

pub opened_at-requires : goal.opened_at-requires
opened_at-requires c = (zero-le, whole_word atoms)

pub returns-in-Some : goal.returns-in-Some
returns-in-Some c = tells_plain c.args.line.now c.opened_at.ensures c.in-Some.is

pub returns-in-None : goal.returns-in-None
returns-in-None c = tells_preference c.args.line.now c.opened_at.ensures c.in-None.is
