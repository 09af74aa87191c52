use Rattle.writer.proofs.Writing.{too_short, written}
use Rattle.writer.proofs.write_text.Goals as goal

pub returns-then-out-bytes : goal.returns-then-out-bytes
returns-then-out-bytes c =
    let r = too_short c.emit_text-bytes.ensures _ c.if-out-bytes.true in
    record {
      answer = r.0;
      output = r.1;
    }

pub returns : goal.returns
returns c =
    let r = written c.emit_text-bytes.ensures c.if-out-bytes.false c.emit_text.ensures in
    record {
      answer = r.0;
      output = r.1;
    }
