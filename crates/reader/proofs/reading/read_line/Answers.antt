use mathlib.Core.Path.{sym, ◌∙◌}
use Rattle.reader.proofs.LineByLine.{later_marks}
use Rattle.reader.proofs.reading.read_line.Goals as goal

pub read_statement-requires : goal.read_statement-requires
read_statement-requires c =
    record {
      line_len_bound = (c.requires.line_len_bound, sym c.is_ruling.ensures ∙ c.if-is_ruling.true);
      held = c.requires.held;
      held_index = c.requires.held_index;
      held_marks = c.requires.held_marks;
    }

pub read_declared-requires : goal.read_declared-requires
read_declared-requires c =
    record {
      line_len_bound = (c.requires.line_len_bound, sym c.is_ruling.ensures ∙ c.if-is_ruling.false);
      held = c.requires.held;
      held_index = c.requires.held_index;
    }

pub returns : goal.returns
returns c =
    record {
      line_is = c.read_declared.ensures;
      marks_are = later_marks c.requires.held c.read_declared.ensures c.requires.held_marks;
    }
