use mathlib.Core.Path.{sym, ap, ◌∙◌}
use Rattle.gathering.specs.Gathered.{opens_condition}
use Rattle.reader.proofs.Delivering.{condition_preference, held_preference, line_preference}
use Rattle.reader.proofs.LineByLine.{later_marks}
use Rattle.condition_line.proofs.condition_line.opens_condition.Reads as opens-condition-reads
use Rattle.condition_line.proofs.condition_line.read_condition.Reads as read-condition-reads
use Rattle.gathering.proofs.rule_line.read_rule.Reads as read-rule-reads
use Rattle.reader.proofs.reading.read_statement.Goals as goal

pub read_condition-requires : goal.read_condition-requires
read_condition-requires c =
    record {
      line_len_bound = (c.requires.line_len_bound.0, c.requires.line_len_bound.1, sym (ap (λ k. opens_condition k c.args.line.now) (condition_preference c.args.kind c.args.line.now (sym c.opens_condition.ensures ∙ c.if-opens_condition.true))) ∙ sym c.opens_condition.ensures ∙ c.if-opens_condition.true);
      held = held_preference c.requires.held (condition_preference c.args.kind c.args.line.now (sym c.opens_condition.ensures ∙ c.if-opens_condition.true));
      held_index = c.requires.held_index;
    }

pub returns-then-opens_condition : goal.returns-then-opens_condition
returns-then-opens_condition c =
    let line = line_preference c.requires.held (condition_preference c.args.kind c.args.line.now (sym c.opens_condition.ensures ∙ c.if-opens_condition.true)) c.read_condition.ensures in
    record {
      line_is = line;
      marks_are = later_marks c.requires.held line c.requires.held_marks;
    }

pub read_rule-requires : goal.read_rule-requires
read_rule-requires c =
    record {
      line_len_bound = (c.requires.line_len_bound.0, c.requires.line_len_bound.1, sym c.opens_condition.ensures ∙ c.if-opens_condition.false);
      held = c.requires.held;
      held_index = c.requires.held_index;
      held_marks = c.requires.held_marks;
    }
