use mathlib.Core.Path.{sym, ◌∙◌}
use Rattle.gathering.proofs.RuleSteps.{blank_passed, blank_marks}
use Rattle.gathering.proofs.rule_line.read_rule.Goals as goal

pub returns-then-nothing_at : goal.returns-then-nothing_at
returns-then-nothing_at c =
    record {
      line_is = blank_passed c.requires.held c.requires.held_index c.args.line.now c.nothing_at.ensures c.if-nothing_at.true c.pass_blank.ensures;
      marks_are = blank_marks c.requires.held c.requires.held_index c.args.line.now c.nothing_at.ensures c.if-nothing_at.true c.pass_blank.ensures c.requires.held_marks;
    }

pub add_rule-requires : goal.add_rule-requires
add_rule-requires c =
    record {
      line_len_bound = (c.requires.line_len_bound.0, c.requires.line_len_bound.1, c.requires.line_len_bound.2, sym c.nothing_at.ensures ∙ c.if-nothing_at.false);
      held = c.requires.held;
      held_index = c.requires.held_index;
      held_marks = c.requires.held_marks;
    }
