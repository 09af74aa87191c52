use mathlib.Core.Path.{sym, ap, ◌∙◌}
use Rattle.gathering.specs.Gathered.{blank_line}
use Rattle.gathering.proofs.rule_line.pass_blank.Goals as goal

pub returns-then-is_ended : goal.returns-then-is_ended
returns-then-is_ended c = ap (blank_line c.args.gathered) (sym c.if-is_ended.true ∙ c.is_ended.ensures)

pub returns : goal.returns
returns c = ap (blank_line c.args.gathered) (sym c.if-is_ended.false ∙ c.is_ended.ensures)
