use mathlib.Core.Logic.{inl, inr}
use Rattle.declaring.proofs.DeclaredSteps.{rule_early, other_early}
use Rattle.declaring.proofs.declared_line.read_declared.Goals as goal

pub returns-in-Rule : goal.returns-in-Rule
returns-in-Rule c =
    elim c.in-Rule.is [
      | inl w ↦ rule_early c.requires.held c.requires.held_index c.args.line.now c.shape_of.ensures c.requires.line_len_bound.1 w.1
      | inr w ↦ other_early c.requires.held c.requires.held_index c.args.line.now c.shape_of.ensures c.requires.line_len_bound.1 w
    ]
