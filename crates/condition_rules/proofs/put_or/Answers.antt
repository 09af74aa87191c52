use native.Mathlib.Omega.{arith}
use mathlib.Core.List.{[], ◌∷◌}
use Rattle.rules.specs.Rules.{rule}
use Rattle.condition_rules.specs.TableRules.{once_in}
use Rattle.condition_rules.proofs.RowRules.{either_end, three_rules}
use Rattle.condition_rules.proofs.put_or.Goals as goal

pub put_if-third-requires : goal.put_if-third-requires
put_if-third-requires c = omega (arith, either_end c.args.left c.args.right c.args.atom c.put_either_if-second.ensures)

pub put_if-requires : goal.put_if-requires
put_if-requires c = omega (arith, either_end c.args.left c.args.right c.args.atom c.put_either_if-second.ensures, c.put_if-third.ensures.place)

pub returns : goal.returns
returns c = three_rules (rule (once_in c.args.left c.args.right) (c.args.atom ∷ []) []) (rule (c.args.atom ∷ []) (c.args.left ∷ []) []) (rule (c.args.atom ∷ []) (c.args.right ∷ []) []) c.put_either_if-second.ensures c.put_if-third.ensures c.put_if.ensures
