use Rattle.text.proofs.RuleLoop.{RulesLeft}
use Rattle.text.specs.Items.{rule_item}
use lib.ListN.{length}
use Rattle.text.specs.PlacedNames.{names_in}
use Rattle.text.proofs.rule_lines.emit_rules.Given as goal

abbrev pub invariant-loop : goal.invariant-loop
invariant-loop l = RulesLeft (rule_item (names_in l.names)) (length l.names.starts.now) l.count l.words l.initial.out l.at l.out l.next l.from l.counter
