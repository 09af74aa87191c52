use Rattle.used_atoms.proofs.RuleParts.{part_below, part_marked}
use Rattle.used_atoms.proofs.marks.mark_rule.Goals as goal

pub mark_atoms-requires : goal.mark_atoms-requires
mark_atoms-requires c = part_below c.requires c.rule_size-size.ensures

pub returns : goal.returns
returns c = part_marked c.requires c.rule_size-size.ensures c.mark_atoms.ensures
