use Rattle.used_atoms.proofs.RuleParts.{part_below, atoms_range, rule_moved}
use Rattle.remaining_stores.proofs.left.put_rule.Goals as goal

pub put_atoms-requires : goal.put_atoms-requires
put_atoms-requires c = (part_below c.requires.0 c.rule_size-size.ensures, atoms_range c.requires.0 c.rule_size-size.ensures c.args.numbers.now c.requires.1 c.emit-counted.ensures)

pub returns : goal.returns
returns c = rule_moved c.requires.0 c.rule_size-size.ensures c.args.numbers.now c.requires.1 c.emit-counted.ensures c.put_atoms.ensures
