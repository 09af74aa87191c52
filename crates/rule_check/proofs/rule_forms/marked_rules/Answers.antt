use Rattle.kinds.specs.Limits.{atom_limit}
use Rattle.kinds.specs.declared.limits.Kind.TheVariants.{Plain}
use native.Mathlib.Omega.{arith}
use Rattle.stores.proofs.StoreHeader.{atoms_small, unmarked}
use Rattle.rule_check.proofs.rule_forms.marked_rules.Goals as goal

pub rules_form-requires : goal.rules_form-requires
rules_form-requires c = (c.requires.0, c.requires.1, omega (arith, atoms_small c.args.kind), unmarked (atom_limit Plain))
