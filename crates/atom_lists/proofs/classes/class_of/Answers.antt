use Rattle.std.proofs.Common.{arith}
use Rattle.atom_lists.proofs.Roles.{class_is, no_class, class_small}
use Rattle.atom_lists.proofs.classes.class_of.Goals as goal

pub overflow_cast-result : goal.overflow_cast-result
overflow_cast-result c = omega (arith, class_small _ c.role_of.ensures c.in-Minimised.is)

pub returns-in-Minimised : goal.returns-in-Minimised
returns-in-Minimised c = class_is c.args.classes.now _ c.role_of.ensures c.in-Minimised.is

pub returns-in_default : goal.returns-in_default
returns-in_default c = no_class c.args.classes.now _ c.role_of.ensures c.in_default.not-Minimised
