use mathlib.Core.Path.{ap, ◌∙◌}
use Rattle.names.specs.Names.{allowed, takes}
use Rattle.name_check.proofs.is_allowed.Goals as goal

pub returns : goal.returns
unfolding allowed
returns c = c.takes_class.ensures ∙ ap (takes c.args.kind) c.name_class.ensures
