use mathlib.Core.Path.{refl}
use Rattle.descent.specs.Search.{with_terms}
use Rattle.descent.proofs.verdicts.set_terms.Goals as goal

pub returns : goal.returns
unfolding with_terms
returns c = refl
