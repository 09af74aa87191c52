use Rattle.std.proofs.Common.{rules, tests, eqb, not, ℕ, ◌∙◌}
use Rattle.std.proofs.lemmas.Iterator.{YieldsList-from_slice}
use Rattle.std.proofs.lemmas.Iterator.Consumers.{YieldsList-from_filter, count_from_yields_List}
use Rattle.kinds.specs.Limits.{fixed}
use Rattle.conditions.specs.Numbers.{unfixed}
use Rattle.placing.proofs.PlaceNumbers.{count_kept}
use Rattle.placing.proofs.numbers.count_unfixed.Goals as goal

pub returns : goal.returns
unfolding unfixed
returns c =
    let test = λ (w : ℕ). not (eqb w fixed) in
    count_from_yields_List c.filter.result _ c.count.ensures.ran (YieldsList-from_filter _ test (YieldsList-from_slice c.args.words.now cc) c.filter.ensures.closure (λ x b q k. search (rules, tests)))
    ∙ count_kept test c.args.words.now
