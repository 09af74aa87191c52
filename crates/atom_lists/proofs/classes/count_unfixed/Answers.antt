use Rattle.std.proofs.Common.{rules, tests, eqb, not, ℕ, ◌∙◌}
use Rattle.std.proofs.lemmas.Iterator.{YieldsList-from_slice}
use Rattle.std.proofs.lemmas.Iterator.Consumers.{YieldsList-from_filter, count_from_yields_List}
use Rattle.kinds.specs.Limits.{fixed}
use Rattle.atom_lists.specs.Roles.{unfixed_count}
use Rattle.atom_lists.proofs.Counting.{count_words}
use Rattle.atom_lists.proofs.classes.count_unfixed.Goals as goal

pub returns : goal.returns
unfolding unfixed_count
returns c =
    let test = λ (w : ℕ). not (eqb w fixed) in
    count_from_yields_List c.filter-unfixed.result _ c.count.ensures.ran (YieldsList-from_filter _ test (YieldsList-from_slice c.args.classes.now cc) c.filter-unfixed.ensures.closure (λ x b q k. search (rules, tests)))
    ∙ count_words test c.args.classes.now
