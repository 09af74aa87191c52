use Rattle.std.proofs.Common.{rules, tests, leb, ℕ, ◌∙◌}
use Rattle.std.proofs.lemmas.Iterator.{YieldsList-from_slice}
use Rattle.std.proofs.lemmas.Iterator.Consumers.{YieldsList-from_filter, count_from_yields_List}
use Rattle.kinds.specs.Limits.{class_limit}
use Rattle.atom_lists.specs.Roles.{minimised_count}
use Rattle.atom_lists.proofs.Counting.{count_words}
use Rattle.atom_lists.proofs.classes.count_minimised.Goals as goal

pub returns : goal.returns
unfolding minimised_count
returns c =
    let test = λ (w : ℕ). leb w class_limit in
    count_from_yields_List c.filter-minimised.result _ c.count.ensures.ran (YieldsList-from_filter _ test (YieldsList-from_slice c.args.classes.now cc) c.filter-minimised.ensures.closure (λ x b q k. search (rules, tests)))
    ∙ count_words test c.args.classes.now
