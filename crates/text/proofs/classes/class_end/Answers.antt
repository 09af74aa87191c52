use Rattle.std.proofs.Common.{arith, rules, tests, leb, ℕ, drop, ap, ◌+◌, ◌∙◌}
use Rattle.std.proofs.lemmas.Iterator.{YieldsList-from_slice}
use Rattle.std.proofs.lemmas.Iterator.Consumers.{count_from_yields_List}
use Rattle.std.proofs.lemmas.Iterator.Search.{YieldsList-from_take_while}
use Rattle.std.proofs.lemmas.List.Folds.{length-prefix_len}
use Rattle.std.specs.Slice.Iter.{iter_rest}
use Rattle.rules.proofs.Lists.{part_rest}
use Rattle.text.proofs.ClassWords.{up_to_le, up_to_from}
use Rattle.text.proofs.classes.class_end.Goals as goal

pub offset_bounds-words-first : goal.offset_bounds-words-first
offset_bounds-words-first c = omega (arith, up_to_le c.args.word c.args.words.now)

pub slice_bounds-iter-count : goal.slice_bounds-iter-count
slice_bounds-iter-count c = omega (arith, up_to_le c.args.word c.args.words.now)

pub slice_bounds-iter-start : goal.slice_bounds-iter-start
slice_bounds-iter-start c = omega (arith, up_to_le c.args.word c.args.words.now)

pub returns : goal.returns
returns c =
    let fits = λ (x : ℕ). leb x c.args.word in
    let rest = drop c.args.first c.args.words.now in
    ap (λ n. c.args.first + n) (
    count_from_yields_List c.take_while-within.result _ c.count.ensures.ran (YieldsList-from_take_while _ fits (YieldsList-from_slice rest (ap iter_rest c.take_while-within.ensures.source ∙ c.iter.ensures.rest ∙ part_rest c.args.first c.args.words.now)) c.take_while-within.ensures.closure c.take_while-within.ensures.done (λ x b q k. search (rules, tests)))
    ∙ length-prefix_len fits rest)
    ∙ up_to_from c.args.word c.args.words.now c.args.first c.requires
