use lib.ListN.{drop}
use Rattle.flipping.proofs.JoinLoop.{place_inside, rule_stored, not_own, own_kept}
use native.Mathlib.Omega.{arith}
use mathlib.Core.Path.{ap}
use mathlib.Core.Bool.{not}
use Rattle.flipping.proofs.joining.is_kept.Goals as goal

pub returns-then-not-is_at : goal.returns-then-not-is_at
returns-then-not-is_at c = not_own (c.requires.0.place c.args.rule c.requires.1) c.args.set c.args.rule (drop c.args.j c.args.own.now) c.is_at.ensures (ap not c.if-not-is_at.true)

pub offset_bounds-words-from : goal.offset_bounds-words-from
offset_bounds-words-from c = omega (arith, place_inside (c.requires.0.place c.args.rule c.requires.1))

pub slice_bounds-breaks-count : goal.slice_bounds-breaks-count
slice_bounds-breaks-count c = omega (arith, place_inside (c.requires.0.place c.args.rule c.requires.1))

pub slice_bounds-breaks-start : goal.slice_bounds-breaks-start
slice_bounds-breaks-start c = omega (arith, place_inside (c.requires.0.place c.args.rule c.requires.1))

pub breaks-requires : goal.breaks-requires
breaks-requires c = rule_stored (c.requires.0.place c.args.rule c.requires.1)

pub returns : goal.returns
returns c = own_kept (c.requires.0.place c.args.rule c.requires.1) c.args.set c.args.rule (drop c.args.j c.args.own.now) c.is_at.ensures (ap not c.if-not-is_at.false) c.breaks.ensures
