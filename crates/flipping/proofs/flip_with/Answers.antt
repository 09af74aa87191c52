use Rattle.flipping.proofs.FlipFaults.{no_index, not_rising, too_many_lem, outside, checked, answered}
use native.Mathlib.Omega.{arith}
use mathlib.Core.Path.{ap}
use mathlib.Core.Bool.{not}
use Rattle.flipping.proofs.flip_with.Goals as goal

pub returns-then-not-is_index : goal.returns-then-not-is_index
returns-then-not-is_index c =
    let r = no_index c.args.rules.now c.args.index.now c.args.list.now c.args.set c.args.atom c.args.out.now c.requires.store_of.0 c.requires.store_of.1 c.is_index.ensures.value (ap not c.if-not-is_index.true) in
    record {
      answer = r.0;
      output = r.1;
    }

pub returns-then-not-is_rising : goal.returns-then-not-is_rising
returns-then-not-is_rising c =
    let r = not_rising c.args.rules.now c.args.index.now c.args.list.now c.args.set c.args.atom c.args.out.now c.requires.store_of.0 c.requires.store_of.1 c.is_index.ensures.value (ap not c.if-not-is_index.false) c.is_rising.ensures (ap not c.if-not-is_rising.true) in
    record {
      answer = r.0;
      output = r.1;
    }

pub returns-then-header-gt-ATOMS : goal.returns-then-header-gt-ATOMS
returns-then-header-gt-ATOMS c =
    let r = too_many_lem c.args.rules.now c.args.index.now c.args.list.now c.args.set c.args.atom c.args.out.now c.requires.store_of.0 c.requires.store_of.1 c.is_index.ensures.value (ap not c.if-not-is_index.false) c.is_rising.ensures (ap not c.if-not-is_rising.false) c.if-header-gt-ATOMS.true in
    record {
      answer = r.0;
      output = r.1;
    }

pub returns-then-not-is_inside : goal.returns-then-not-is_inside
returns-then-not-is_inside c =
    let r = outside c.args.rules.now c.args.index.now c.args.list.now c.args.set c.args.atom c.args.out.now c.requires.store_of.0 c.requires.store_of.1 c.is_index.ensures.value (ap not c.if-not-is_index.false) c.is_rising.ensures (ap not c.if-not-is_rising.false) c.if-header-gt-ATOMS.false c.is_inside.ensures (ap not c.if-not-is_inside.true) in
    record {
      answer = r.0;
      output = r.1;
    }

pub flip_checked-requires : goal.flip_checked-requires
flip_checked-requires c =
    record {
      checked = (checked c.args.rules.now c.args.index.now c.args.list.now c.args.set c.args.atom c.args.out.now c.requires.store_of.0 c.requires.store_of.1 c.is_index.ensures.value (ap not c.if-not-is_index.false) c.is_rising.ensures (ap not c.if-not-is_rising.false) c.if-header-gt-ATOMS.false c.is_inside.ensures (ap not c.if-not-is_inside.false), c.is_index.ensures.placed c.if-not-is_index.false);
      rule_limit_in_bounds = (omega (arith, c.places-1.given, c.requires.rule_limit_in_bounds.0), c.requires.rule_limit_in_bounds.1);
    }

pub returns : goal.returns
returns c =
    let r = answered c.args.rules.now c.args.index.now c.args.list.now c.args.set c.args.atom c.args.out.now c.requires.store_of.0 c.requires.store_of.1 c.is_index.ensures.value (ap not c.if-not-is_index.false) c.is_rising.ensures (ap not c.if-not-is_rising.false) c.if-header-gt-ATOMS.false c.is_inside.ensures (ap not c.if-not-is_inside.false) (c.flip_checked.ensures.answer, c.flip_checked.ensures.output) in
    record {
      answer = r.0;
      output = r.1;
    }
