use mathlib.Core.Path.{◌∙◌}
use native.Mathlib.Omega.{arith}
use Rattle.name_check.proofs.NameChecks.{check_begins, check_passed, check_short, check_room, check_part, check_wrong, check_twice, check_again, never}
use Rattle.name_check.proofs.index_names.Goals as goal

pub loop-atom-init : goal.loop-atom-init
loop-atom-init c = let a = c.args in check_begins a.kind a.bytes.now a.atoms a.starts.now a.firsts.now a.links.now c.requires.0 c.requires.1 c.requires.2 c.requires.3

pub shape_of-starts-in_default : goal.shape_of-starts-in_default
shape_of-starts-in_default c = c.loop-atom.invariant.same_starts

pub shape_of-firsts-in_default : goal.shape_of-firsts-in_default
shape_of-firsts-in_default c = c.loop-atom.invariant.same_firsts

pub shape_of-links-in_default : goal.shape_of-links-in_default
shape_of-links-in_default c = c.loop-atom.invariant.same_links

pub returns-in_default : goal.returns-in_default
returns-in_default c =
    record {
      value = check_short c.loop-atom.invariant c.loop-atom-test.true c.name_end.ensures c.in_default.is;
      indexed = never;
    }

pub overflow_add-from : goal.overflow_add-from
overflow_add-from c = omega (arith, check_part c.loop-atom.invariant c.loop-atom-test.true c.name_end.ensures c.in-Some.is)

pub slice_bounds-name-count : goal.slice_bounds-name-count
slice_bounds-name-count c = omega (arith, check_part c.loop-atom.invariant c.loop-atom-test.true c.name_end.ensures c.in-Some.is)

pub slice_bounds-name-start : goal.slice_bounds-name-start
slice_bounds-name-start c = omega (arith, check_part c.loop-atom.invariant c.loop-atom-test.true c.name_end.ensures c.in-Some.is)

pub slice_bounds-name-end : goal.slice_bounds-name-end
slice_bounds-name-end c = omega (arith, check_part c.loop-atom.invariant c.loop-atom-test.true c.name_end.ensures c.in-Some.is)

pub shape_of-starts-then-not-is_allowed : goal.shape_of-starts-then-not-is_allowed
shape_of-starts-then-not-is_allowed c = c.loop-atom.invariant.same_starts

pub shape_of-firsts-then-not-is_allowed : goal.shape_of-firsts-then-not-is_allowed
shape_of-firsts-then-not-is_allowed c = c.loop-atom.invariant.same_firsts

pub shape_of-links-then-not-is_allowed : goal.shape_of-links-then-not-is_allowed
shape_of-links-then-not-is_allowed c = c.loop-atom.invariant.same_links

pub returns-then-not-is_allowed : goal.returns-then-not-is_allowed
returns-then-not-is_allowed c =
    record {
      value = check_wrong c.loop-atom.invariant c.loop-atom-test.true c.name_end.ensures c.in-Some.is c.is_allowed.ensures c.if-not-is_allowed.true;
      indexed = never;
    }

pub enter_new-requires : goal.enter_new-requires
enter_new-requires c =
    record {
      indexed = c.loop-atom.invariant.index;
      atom_in_bounds = check_room c.loop-atom.invariant c.loop-atom-test.true;
    }

pub shape_of-starts-then-not-enter_new : goal.shape_of-starts-then-not-enter_new
shape_of-starts-then-not-enter_new c = c.enter_new.auto.starts ∙ c.loop-atom.invariant.same_starts

pub shape_of-firsts-then-not-enter_new : goal.shape_of-firsts-then-not-enter_new
shape_of-firsts-then-not-enter_new c = c.enter_new.auto.firsts ∙ c.loop-atom.invariant.same_firsts

pub shape_of-links-then-not-enter_new : goal.shape_of-links-then-not-enter_new
shape_of-links-then-not-enter_new c = c.enter_new.auto.links ∙ c.loop-atom.invariant.same_links

pub returns-then-not-enter_new : goal.returns-then-not-enter_new
returns-then-not-enter_new c =
    record {
      value = check_twice c.loop-atom.invariant c.loop-atom-test.true c.name_end.ensures c.in-Some.is c.is_allowed.ensures c.if-not-is_allowed.false c.enter_new.ensures.value c.if-not-enter_new.true;
      indexed = never;
    }

pub loop-atom-preserved : goal.loop-atom-preserved
loop-atom-preserved c = check_again c.loop-atom.invariant c.loop-atom-test.true c.name_end.ensures c.in-Some.is c.is_allowed.ensures c.if-not-is_allowed.false c.enter_new.ensures.value c.if-not-enter_new.false c.enter_new.ensures.starts_after c.enter_new.ensures.firsts_after c.enter_new.ensures.links_after

pub shape_of-starts : goal.shape_of-starts
shape_of-starts c = c.loop-atom.invariant.same_starts

pub shape_of-firsts : goal.shape_of-firsts
shape_of-firsts c = c.loop-atom.invariant.same_firsts

pub shape_of-links : goal.shape_of-links
shape_of-links c = c.loop-atom.invariant.same_links

pub returns : goal.returns
returns c =
    let r = check_passed c.loop-atom.invariant c.loop-atom-test.false in
    record {
      value = r.0;
      indexed = r.1;
    }
