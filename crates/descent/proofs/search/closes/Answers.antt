use mathlib.Core.Path.{refl}
use native.Mathlib.Omega.{arith}
use Rattle.descent.proofs.Loops.{start_fits, start_even, group_in, group_out}
use Rattle.descent.proofs.search.closes.Goals as goal

pub breaks-requires : goal.breaks-requires
breaks-requires c =
    record {
      to_le_place_limit = start_fits c.args.plan.now c.args.rest c.requires.rest_lt_walk_atoms c.requires.bounded 2 _ (omega arith) refl;
      from_value = (start_even c.args.plan.now c.args.rest c.requires.rest_lt_walk_atoms c.requires.paired 1 _ (omega arith) refl, start_even c.args.plan.now c.args.rest c.requires.rest_lt_walk_atoms c.requires.paired 2 _ (omega arith) refl);
    }

pub returns-then-value : goal.returns-then-value
returns-then-value c = group_in c.args.plan.now c.args.rest c.requires.rest_lt_walk_atoms _ _ c.if-value.true c.breaks.ensures

pub breaks-requires-2 : goal.breaks-requires-2
breaks-requires-2 c =
    record {
      to_le_place_limit = start_fits c.args.plan.now c.args.rest c.requires.rest_lt_walk_atoms c.requires.bounded 1 _ (omega arith) refl;
      from_value = (start_even c.args.plan.now c.args.rest c.requires.rest_lt_walk_atoms c.requires.paired 0 _ (omega arith) (omega arith), start_even c.args.plan.now c.args.rest c.requires.rest_lt_walk_atoms c.requires.paired 1 _ (omega arith) refl);
    }

pub returns : goal.returns
returns c = group_out c.args.plan.now c.args.rest c.requires.rest_lt_walk_atoms _ _ c.if-value.false c.breaks-2.ensures
