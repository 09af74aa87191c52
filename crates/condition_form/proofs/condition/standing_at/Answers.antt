use native.Mathlib.Omega.{arith}
use Rattle.lines.proofs.TokenPlaces.{item_fits}
use Rattle.condition_form.proofs.StandingPlaces.{opening_stands, closing_stands, nothing_stands, taken_stands, refused_stands, wrong_stands}
use Rattle.condition_form.proofs.condition.standing_at.Goals as goal

pub returns-in-Opening : goal.returns-in-Opening
returns-in-Opening c = opening_stands c.args.kind c.args.line.now c.args.at c.item_at.ensures c.in_default.is c.bracket_at.ensures c.in-Opening.is

pub returns-in-Closing : goal.returns-in-Closing
returns-in-Closing c = closing_stands c.args.kind c.args.line.now c.args.at c.item_at.ensures c.in_default.is c.bracket_at.ensures c.in-Closing.is

pub returns-in-Absent : goal.returns-in-Absent
returns-in-Absent c = nothing_stands c.args.kind c.args.line.now c.args.at c.item_at.ensures c.in_default.is c.bracket_at.ensures c.in-Absent.is

pub overflow_add-start : goal.overflow_add-start
overflow_add-start c = omega (arith, item_fits c.args.line.now c.args.at c.item_at.ensures c.in-Some.is)

pub overflow_add-to : goal.overflow_add-to
overflow_add-to c = omega (arith, item_fits c.args.line.now c.args.at c.item_at.ensures c.in-Some.is)

pub slice_bounds-name_fit-end : goal.slice_bounds-name_fit-end
slice_bounds-name_fit-end c = omega (arith, item_fits c.args.line.now c.args.at c.item_at.ensures c.in-Some.is)

pub returns-in-Taken : goal.returns-in-Taken
returns-in-Taken c = taken_stands c.args.kind c.args.line.now c.args.at c.item_at.ensures c.in-Some.is c.name_fit.ensures c.in-Taken.is

pub returns-in-Refused : goal.returns-in-Refused
returns-in-Refused c = refused_stands c.args.kind c.args.line.now c.args.at c.item_at.ensures c.in-Some.is c.name_fit.ensures c.in-Refused.is

pub returns-in-Wrong : goal.returns-in-Wrong
returns-in-Wrong c = wrong_stands c.args.kind c.args.line.now c.args.at c.item_at.ensures c.in-Some.is c.name_fit.ensures c.in-Wrong.is
