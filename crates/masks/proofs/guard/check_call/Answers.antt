use mathlib.Core.Path.{refl}
use native.Mathlib.Omega.{arith}
use Rattle.masks.proofs.Guarding.{no_store, header_read, too_many_lem, top_fits, outside, over_budget, passes}
use Rattle.masks.proofs.guard.check_call.Goals as goal

pub returns-then-not-is_of : goal.returns-then-not-is_of
returns-then-not-is_of c = no_store c.args.kind c.args.words.now c.args.number c.args.extra c.args.budget _ _ c.check_rules.ensures c.is_of.ensures c.if-not-is_of.true

pub bounds-words-1 : goal.bounds-words-1
bounds-words-1 c = omega (arith, header_read c.args.kind c.args.words.now c.args.number c.args.extra c.args.budget _ _ c.check_rules.ensures c.is_of.ensures c.if-not-is_of.false)

pub returns-then-n-gt-ATOMS : goal.returns-then-n-gt-ATOMS
returns-then-n-gt-ATOMS c = too_many_lem c.args.kind c.args.words.now c.args.number c.args.extra c.args.budget _ _ c.check_rules.ensures c.is_of.ensures c.if-not-is_of.false _ refl c.if-n-gt-ATOMS.true

pub overflow_add-n : goal.overflow_add-n
overflow_add-n c = record { fits = top_fits c.args.kind c.args.words.now c.args.number c.args.extra c.args.budget _ _ c.check_rules.ensures c.is_of.ensures c.if-not-is_of.false _ refl c.if-n-gt-ATOMS.false c.requires }

pub returns-then-n-extra : goal.returns-then-n-extra
returns-then-n-extra c = outside c.args.kind c.args.words.now c.args.number c.args.extra c.args.budget _ _ c.check_rules.ensures c.is_of.ensures c.if-not-is_of.false _ refl c.if-n-gt-ATOMS.false c.if-n-extra.true

pub returns-then-budget-gt-BUDGET : goal.returns-then-budget-gt-BUDGET
returns-then-budget-gt-BUDGET c = over_budget c.args.kind c.args.words.now c.args.number c.args.extra c.args.budget _ _ c.check_rules.ensures c.is_of.ensures c.if-not-is_of.false _ refl c.if-n-gt-ATOMS.false c.if-n-extra.false c.if-budget-gt-BUDGET.true

pub returns : goal.returns
returns c = passes c.args.kind c.args.words.now c.args.number c.args.extra c.args.budget _ _ c.check_rules.ensures c.is_of.ensures c.if-not-is_of.false _ refl c.if-n-gt-ATOMS.false c.if-n-extra.false c.if-budget-gt-BUDGET.false
