use Prim.Native.Nat.{◌+◌}
use native.Mathlib.Omega.{arith}
use Rattle.stores.proofs.Marks.{below_more}
use Rattle.stores.proofs.RulePlace.{limit_small, cut_short, too_many_lem, filled_not, list_wrong, passed}
use Rattle.rule_check.proofs.rule_forms.rule_form.Goals as goal

pub returns-then-words-at-lt3 : goal.returns-then-words-at-lt3
returns-then-words-at-lt3 c = (cut_short _ _ _ _ _ (omega arith) c.requires.0, below_more c.requires.4 (omega arith))

pub overflow_cast-heads : goal.overflow_cast-heads
overflow_cast-heads c = omega (arith, c.type_inv.words c.args.at)

pub overflow_cast-bodies : goal.overflow_cast-bodies
overflow_cast-bodies c = omega (arith, c.type_inv.words (c.args.at + 1))

pub overflow_cast-nots : goal.overflow_cast-nots
overflow_cast-nots c = omega (arith, c.type_inv.words (c.args.at + 2))

pub overflow_add-places : goal.overflow_add-places
overflow_add-places c = omega (arith, c.type_inv.words c.args.at, c.type_inv.words (c.args.at + 1))

pub overflow_add-places-2 : goal.overflow_add-places-2
overflow_add-places-2 c = omega (arith, c.type_inv.words c.args.at, c.type_inv.words (c.args.at + 1), c.type_inv.words (c.args.at + 2))

pub returns-then-words-lists : goal.returns-then-words-lists
returns-then-words-lists c = (cut_short _ _ _ _ _ (omega arith) c.requires.0, below_more c.requires.4 (omega arith))

pub overflow_add-sum : goal.overflow_add-sum
overflow_add-sum c = omega (arith, limit_small c.args.kind, c.type_inv.words c.args.at, c.type_inv.words (c.args.at + 1), c.type_inv.words (c.args.at + 2))

pub returns-then-occurrences-sum : goal.returns-then-occurrences-sum
returns-then-occurrences-sum c = (too_many_lem _ _ _ _ _ (omega arith), below_more c.requires.4 (omega arith))

pub returns-then-not-not_form : goal.returns-then-not-not_form
returns-then-not-not_form c = (filled_not _ _ _ _ _ c.not_form.ensures c.if-not-not_form.true, below_more c.requires.4 (omega arith))

pub lists_form-requires : goal.lists_form-requires
lists_form-requires c = (omega arith, c.requires.2, c.requires.3, c.requires.4)

pub returns-then-not-lists_form : goal.returns-then-not-lists_form
returns-then-not-lists_form c = (list_wrong _ _ _ _ _ c.lists_form.ensures.0 c.if-not-lists_form.true, c.lists_form.ensures.1)

pub returns : goal.returns
returns c = (passed _ _ _ _ _ (omega arith) (omega arith) c.not_form.ensures c.if-not-not_form.false c.lists_form.ensures.0 c.if-not-lists_form.false, c.lists_form.ensures.1)
