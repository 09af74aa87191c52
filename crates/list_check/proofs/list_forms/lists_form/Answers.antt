use Prim.Native.Nat.{◌+◌}
use native.Mathlib.Omega.{arith}
use Rattle.stores.proofs.Marks.{below_more, listed, head_wrong, body_wrong, all_lists}
use Rattle.list_check.proofs.list_forms.lists_form.Goals as goal

pub returns-then-not-list_form : goal.returns-then-not-list_form
returns-then-not-list_form c = (head_wrong _ _ (listed c.args.atoms c.args.words.now c.args.at c.args.heads c.list_form.ensures.0) c.if-not-list_form.true, below_more c.list_form.ensures.1 (omega arith))

pub returns-then-not-list_form-2 : goal.returns-then-not-list_form-2
returns-then-not-list_form-2 c =
    (body_wrong _ _ (listed c.args.atoms c.args.words.now c.args.at c.args.heads c.list_form.ensures.0) (listed c.args.atoms c.args.words.now (c.args.at + c.args.heads) c.args.bodies c.list_form-2.ensures.0) c.if-not-list_form.false c.if-not-list_form-2.true, below_more c.list_form-2.ensures.1 (omega arith))

pub returns : goal.returns
returns c =
    (all_lists _ _ (listed c.args.atoms c.args.words.now c.args.at c.args.heads c.list_form.ensures.0) (listed c.args.atoms c.args.words.now (c.args.at + c.args.heads) c.args.bodies c.list_form-2.ensures.0) c.if-not-list_form.false (listed c.args.atoms c.args.words.now (c.args.at + c.args.heads + c.args.bodies) c.args.nots c.list_form-3.ensures.0) c.if-not-list_form-2.false, below_more c.list_form-3.ensures.1 (omega arith))
