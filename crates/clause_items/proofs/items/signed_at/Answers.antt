use Rattle.clause_items.proofs.FoundNumbers.{number_is, number_not}
use Rattle.clause_items.proofs.Signs.{signed_broken, signed_literal, signed_end, signed_none}
use Rattle.clause_items.proofs.items.signed_at.Goals as goal

pub returns-in_default : goal.returns-in_default
returns-in_default c = signed_broken c.args.positive _ _ (number_not _ _ c.number_at.ensures c.in_default.is)

pub returns-then-number-ne0 : goal.returns-then-number-ne0
returns-then-number-ne0 c = signed_literal (number_is _ _ c.number_at.ensures c.in-Some.is) c.args.positive c.if-number-ne0.true

pub returns-then-positive : goal.returns-then-positive
returns-then-positive c = signed_end (number_is _ _ c.number_at.ensures c.in-Some.is) c.if-number-ne0.false c.if-positive.true

pub returns : goal.returns
returns c = signed_none (number_is _ _ c.number_at.ensures c.in-Some.is) c.if-number-ne0.false c.if-positive.false
