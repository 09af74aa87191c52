use Rattle.masks.proofs.AnswersAt.{no_better, better_at}
use borrow.Enum.Refused.{opened}
use Rattle.masks.proofs.answers_at.verdict_at.Goals as goal

pub returns-in_default : goal.returns-in_default
returns-in_default c = no_better _ _ (opened c.in_default.in_default-own.keys2)

pub returns : goal.returns
returns c = better_at _ _ _ _ _ c.in-Beaten.is c.turned.ensures
