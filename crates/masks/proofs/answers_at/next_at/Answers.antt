use Rattle.masks.proofs.AnswersAt.{no_state, state_at}
use borrow.Enum.Refused.{opened}
use Rattle.masks.proofs.answers_at.next_at.Goals as goal

pub returns-in_default : goal.returns-in_default
returns-in_default c = no_state _ _ (opened c.in_default.in_default-own.keys2)

pub returns : goal.returns
returns c = state_at _ _ _ _ _ c.in-State.is c.turned.ensures
