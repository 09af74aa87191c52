use Rattle.condition_parts.proofs.JoinedParts.{part_read, part_behind}
use Rattle.condition_parts.proofs.NamedParts.{whole_faulty, whole_read}
use Rattle.condition_parts.proofs.parts.parse_condition.Goals as goal

pub returns-in_err-part : goal.returns-in_err-part
returns-in_err-part c = rw c.from_residual.ensures (whole_faulty _ _ _ c.in_err-part.ensures)

pub nothing_at-requires : goal.nothing_at-requires
nothing_at-requires c = (part_read c.in_ok-part.ensures).inside

pub returns : goal.returns
returns c = rw c.then_some.ensures (whole_read _ _ _ (part_read c.in_ok-part.ensures) c.nothing_at.ensures (part_behind c.in_ok-part.ensures))
