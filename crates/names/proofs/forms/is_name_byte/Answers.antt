use Rattle.names.proofs.NameBits.{low, high, beyond}
use Rattle.names.proofs.forms.is_name_byte.Goals as goal
use Rattle.names.proofs.forms.is_name_byte.Goals.{then-b-lt64, else-b-lt64}

pub returns-then-b-ge128 : goal.returns-then-b-ge128
returns-then-b-ge128 c = beyond _ c.if-b-ge128.true

pub returns : goal.returns
returns c = elim c.if-b-lt64.branch [ then-b-lt64 w ↦ low _ w.if-b-lt64.true w.half-is | else-b-lt64 w ↦ high _ w.if-b-lt64.false c.if-b-ge128.false w.half-is ]
