use borrow.Author.Tests.{le-leb, lt-leb}
use Rattle.names.proofs.forms.sized_class.Goals as goal

pub returns-then-bytes-le-NAME : goal.returns-then-bytes-le-NAME
returns-then-bytes-le-NAME c = simp (le-leb _ _ c.if-bytes-le-NAME.true)

pub returns-else-bytes-le-NAME : goal.returns-else-bytes-le-NAME
returns-else-bytes-le-NAME c = simp (lt-leb _ _ c.if-bytes-le-NAME.false)
