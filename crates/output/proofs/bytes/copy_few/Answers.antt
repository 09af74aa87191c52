use Rattle.output.proofs.Copying.{none_stored, middle_below, last_below, few_stored}
use Rattle.output.proofs.bytes.copy_few.Goals as goal

pub returns-then-bytes-eq0 : goal.returns-then-bytes-eq0
returns-then-bytes-eq0 c = none_stored c.args.bytes.now c.args.part.now c.requires.0 c.if-bytes-eq0.true

pub bounds-part-middle : goal.bounds-part-middle
bounds-part-middle c = middle_below c.args.bytes.now c.args.part.now c.requires.0 c.if-bytes-eq0.false _

pub bounds-part-last : goal.bounds-part-last
bounds-part-last c = last_below c.args.bytes.now c.args.part.now c.requires.0 c.if-bytes-eq0.false _ _

pub returns : goal.returns
returns c = few_stored c.args.bytes.now c.args.part.now c.requires.0 c.if-bytes-eq0.false c.requires.1
