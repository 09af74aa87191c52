use Rattle.condition_scan.proofs.WordSorts.{sort_not, sort_and, sort_or, sort_name}
use Rattle.condition_scan.proofs.sorts.sort_of.Goals as goal

pub returns-then-same_bytes : goal.returns-then-same_bytes
returns-then-same_bytes c = sort_not c.args.word.now c.same_bytes.ensures c.if-same_bytes.true

pub returns-then-same_bytes-2 : goal.returns-then-same_bytes-2
returns-then-same_bytes-2 c = sort_and c.args.word.now c.same_bytes.ensures c.if-same_bytes.false c.same_bytes-2.ensures c.if-same_bytes-2.true

pub returns-then-same_bytes-3 : goal.returns-then-same_bytes-3
returns-then-same_bytes-3 c = sort_or c.args.word.now c.same_bytes.ensures c.if-same_bytes.false c.same_bytes-2.ensures c.if-same_bytes-2.false c.same_bytes-3.ensures c.if-same_bytes-3.true

pub returns : goal.returns
returns c = sort_name c.args.word.now c.same_bytes.ensures c.if-same_bytes.false c.same_bytes-2.ensures c.if-same_bytes-2.false c.same_bytes-3.ensures c.if-same_bytes-3.false
