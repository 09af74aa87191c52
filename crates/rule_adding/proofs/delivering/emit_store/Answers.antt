use Rattle.rule_adding.proofs.WritingStore.{header_range, count_range, others_range, rule_range, store_written}
use native.Mathlib.Omega.{arith}
use mathlib.Core.Path.{sym}
use lib.Seq.{length-take-le}
use Rattle.rule_adding.proofs.delivering.emit_store.Goals as goal

pub slice_bounds-emit-end : goal.slice_bounds-emit-end
slice_bounds-emit-end c = sym (length-take-le 3 c.args.rules.now (omega arith))

pub emit-third-requires : goal.emit-third-requires
emit-third-requires c = header_range _ _ c.requires.0 c.requires.2

pub push-fourth-requires : goal.push-fourth-requires
push-fourth-requires c = count_range _ _ c.requires.0 c.requires.2 c.emit-third.ensures

pub emit-behind-requires : goal.emit-behind-requires
emit-behind-requires c = others_range _ _ c.requires.0 c.requires.2 c.emit-third.ensures c.push-fourth.ensures

pub emit-requires : goal.emit-requires
emit-requires c = rule_range _ _ c.requires.0 c.requires.2 c.emit-third.ensures c.push-fourth.ensures c.emit-behind.ensures

pub returns : goal.returns
returns c = store_written _ _ c.requires.0 c.emit-third.ensures c.push-fourth.ensures c.emit-behind.ensures c.emit.ensures
