use Rattle.output.proofs.Emitting.{length_kept}
use Rattle.canonical_store.proofs.KeptLoop.{begins, range, keeps, skips, counted, ended}
use native.Mathlib.Omega.{arith}
use borrow.Author.Rules.{rules}
use Rattle.canonical_store.proofs.written_rules.emit_rules.Goals as goal
use Rattle.canonical_store.proofs.written_rules.emit_rules.Goals.{then-kept, else-kept}

pub loop-i-init : goal.loop-i-init
loop-i-init c = begins _ _ _ _ c.requires.2

pub emit_rule-next-requires : goal.emit_rule-next-requires
emit_rule-next-requires c = (search rules, range c.loop-i.invariant c.loop-i-test.true c.kept.ensures c.if-kept.true)

pub overflow_add-rules : goal.overflow_add-rules
overflow_add-rules c = omega (arith, counted c.loop-i.invariant)

pub loop-i-preserved : goal.loop-i-preserved
loop-i-preserved c =
    elim c.if-kept.branch [
      | then-kept w ↦ rw (w.out-is, w.next-is, w.rules-is) (keeps c.loop-i.invariant c.loop-i-test.true c.kept.ensures w.if-kept.true w.emit_rule-next.ensures)
      | else-kept w ↦ rw (w.out-is, w.next-is, w.rules-is) (skips c.loop-i.invariant c.loop-i-test.true c.kept.ensures w.if-kept.false)
    ]

pub shape_of-out : goal.shape_of-out
shape_of-out c = length_kept c.loop-i.invariant.so

pub returns : goal.returns
returns c = ended c.loop-i.invariant c.loop-i-test.false
