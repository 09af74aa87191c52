use Rattle.canonical_store.proofs.KeptLoop.{kept_fewer}
use Rattle.canonical_store.proofs.StoreParts.{rules_range, front_written}
use native.Mathlib.Omega.{arith}
use borrow.Author.Rules.{rules}
use Rattle.canonical_store.proofs.emit_store.Goals as goal

pub emit_rules-written-requires : goal.emit_rules-written-requires
emit_rules-written-requires c = (c.requires.1, search rules, rules_range _ _ c.requires.0 c.rules_start-start.ensures c.requires.3)

pub overflow_cast-header : goal.overflow_cast-header
overflow_cast-header c = omega (arith, c.emit_rules-written.ensures.count, kept_fewer c.args.words.now c.args.order.now)

pub returns : goal.returns
returns c = front_written _ _ c.requires.0 c.rules_start-start.ensures c.requires.3 c.emit_rules-written.ensures c.emit-headed.ensures c.emit.ensures
