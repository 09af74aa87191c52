use mathlib.Core.Path.{sym, ap, ◌∙◌}
use mathlib.Core.Bool.{not}
use borrow.Author.Tests.{ne_eqb}
use Rattle.canonical_store.proofs.KeptLoop.{last_kept, keys_differ, told}
use Rattle.canonical_store.proofs.written_rules.kept.Goals as goal

pub returns-then-order-next : goal.returns-then-order-next
returns-then-order-next c = last_kept _ c.args.order.now c.args.i c.requires.1 c.if-order-next.true

pub returns-then-key_of : goal.returns-then-key_of
returns-then-key_of c = ap not (ne_eqb _ _ c.if-key_of.true) ∙ keys_differ _ c.args.order.now c.args.i c.if-order-next.false c.requires.0 (λ e. c.if-key_of.true (c.key_of.ensures ∙ e ∙ sym c.key_of-2.ensures))

pub returns-else-key_of : goal.returns-else-key_of
returns-else-key_of c = c.ne.ensures ∙ told c.args.words.now c.args.order.now c.args.i c.if-order-next.false c.compare_entries.ensures
