use native.Mathlib.Omega.{arith}
use mathlib.Core.Path.{sym, ◌∙◌}
use lib.ListN.{length}
use Rattle.made_names.proofs.NextNames.{look_first, look_again, one_found, none_found, past_limit}
use Rattle.name_store.specs.IndexedNames.{names_of}
use Rattle.made_names.proofs.declared.any_declared.Goals as goal

pub loop-number-init : goal.loop-number-init
loop-number-init c = (omega (arith, c.last_named-last.ensures), look_first c.last_named-last.ensures c.requires.made_bound.0 (past_limit (names_of c.args.names.now) c.requires.all c.requires.made_bound.0 c.requires.made_bound.1))

pub returns-then-is_declared : goal.returns-then-is_declared
returns-then-is_declared c = one_found c.loop-number.invariant.1 (omega arith) (sym c.is_declared.ensures ∙ c.if-is_declared.true)

pub loop-number-preserved : goal.loop-number-preserved
loop-number-preserved c = (c.loop-number.invariant.0, look_again c.loop-number.invariant.1 (omega arith) (sym c.is_declared.ensures ∙ c.if-is_declared.false))

pub returns : goal.returns
returns c = none_found c.loop-number.invariant.1 (omega arith)
