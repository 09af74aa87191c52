use mathlib.Core.Path.{◌∙◌}
use Rattle.stores.proofs.StoreHeader.{no_header, no_kind, answers}
use Rattle.store_check.proofs.store_forms.check_rules.Goals as goal

pub returns-then-words-lt4 : goal.returns-then-words-lt4
returns-then-words-lt4 c = no_header _ c.if-words-lt4.true

pub returns-in_err-kind : goal.returns-in_err-kind
returns-in_err-kind c = rw c.from_residual.ensures (no_kind _ c.if-words-lt4.false c.in_err-kind.ensures)

pub returns : goal.returns
returns c = c.then_some.ensures ∙ answers _ c.if-words-lt4.false c.in_ok-kind.ensures c.program_form.ensures
