use native.Mathlib.Omega.{arith}
use borrow.Author.Tests.{lt-leb}
use mathlib.Core.Path.{◌∙◌}
use Rattle.std.proofs.Common.{rules}
use Rattle.names.proofs.NameForms.{number_one, number_two, number_low, number_high, number_none}
use Rattle.names.proofs.forms.class_number.Goals as goal

pub returns-in-len1 : goal.returns-in-len1
returns-in-len1 c = number_one c.args.bytes.now (search rules) c.is_digit.ensures

pub returns-then-b-ge48 : goal.returns-then-b-ge48
returns-then-b-ge48 c = number_two c.args.bytes.now (search rules) (search rules) c.if-b-ge48.true

pub returns-else-b-ge48 : goal.returns-else-b-ge48
returns-else-b-ge48 c = lt-leb _ _ c.if-b-ge48.false ∙ number_low c.args.bytes.now (search rules) (search rules) c.if-b-ge48.false

pub returns-in_default : goal.returns-in_default
returns-in_default c = number_none c.args.bytes.now (λ e. omega arith) (λ e. omega arith)

pub returns-in_default-2 : goal.returns-in_default-2
returns-in_default-2 c = number_high c.args.bytes.now (omega arith) (search rules)

pub returns-in_default-3 : goal.returns-in_default-3
returns-in_default-3 c = number_none c.args.bytes.now (λ e. omega arith) (λ e. omega arith)
