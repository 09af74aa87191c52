use native.Mathlib.Omega.{arith}
use mathlib.Core.Path.{sym, ◌∙◌}
use Rattle.names.proofs.Numerals.{digit_range}
use Rattle.names.proofs.MadeNumbers.{digits_begin, digits_small, digits_fail, digits_again, number_empty, number_long, number_led, number_past, number_said}
use Rattle.names.proofs.forms.atom_number.Goals as goal

pub returns-then-bytes-eq0 : goal.returns-then-bytes-eq0
returns-then-bytes-eq0 c = number_empty c.args.bytes.now c.if-bytes-eq0.true

pub returns-then-bytes-gt3 : goal.returns-then-bytes-gt3
returns-then-bytes-gt3 c = number_long c.args.bytes.now c.if-bytes-gt3.true

pub returns-then-bytes-eq48 : goal.returns-then-bytes-eq48
returns-then-bytes-eq48 c = number_led c.args.bytes.now c.if-bytes-eq48.true

pub loop-b-init : goal.loop-b-init
loop-b-init c = digits_begin _

pub returns-then-not-is_digit : goal.returns-then-not-is_digit
returns-then-not-is_digit c = digits_fail c.loop-b.invariant c.loop-b-test.true (sym c.is_digit.ensures ∙ c.if-not-is_digit.true)

pub overflow_mul-value : goal.overflow_mul-value
overflow_mul-value c = omega (arith, digits_small c.loop-b.invariant c.loop-b-test.true c.if-bytes-gt3.false)

pub overflow_sub-value : goal.overflow_sub-value
overflow_sub-value c = (digit_range _ (sym c.is_digit.ensures ∙ c.if-not-is_digit.false)).0

pub overflow_cast-value : goal.overflow_cast-value
overflow_cast-value c = omega (arith, c.type_inv.bytes c.loop-b.b-index)

pub overflow_add-value : goal.overflow_add-value
overflow_add-value c = omega (arith, digits_small c.loop-b.invariant c.loop-b-test.true c.if-bytes-gt3.false, c.type_inv.bytes c.loop-b.b-index)

pub loop-b-preserved : goal.loop-b-preserved
loop-b-preserved c = digits_again c.loop-b.invariant c.loop-b-test.true (sym c.is_digit.ensures ∙ c.if-not-is_digit.false)

pub returns-then-value-le-ATOMS : goal.returns-then-value-le-ATOMS
returns-then-value-le-ATOMS c = number_said c.loop-b.invariant c.loop-b-test.false c.if-bytes-eq0.false c.if-bytes-eq48.false c.if-value-le-ATOMS.true

pub returns-else-value-le-ATOMS : goal.returns-else-value-le-ATOMS
returns-else-value-le-ATOMS c = number_past c.loop-b.invariant c.loop-b-test.false c.if-value-le-ATOMS.false
