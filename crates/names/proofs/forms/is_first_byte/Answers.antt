use Rattle.names.proofs.NameForms.{first_letter, first_digit}
use Rattle.names.proofs.forms.is_first_byte.Goals as goal

pub returns-then-is_letter : goal.returns-then-is_letter
returns-then-is_letter c = first_letter c.args.b c.is_letter.ensures c.if-is_letter.true

pub returns-else-is_letter : goal.returns-else-is_letter
returns-else-is_letter c = first_digit c.args.b c.is_letter.ensures c.if-is_letter.false c.is_digit.ensures
