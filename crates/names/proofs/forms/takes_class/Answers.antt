use mathlib.Core.Logic.{inl, inr}
use Rattle.names.proofs.NameForms.{takes_common, takes_long, takes_wrong}
use Rattle.names.proofs.forms.takes_class.Goals as goal

pub returns-in-Common : goal.returns-in-Common
returns-in-Common c = takes_common c.args.kind c.in-Common.is

pub returns-in-TooLong : goal.returns-in-TooLong
returns-in-TooLong c = elim c.in-TooLong.is [ inl e ↦ takes_long c.args.kind e | inr e ↦ takes_wrong c.args.kind e ]
