-- The number of each refusal (document 01, "Who can be turned back"; from 15 on document 02).
use Rattle.std.specs.Prelude.{ℕ}
use Rattle.kinds.specs.declared.refusals.Refusal.{Refusal}
use Rattle.kinds.specs.declared.refusals.Refusal.TheVariants.{TextTooLong, BrokenForm, Name, DeclaredTwice, Undeclared, TwiceInList, Limit, FilledNot, Output, RuleStore, TooManyAtoms, SetNumber, Budget, NameStore, BrokenClauses, LiteralBeyond, BrokenCondition, DeepBrackets, RuleIndex}

abbrev pub refusal_number : Refusal → ℕ
refusal_number TextTooLong = 1
refusal_number BrokenForm = 2
refusal_number Name = 3
refusal_number DeclaredTwice = 4
refusal_number Undeclared = 5
refusal_number TwiceInList = 6
refusal_number Limit = 7
refusal_number FilledNot = 8
refusal_number Output = 9
refusal_number RuleStore = 10
refusal_number TooManyAtoms = 11
refusal_number SetNumber = 12
refusal_number Budget = 13
refusal_number NameStore = 14
refusal_number BrokenClauses = 15
refusal_number LiteralBeyond = 16
refusal_number BrokenCondition = 17
refusal_number DeepBrackets = 18
refusal_number RuleIndex = 19
