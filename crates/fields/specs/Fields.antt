-- The number and values that the documents give each case of an answer.
use Rattle.std.specs.Prelude.{ℕ, Result, Ok, Err}
use Rattle.kinds.specs.Refusals.{refusal_number}
use Rattle.kinds.specs.declared.refusals.Refusal.{Refusal}
use Rattle.answers.specs.declared.ReadSizes.{ReadSizes}
use Rattle.answers.specs.declared.ReadRefusal.{ReadRefusal}
use Rattle.walks.specs.declared.answers.Verdict.{Verdict}
use Rattle.walks.specs.declared.answers.Verdict.TheVariants.{Yes, Broken, Beaten, Spent, Refused as NotJudged}
use Rattle.walks.specs.declared.answers.NextState.{NextState}
use Rattle.walks.specs.declared.answers.NextState.TheVariants.{State, Nothing, Spent as NextSpent, Refused as NotSearched}
use Rattle.rule_index.specs.declared.GrownSizes.{GrownSizes}
use Rattle.fields.specs.declared.ReadFields.{ReadFields}
use Rattle.fields.specs.declared.WrittenFields.{WrittenFields}
use Rattle.fields.specs.declared.VerdictFields.{VerdictFields}
use Rattle.fields.specs.declared.ValueFields.{ValueFields}
use Rattle.fields.specs.declared.GrownFields.{GrownFields}

-- refusal 0: accepted
abbrev pub read_fields : Result ReadSizes ReadRefusal → ReadFields
read_fields (Ok sizes) = record { refusal = 0; line = 0; words = sizes.words; bytes = sizes.bytes }
read_fields (Err refused) = record { refusal = refusal_number refused.refusal; line = refused.line; words = 0; bytes = 0 }

-- refusal 0: written
abbrev pub written_fields : Result ℕ Refusal → WrittenFields
written_fields (Ok bytes) = record { refusal = 0; bytes = bytes }
written_fields (Err f) = record { refusal = refusal_number f; bytes = 0 }

-- 0 yes, 1 broken (the rule), 2 beaten (the set), 3 spent, 4 refused (the refusal's number)
abbrev pub verdict_fields : Verdict → VerdictFields
verdict_fields (Yes units) = record { kind = 0; value = 0; units = units }
verdict_fields (Broken rule) = record { kind = 1; value = rule; units = 0 }
verdict_fields (Beaten set units) = record { kind = 2; value = set; units = units }
verdict_fields (Spent units) = record { kind = 3; value = 0; units = units }
verdict_fields (NotJudged f) = record { kind = 4; value = refusal_number f; units = 0 }

-- 0 a state (the set), 1 none, 3 spent, 4 refused (the refusal's number)
abbrev pub next_fields : NextState → VerdictFields
next_fields (State set units) = record { kind = 0; value = set; units = units }
next_fields (Nothing units) = record { kind = 1; value = 0; units = units }
next_fields (NextSpent units) = record { kind = 3; value = 0; units = units }
next_fields (NotSearched f) = record { kind = 4; value = refusal_number f; units = 0 }

-- refusal 0: the place
abbrev pub place_fields : Result ℕ Refusal → ValueFields
place_fields (Ok place) = record { refusal = 0; value = place }
place_fields (Err f) = record { refusal = refusal_number f; value = 0 }

-- refusal 0: the words written
abbrev pub filled_fields : Result ℕ Refusal → ValueFields
filled_fields (Ok words) = record { refusal = 0; value = words }
filled_fields (Err f) = record { refusal = refusal_number f; value = 0 }

-- refusal 0: the words of the store and of its index
abbrev pub grown_fields : Result GrownSizes Refusal → GrownFields
grown_fields (Ok sizes) = record { refusal = 0; words = sizes.words; index_words = sizes.index_words }
grown_fields (Err f) = record { refusal = refusal_number f; words = 0; index_words = 0 }
