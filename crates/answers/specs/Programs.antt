-- What the two programs print on a text (document 01, "Sheets of known states").
use Rattle.std.specs.Prelude.{ℕ, cond, List, leb, length}
use Rattle.kinds.specs.Limits.{stream_limit}
use Rattle.kinds.specs.declared.limits.Kind.{Kind}
use Rattle.kinds.specs.declared.limits.Kind.TheVariants.{Plain, Preference}
use Rattle.kinds.specs.declared.refusals.Refusal.TheVariants.{TextTooLong, RuleStore}
use Rattle.stores.specs.Program.{Program}
use Rattle.lines.specs.Said.{Said, accepted, refused, said}
use Rattle.answers.specs.Translating.{translation_text}
use Rattle.answers.specs.Printed.{refused_text}
use Rattle.answers.specs.Listed.{streamed, states_of}

abbrev pub of_kind : Kind → List ℕ → List ℕ
of_kind Plain text = refused_text RuleStore 0
of_kind Preference text = text

abbrev pub on_said : Said → (Program → List (List ℕ) → List ℕ) → List ℕ
on_said (accepted p names) f = of_kind p.kind (f p names)
on_said (refused r line) f = refused_text r line

-- standard input of at most 65,536 bytes; a longer one is refusal 1
unfoldable pub printed : (Program → List (List ℕ) → List ℕ) → List ℕ → List ℕ
printed f text = cond (leb (length text) stream_limit) (on_said (said text) f) (refused_text TextTooLong 0)

-- a translation past the size of an output is refused
abbrev pub translation_of : Program → List (List ℕ) → List ℕ
translation_of p names = streamed (translation_text p names)

unfoldable pub translate_printed : List ℕ → List ℕ
translate_printed text = printed translation_of text

unfoldable pub states_printed : List ℕ → List ℕ
states_printed text = printed states_of text
