-- The texts that are written from two stores of the form (document 01, the rule store and the name store), and the texts without conditions that are accepted (document 02, W-205 and W-208).
use Rattle.std.specs.Prelude.{ℕ, ◌≤◌, ◌≡◌, List, length}
use Rattle.kinds.specs.Limits.{text_limit}
use Rattle.rules.specs.Lists.{All}
use Rattle.stores.specs.Program.{Program, ProgramForm}
use Rattle.name_store.specs.NameStore.{NamesForm}
use Rattle.text.specs.Text.{text_of}
use Rattle.lines.specs.Lines.{lines}
use Rattle.lines.specs.Forms.{LineForm, declares, rules, condition, blank, broken, form_of}
use Rattle.lines.specs.Strict.{strict_text}
use Rattle.faults.specs.LineForms.{Ended}

-- a line that is no condition (document 02, W-208)
abbrev pub Unconditional : LineForm → Type 0
Unconditional (declares w xs) = Unit {0}
Unconditional (rules hs bs ns) = Unit {0}
Unconditional (condition ts a) = ⊥
Unconditional blank = Unit {0}
Unconditional broken = Unit {0}

-- no line is one
abbrev pub NoConditions : List ℕ → Type 0
NoConditions text = All (λ l. Unconditional (form_of l)) (lines text)

pub record WrittenText (text : List ℕ) : Type 0 where
  pub program : Program
  pub names : List (List ℕ)
  pub form : ProgramForm program
  pub names_form : NamesForm program.kind program.atoms names
  pub is_text : text_of program names ≡ text

-- spacing, blank lines and comments apart, a text that is written
pub record TypedText (text : List ℕ) : Type 0 where
  pub short : length text ≤ text_limit
  pub ended : All Ended (lines text)
  pub written : WrittenText (strict_text text)
