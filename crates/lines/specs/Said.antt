-- What a text says: a program with its names, or the earliest faulty line with its lowest fault. All lines are checked as they are typed; then what does not belong to the program is left out (document 02, W-203).
use Rattle.std.specs.Prelude.{ℕ, zero, suc, cond, List, [], ◌∷◌, map, leb, length}
use Rattle.kinds.specs.Limits.{text_limit}
use Rattle.kinds.specs.declared.limits.Kind.{Kind}
use Rattle.kinds.specs.declared.limits.Kind.TheVariants.{Plain, Preference}
use Rattle.kinds.specs.declared.refusals.Refusal.{Refusal}
use Rattle.kinds.specs.declared.refusals.Refusal.TheVariants.{TextTooLong, BrokenForm}
use Rattle.kinds.specs.Words.{atoms_word}
use Rattle.name_store.specs.NameStore.{same_bytes}
use Rattle.stores.specs.Program.{Program}
use Rattle.rules.specs.Rules.{rename}
use Rattle.restriction.specs.Remaining.{remaining, remaining_names}
use Rattle.conditions.specs.Numbers.{unfixed, placed_words, placing}
use Rattle.conditions.specs.Left.{written_names}
use Rattle.lines.specs.declared.stage.Stage.TheVariants.{Declaring}
use Rattle.lines.specs.Lines.{lines}
use Rattle.lines.specs.Tokens.{Token, tokens}
use Rattle.lines.specs.Forms.{Opened, opened, unopened, opened_of, form_of}
use Rattle.lines.specs.Faults.{SoFar, Step, next, fault, is_ruling, step_form}

pub data Said : Type 0 where
  accepted : Program → List (List ℕ) → Said
  refused : Refusal → ℕ → Said

-- "the first bracket form tells the kind": plain exactly when its first word is `atoms` (document 02, W-205)
abbrev pub kind_opened : Opened → Kind
kind_opened (opened x ts) = cond (same_bytes x atoms_word) Plain Preference
kind_opened unopened = Preference

-- of a line that is not blank, or else of those after it
abbrev pub kind_by : List Token → Kind → Kind
kind_by [] later = later
kind_by (t ∷ ts) later = kind_opened (opened_of (t ∷ ts))

unfoldable pub kind_of : List (List ℕ) → Kind
kind_of [] = Preference
kind_of (l ∷ ls) = kind_by (tokens l) (kind_of ls)

unfoldable pub start : List ℕ → SoFar
start text = record {
  kind = kind_of (lines text);
  stage = Declaring;
  classes = 0;
  words = [];
  names = [];
  program_rules = [];
  made = 0;
}

-- "Each connective .. gets a new varying atom .. after the file's varying atoms" (document 02, W-208), before the fixed ones
abbrev pub placed_by : ℕ → SoFar → SoFar
placed_by zero st = st
placed_by (suc k) st = record {
  kind = st.kind;
  stage = st.stage;
  classes = st.classes;
  words = placed_words (unfixed st.words) (suc k) st.words;
  names = written_names (unfixed st.words) (suc k) st.names;
  program_rules = map (rename (placing (unfixed st.words) (length st.names) (suc k))) st.program_rules;
  made = 0;
}

-- the atoms that conditions made stand in their place
unfoldable pub placed : SoFar → SoFar
placed st = placed_by st.made st

-- the program of the lines
abbrev pub program_of : SoFar → Program
program_of st = record {
  kind = st.kind;
  atoms = length st.names;
  classes = st.classes;
  words = st.words;
  rules = st.program_rules;
}

abbrev pub on_step : Step → ℕ → (SoFar → Said) → Said
on_step (next st) k f = f st
on_step (fault r) k f = refused r k

-- the lines from number k on; a missing line stands one past the last
unfoldable pub read_lines : ℕ → SoFar → List (List ℕ) → Said
read_lines k st [] = cond (is_ruling st.stage) (accepted (program_of (placed st)) (placed st).names) (refused BrokenForm k)
read_lines k st (l ∷ ls) = on_step (step_form st (form_of l)) k (λ after. read_lines (suc k) after ls)

-- what the lines of a text say, with all atoms that they declare
unfoldable pub typed : List ℕ → Said
typed text = let whole = read_lines 1 (start text) (lines text) in cond (leb (length text) text_limit) whole (refused TextTooLong 0)

abbrev pub what_remains : Said → Said
what_remains (accepted p names) = accepted (remaining p) (remaining_names p names)
what_remains (refused r k) = refused r k

unfoldable pub said : List ℕ → Said
said text = what_remains (typed text)
