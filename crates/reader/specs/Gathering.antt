-- What the lines of a text leave in the scratch stores.
use Rattle.std.specs.Prelude.{ℕ, ◌≡◌, cond, List, Result, Ok, Err}
use Rattle.kinds.specs.Limits.{empty_counts}
use Rattle.kinds.specs.declared.limits.Kind.{Kind}
use Rattle.kinds.specs.declared.refusals.Refusal.{Refusal}
use Rattle.kinds.specs.declared.refusals.Refusal.TheVariants.{BrokenForm}
use Rattle.lines.specs.declared.stage.Stage.TheVariants.{Declaring}
use Rattle.gathering.specs.declared.gathered.Gathered.{Gathered}
use Rattle.answers.specs.declared.ReadRefusal.{ReadRefusal}
use Rattle.answers.specs.Reading.{read_refusal}
use Rattle.lines.specs.Faults.{is_ruling}
use Rattle.lines.specs.Said.{Said, accepted, refused, program_of, placed}
use Rattle.gathering.specs.Gathered.{state_of, Held}
use Rattle.reader.specs.FormedState.{Formed}

-- before the first line; four words are kept for the header
abbrev pub start_counts : Gathered
start_counts = record { stage = Declaring; classes = 0; counts = empty_counts; made = 0; words = 4; bytes = 0 }

abbrev pub passed_on : Result Gathered Refusal → ℕ → Result Gathered ReadRefusal
passed_on (Ok g) k = Ok g
passed_on (Err r) k = Err (read_refusal r k)

-- behind the last line the rules have begun, or the next line is missing
abbrev pub at_end : Gathered → ℕ → Result Gathered ReadRefusal
at_end g k = cond (is_ruling g.stage) (Ok g) (Err (read_refusal BrokenForm k))

-- what the answer says of what the text says
abbrev pub GatherSays : Kind → Said → List ℕ → List ℕ → Result Gathered ReadRefusal → Type 0
GatherSays kind s words bytes (Ok g) =
    (s ≡ accepted (program_of (placed (state_of kind g words bytes))) (placed (state_of kind g words bytes)).names) × Held kind (state_of kind g words bytes) g words bytes × Formed (state_of kind g words bytes)
GatherSays kind s words bytes (Err e) = s ≡ refused e.refusal e.line

pub record GatherIs (kind : Kind) (s : Said) (words bytes : List ℕ) (r : Result Gathered ReadRefusal) : Type 0 where
  pub says : GatherSays kind s words bytes r
