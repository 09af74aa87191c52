-- What the lines of a clause file leave in the scratch.
use Rattle.std.specs.Prelude.{ℕ, suc, ◌≤◌, ◌<◌, ◌≡◌, Bool, true, cond, ◌&&◌, List, ◌∷◌, eqb, length, drop, Option, Some, None, Result, Ok, Err}
use Rattle.kinds.specs.Limits.{occurrence_limit}
use Rattle.kinds.specs.Sizes.{store_words}
use Rattle.kinds.specs.declared.limits.Kind.TheVariants.{Preference}
use Rattle.kinds.specs.declared.refusals.Refusal.{Refusal}
use Rattle.kinds.specs.declared.refusals.Refusal.TheVariants.{BrokenClauses}
use Rattle.lines.specs.Said.{Said, accepted, refused}
use Rattle.clauses.specs.Literals.{signed}
use Rattle.clauses.specs.Tokens.{literal, line_tokens}
use Rattle.clauses.specs.Gathered.{Gathered, nothing, is_closed, begun}
use Rattle.clauses.specs.Faults.{State, unheaded, headed, Step, next, fault, clause_line}
use Rattle.clauses.specs.Written.{clause_names, clause_program}
use Rattle.clause_items.specs.Found.{capped}
use Rattle.clause_rules.specs.declared.clause.ClauseCounts.{ClauseCounts}
use Rattle.clause_rules.specs.HeldClauses.{held, HeldClauses, Marked, SameHeader}
use Rattle.answers.specs.declared.ReadRefusal.{ReadRefusal}
use Rattle.answers.specs.Reading.{read_refusal}
use Rattle.clause_reader.specs.declared.clause_line.Progress.{Progress}

-- the state that the scratch decodes to: the counts are there once the header has come
abbrev pub state_of : Option ClauseCounts → List ℕ → List ℕ → State
state_of None words bodies = unheaded
state_of (Some c) words bodies = headed c.atoms c.clauses (held c words bodies)

-- among the clauses: g is gathered, and no more have begun than the header says
pub record Gathers (g : Gathered) (c : ClauseCounts) (words bodies marks : List ℕ) : Type 0 where
  pub holds : HeldClauses g c words bodies
  pub marked : Marked g marks
  pub few : begun g ≤ c.clauses

abbrev pub InClauses : ClauseCounts → List ℕ → List ℕ → List ℕ → Type 0
InClauses c words bodies marks = Gathers (held c words bodies) c words bodies marks

-- before the header the scratch is empty
pub record Empty (words bodies marks : List ℕ) : Type 0 where
  pub marked : Marked nothing marks
  pub words_room : length words ≡ store_words
  pub bodies_room : length bodies ≡ occurrence_limit Preference

abbrev pub HeldReading : Option ClauseCounts → List ℕ → List ℕ → List ℕ → Type 0
HeldReading None words bodies marks = Empty words bodies marks
HeldReading (Some c) words bodies marks = InClauses c words bodies marks

-- every clause of the header has come, and none is unended: an item would begin a surplus one
abbrev pub is_full : ClauseCounts → Bool
is_full c = eqb c.rules c.clauses && (eqb c.heads 0 && eqb c.bodies 0)

-- what an item's answer says of the line from there on
abbrev pub ProgressSays : List ℕ → ℕ → ClauseCounts → Gathered → List ℕ → List ℕ → List ℕ → Result Progress Refusal → Type 0
ProgressSays line at c g words bodies marks (Ok p) =
    SameHeader c p.counts × InClauses p.counts words bodies marks × (at < p.at) × (p.at ≤ length line)
    × (clause_line c.atoms c.clauses g (line_tokens (drop at line)) ≡ clause_line c.atoms c.clauses (held p.counts words bodies) (line_tokens (drop p.at line)))
ProgressSays line at c g words bodies marks (Err r) = clause_line c.atoms c.clauses g (line_tokens (drop at line)) ≡ fault r

pub record ProgressIs (line : List ℕ) (at : ℕ) (c : ClauseCounts) (g : Gathered) (words bodies marks : List ℕ) (r : Result Progress Refusal) : Type 0 where
  pub says : ProgressSays line at c g words bodies marks r

-- what the answer for a literal says, which ends at `to`; its number is that of an atom, as far as numbers go
abbrev pub LiteralSays : List ℕ → ℕ → ClauseCounts → Gathered → Bool → ℕ → List ℕ → List ℕ → List ℕ → Result ClauseCounts Refusal → Type 0
LiteralSays line to c g p number words bodies marks (Ok d) =
    SameHeader c d × InClauses d words bodies marks
    × ((a : ℕ) → number ≡ capped (suc a) → clause_line c.atoms c.clauses g (literal (signed p a) ∷ line_tokens (drop to line)) ≡ clause_line c.atoms c.clauses (held d words bodies) (line_tokens (drop to line)))
LiteralSays line to c g p number words bodies marks (Err r) =
    (a : ℕ) → number ≡ capped (suc a) → clause_line c.atoms c.clauses g (literal (signed p a) ∷ line_tokens (drop to line)) ≡ fault r

pub record LiteralIs (line : List ℕ) (to : ℕ) (c : ClauseCounts) (g : Gathered) (p : Bool) (number : ℕ) (words bodies marks : List ℕ) (r : Result ClauseCounts Refusal) : Type 0 where
  pub says : LiteralSays line to c g p number words bodies marks r

-- what a line's answer says of its step
abbrev pub LineSays : Step → List ℕ → List ℕ → List ℕ → Result (Option ClauseCounts) Refusal → Type 0
LineSays step words bodies marks (Ok r) = (step ≡ next (state_of r words bodies)) × HeldReading r words bodies marks
LineSays step words bodies marks (Err r) = step ≡ fault r

pub record LineIs (step : Step) (words bodies marks : List ℕ) (r : Result (Option ClauseCounts) Refusal) : Type 0 where
  pub says : LineSays step words bodies marks r

-- a line's refusal is passed on with the line
abbrev pub numbered : Result (Option ClauseCounts) Refusal → ℕ → Result (Option ClauseCounts) ReadRefusal
numbered (Ok r) k = Ok r
numbered (Err r) k = Err (read_refusal r k)

-- behind the last line: every clause of the header has come, and none is unfinished
abbrev pub at_end : Option ClauseCounts → ℕ → Result ClauseCounts ReadRefusal
at_end None k = Err (read_refusal BrokenClauses k)
at_end (Some c) k = cond (is_full c) (Ok c) (Err (read_refusal BrokenClauses k))

-- what the answer says of what the text says
abbrev pub GatherSays : Said → List ℕ → List ℕ → Result ClauseCounts ReadRefusal → Type 0
GatherSays s words bodies (Ok c) =
    (s ≡ accepted (clause_program c.atoms (held c words bodies).rules) (clause_names c.atoms)) × HeldClauses (held c words bodies) c words bodies × (is_closed (held c words bodies) ≡ true)
GatherSays s words bodies (Err e) = s ≡ refused e.refusal e.line

pub record GatherIs (s : Said) (words bodies : List ℕ) (r : Result ClauseCounts ReadRefusal) : Type 0 where
  pub says : GatherSays s words bodies r
