-- "The earliest faulty line counts; on it, the lowest number. A missing line stands one past the last." (document 01, "Who can be turned back")
use Rattle.std.specs.Prelude.{ℕ, suc, ◌≤◌, ◌<◌, ◌≡◌, ◌⊎◌, ◌≢◌, List, [], ◌∷◌, ◌++◌, length}
use Rattle.kinds.specs.Limits.{text_limit}
use Rattle.kinds.specs.declared.refusals.Refusal.{Refusal}
use Rattle.kinds.specs.declared.refusals.Refusal.TheVariants.{TextTooLong, BrokenForm}
use Rattle.stores.specs.Program.{Program}
use Rattle.restriction.specs.Remaining.{remaining, remaining_names}
use Rattle.lines.specs.declared.stage.Stage.TheVariants.{Ruling}
use Rattle.lines.specs.Lines.{lines}
use Rattle.lines.specs.Forms.{form_of}
use Rattle.lines.specs.Faults.{SoFar}
use Rattle.lines.specs.Said.{start, placed, program_of}
use Rattle.faults.specs.Sentences.{Lowest, Faultless, added}

-- none of the lines has a fault, and they lead from one state to the other
abbrev pub Passed : SoFar → List (List ℕ) → SoFar → Type 0
Passed st [] after = st ≡ after
Passed st (l ∷ ls) after = Faultless st (form_of l) × Passed (added st (form_of l)) ls after

-- a line has the fault, and no line before it has any
pub record FaultyLine (text : List ℕ) (r : Refusal) (k : ℕ) : Type 0 where
  pub before : List (List ℕ)
  pub line : List ℕ
  pub rest : List (List ℕ)
  pub state : SoFar
  pub are_lines : lines text ≡ before ++ (line ∷ rest)
  pub passed : Passed (start text) before state
  pub lowest : Lowest state (form_of line) r
  pub number : k ≡ suc (length before)

-- no line has a fault, and a needed line is absent
pub record MissingLine (text : List ℕ) (r : Refusal) (k : ℕ) : Type 0 where
  pub state : SoFar
  pub passed : Passed (start text) (lines text) state
  pub incomplete : state.stage ≢ Ruling
  pub refusal : r ≡ BrokenForm
  pub number : k ≡ suc (length (lines text))

abbrev pub RefusedAt : List ℕ → Refusal → ℕ → Type 0
RefusedAt text r k = FaultyLine text r k ⊎ MissingLine text r k

-- no line has a fault, none is missing, and they declare this program with these names; the atoms that conditions made stand in their place (document 02, W-208)
pub record DeclaredAs (text : List ℕ) (p : Program) (names : List (List ℕ)) : Type 0 where
  pub state : SoFar
  pub passed : Passed (start text) (lines text) state
  pub complete : state.stage ≡ Ruling
  pub program : p ≡ program_of (placed state)
  pub are_names_lem : names ≡ (placed state).names

-- and this is what remains of it: a preference program without the atoms that stand in no rule (document 02, W-203)
pub record AcceptedAs (text : List ℕ) (p : Program) (names : List (List ℕ)) : Type 0 where
  pub whole : Program
  pub whole_names : List (List ℕ)
  pub declared : DeclaredAs text whole whole_names
  pub program : p ≡ remaining whole
  pub are_names_lem : names ≡ remaining_names whole whole_names

-- 1 "text too long (line 0, tested first)", then the lines
abbrev pub Refuses : List ℕ → Refusal → ℕ → Type 0
Refuses text r k = ((text_limit < length text) × (r ≡ TextTooLong) × (k ≡ 0)) ⊎ ((length text ≤ text_limit) × RefusedAt text r k)

abbrev pub Accepts : List ℕ → Program → List (List ℕ) → Type 0
Accepts text p names = (length text ≤ text_limit) × AcceptedAs text p names
