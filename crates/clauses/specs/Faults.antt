-- The faults of a line of a clause file: "15, header, clause or a line's end broken, or clause count differs; 16, literal beyond the header's atoms; .. on it 15, then 16, then 7" (document 02, W-202).
use Rattle.std.specs.Prelude.{ℕ, Bool, true, false, cond, not, ◌&&◌, ◌||◌, List, [], ◌∷◌, map, ltb}
use Rattle.kinds.specs.Limits.{atom_limit, rule_limit, occurrence_limit}
use Rattle.kinds.specs.Words.{bytes}
use Rattle.kinds.specs.declared.limits.Kind.TheVariants.{Preference}
use Rattle.kinds.specs.declared.refusals.Refusal.{Refusal}
use Rattle.kinds.specs.declared.refusals.Refusal.TheVariants.{BrokenClauses, LiteralBeyond, Limit}
use Rattle.rules.specs.Lists.{some}
use Rattle.name_store.specs.NameStore.{same_bytes}
use Rattle.names.specs.Numerals.{is_numeral, value}
use Rattle.clauses.specs.Items.{items, is_comment}
use Rattle.lines.specs.Lines.{is_ended}
use Rattle.clauses.specs.Tokens.{Token, token_of, is_wrong, is_beyond}
use Rattle.clauses.specs.Gathered.{Gathered, nothing, with_tokens, begun, occurrences_in}

-- what the lines so far say: after the header, its atoms and clauses, and what is gathered
pub data State : Type 0 where
  unheaded : State
  headed : ℕ → ℕ → Gathered → State

-- what a line gives: the state after it, or its lowest fault
pub data Step : Type 0 where
  next : State → Step
  fault : Refusal → Step

abbrev pub first : Bool → Refusal → Step → Step
first true r s = fault r
first false r s = s

-- the header's numbers
abbrev pub header_with : ℕ → ℕ → Step
header_with n m = first (ltb (atom_limit Preference) n || ltb (rule_limit Preference) m) Limit (next (headed n m nothing))

-- "one `p cnf` line"
unfoldable pub header_line : List (List ℕ) → Step
header_line [] = fault BrokenClauses
header_line (p ∷ []) = fault BrokenClauses
header_line (p ∷ cnf ∷ []) = fault BrokenClauses
header_line (p ∷ cnf ∷ n ∷ []) = fault BrokenClauses
header_line (p ∷ cnf ∷ n ∷ m ∷ []) =
    first (not (same_bytes p (bytes "p") && (same_bytes cnf (bytes "cnf") && (is_numeral n && is_numeral m)))) BrokenClauses (header_with (value n) (value m))
header_line (p ∷ cnf ∷ n ∷ m ∷ x ∷ xs) = fault BrokenClauses

-- a line of clauses, wherever on it a fault stands
unfoldable pub clause_line : ℕ → ℕ → Gathered → List Token → Step
clause_line n m g ts =
    first (some is_wrong ts) BrokenClauses
    (first (ltb m (begun (with_tokens g ts))) BrokenClauses
    (first (some (is_beyond n) ts) LiteralBeyond
    (first (ltb (occurrence_limit Preference) (occurrences_in (with_tokens g ts))) Limit (next (headed n m (with_tokens g ts))))))

-- a line by its items; without any it is blank
abbrev pub step_items : State → List (List ℕ) → Step
step_items st [] = next st
step_items unheaded (x ∷ xs) = header_line (x ∷ xs)
step_items (headed n m g) (x ∷ xs) = clause_line n m g (map token_of (x ∷ xs))

unfoldable pub step_line : State → List ℕ → Step
step_line st l = let content = cond (is_comment l) (next st) (step_items st (items l)) in first (not (is_ended l)) BrokenClauses content
