-- What a clause file says: a preference program with its names, or the earliest faulty line with its lowest fault (document 02, W-202). Atoms that no clause has are left out (W-203).
use Rattle.std.specs.Prelude.{ℕ, suc, Bool, cond, not, ◌&&◌, List, [], ◌∷◌, eqb, leb, length, drop}
use Rattle.kinds.specs.Limits.{text_limit}
use Rattle.kinds.specs.declared.refusals.Refusal.TheVariants.{TextTooLong, BrokenClauses}
use Rattle.rules.specs.Lists.{filter, flat, is_empty}
use Rattle.lines.specs.Lines.{lines}
use Rattle.lines.specs.Said.{Said, accepted, refused, what_remains}
use Rattle.clauses.specs.Items.{items, is_comment}
use Rattle.clauses.specs.Literals.{Literal}
use Rattle.clauses.specs.Tokens.{line_tokens, clauses_from}
use Rattle.clauses.specs.Gathered.{is_closed}
use Rattle.clauses.specs.Faults.{State, unheaded, headed, Step, next, fault, step_line}
use Rattle.clauses.specs.Written.{clause_names, clause_program}

-- past the last line, with number k: every clause of the header has come and none is unfinished
abbrev pub at_end : ℕ → State → Said
at_end k unheaded = refused BrokenClauses k
at_end k (headed n m g) = cond (is_closed g && eqb (length g.rules) m) (accepted (clause_program n g.rules) (clause_names n)) (refused BrokenClauses k)

abbrev pub on_step : Step → ℕ → (State → Said) → Said
on_step (next st) k f = f st
on_step (fault r) k f = refused r k

-- the lines from number k on
unfoldable pub read_lines : ℕ → State → List (List ℕ) → Said
read_lines k st [] = at_end k st
read_lines k st (l ∷ ls) = on_step (step_line st l) k (λ after. read_lines (suc k) after ls)

-- with all atoms of the header
unfoldable pub clauses_typed : List ℕ → Said
clauses_typed text = let whole = read_lines 1 unheaded (lines text) in cond (leb (length text) text_limit) whole (refused TextTooLong 0)

unfoldable pub clauses_said : List ℕ → Said
clauses_said text = what_remains (clauses_typed text)

-- the clauses of a text as they stand there: those of the lines after the header
abbrev pub is_filled : List ℕ → Bool
is_filled l = not (is_comment l) && not (is_empty (items l))

unfoldable pub clauses_of : List ℕ → List (List Literal)
clauses_of text = clauses_from [] (flat line_tokens (drop 1 (filter is_filled (lines text))))
