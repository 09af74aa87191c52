-- Small clause files and what they say, from their bytes, for each sentence of document 02, W-202.
use Prim.Native.Nat.{ℕ, ◌<◌}
use Prim.Native.String.{String}
use mathlib.Core.Path.{◌≡◌, refl, ap}
use mathlib.Core.List.{List, [], ◌∷◌, map}
use mathlib.Core.Bool.{Bool, cond}
use lib.ListN.{length, replicate}
use borrow.Author.Tests.{lt-leb}
use Rattle.kinds.specs.Limits.{text_limit}
use Rattle.kinds.specs.Words.{bytes, digits}
use Rattle.kinds.specs.declared.limits.Kind.TheVariants.{Preference}
use Rattle.kinds.specs.declared.refusals.Refusal.TheVariants.{TextTooLong, Limit, BrokenClauses, LiteralBeyond}
use Rattle.rules.specs.Rules.{Rule, rule}
use Rattle.name_store.specs.NameStore.{same_bytes}
use Rattle.restriction.specs.Atoms.{used}
use Rattle.restriction.specs.Remaining.{restrict, remaining, remaining_names}
use Rattle.lines.specs.Lines.{lines, lines_from, line_length}
use Rattle.lines.specs.Said.{Said, accepted, refused, what_remains}
use Rattle.names.specs.Numerals.{value}
use Rattle.clauses.specs.Items.{run, items_from, items}
use Rattle.clauses.specs.Literals.{positive, negative}
use Rattle.clauses.specs.Tokens.{token_of, clauses_from}
use Rattle.clauses.specs.Gathered.{Gathered}
use Rattle.clauses.specs.Faults.{unheaded, Step, next, fault, headed, header_line, clause_line, step_line}
use Rattle.clauses.specs.Written.{clause_names}
use Rattle.clauses.specs.ClausesSaid.{read_lines, clauses_typed, clauses_said, clauses_of}

-- what a text says
pub says : String → Said
unfolding clauses_said clauses_typed remaining remaining_names restrict used read_lines lines lines_from line_length step_line clause_line header_line items items_from run token_of value same_bytes clause_names digits
says s = clauses_said (bytes s)

-- a program of n atoms in one class, and its names
abbrev pub gives : ℕ → List (Rule ℕ) → List (List ℕ) → Said
gives n rs names = accepted (record { kind = Preference; atoms = n; classes = 1; words = replicate n 1; rules = rs }) names

pub too_long : (text : List ℕ) → text_limit < length text → clauses_said text ≡ refused TextTooLong 0
unfolding clauses_said clauses_typed
too_long text l = ap (λ (b : Bool). what_remains (cond b (read_lines 1 unheaded (lines text)) (refused TextTooLong 0))) (lt-leb (length text) text_limit l)

-- comments: a line that starts with `c`, wherever it stands, whatever follows

pub comments : says "cnf 3\nc\np cnf 1 1\nc1 0\n1\nc p cnf 1 1\n0\ncc\n" ≡ gives 1 (rule (0 ∷ []) [] [] ∷ []) (bytes "v1" ∷ [])
unfolding says
comments = refl

pub comment_after_space : says " c\np cnf 0 0\n" ≡ refused BrokenClauses 1
unfolding says
comment_after_space = refl

pub comment_after_items : says "p cnf 1 1\n1 0 c\n" ≡ refused BrokenClauses 2
unfolding says
comment_after_items = refl

-- items stand between runs of spaces, and no other byte; no item is a blank line

pub spaces : says "\n  \n  p  cnf 1   1 \n\n 1  0  \n \n" ≡ gives 1 (rule (0 ∷ []) [] [] ∷ []) (bytes "v1" ∷ [])
unfolding says
spaces = refl

pub tab : says "p cnf 1 1\n1\t0\n" ≡ refused BrokenClauses 2
unfolding says
tab = refl

pub return : says "p cnf 1 1\r\n1 0\r\n" ≡ refused BrokenClauses 1
unfolding says
return = refl

-- the last line needs its byte 10 too

pub no_end : says "p cnf 1 1\n1 0" ≡ refused BrokenClauses 2
unfolding says
no_end = refl

pub no_end_comment : says "p cnf 0 0\nc" ≡ refused BrokenClauses 2
unfolding says
no_end_comment = refl

pub no_end_blank : says "p cnf 0 0\n " ≡ refused BrokenClauses 2
unfolding says
no_end_blank = refl

-- what is written

pub lines_of_clauses : says "p cnf 3 3\n1 -2 0 -3\n-1 2\n0 3 0\n" ≡ gives 3 (rule (0 ∷ []) (1 ∷ []) [] ∷ rule (1 ∷ []) (2 ∷ 0 ∷ []) [] ∷ rule (2 ∷ []) [] [] ∷ []) (bytes "v1" ∷ bytes "v2" ∷ bytes "v3" ∷ [])
unfolding says
lines_of_clauses = refl

pub file_order : says "p cnf 4 1\n3 -4 1 -2 0\n" ≡ gives 4 (rule (2 ∷ 0 ∷ []) (3 ∷ 1 ∷ []) [] ∷ []) (bytes "v1" ∷ bytes "v2" ∷ bytes "v3" ∷ bytes "v4" ∷ [])
unfolding says
file_order = refl

pub repeated : says "p cnf 2 1\n2 -1 2 -1 -1 0\n" ≡ gives 2 (rule (1 ∷ []) (0 ∷ []) [] ∷ []) (bytes "v1" ∷ bytes "v2" ∷ [])
unfolding says
repeated = refl

pub both_signs : says "p cnf 2 2\n1 -1 0\n-2 2 1 0\n" ≡ gives 2 (rule (0 ∷ []) (0 ∷ []) [] ∷ rule (1 ∷ 0 ∷ []) (1 ∷ []) [] ∷ []) (bytes "v1" ∷ bytes "v2" ∷ [])
unfolding says
both_signs = refl

pub equal_clauses : says "p cnf 1 2\n1 0 1 0\n" ≡ gives 1 (rule (0 ∷ []) [] [] ∷ rule (0 ∷ []) [] [] ∷ []) (bytes "v1" ∷ [])
unfolding says
equal_clauses = refl

pub empty_clause : says "p cnf 1 2\n0\n1 0\n" ≡ gives 1 (rule [] [] [] ∷ rule (0 ∷ []) [] [] ∷ []) (bytes "v1" ∷ [])
unfolding says
empty_clause = refl

pub unused : says "p cnf 12 2\n3 -10 0\n-3 12 0\n" ≡ gives 3 (rule (0 ∷ []) (1 ∷ []) [] ∷ rule (2 ∷ []) (0 ∷ []) [] ∷ []) (bytes "v3" ∷ bytes "v10" ∷ bytes "v12" ∷ [])
unfolding says
unused = refl

pub none_used : says "p cnf 3 0\n" ≡ gives 0 [] []
unfolding says
none_used = refl

pub no_atoms : says "p cnf 0 0\n" ≡ gives 0 [] []
unfolding says
no_atoms = refl

pub no_atoms_empty_clause : says "p cnf 0 1\n0\n" ≡ gives 0 (rule [] [] [] ∷ []) []
unfolding says
no_atoms_empty_clause = refl

-- the number of clauses

pub surplus : says "p cnf 1 1\n1 0\n\n-1\n0\n" ≡ refused BrokenClauses 4
unfolding says
surplus = refl

pub surplus_on_the_line : says "p cnf 1 1\n1 0 -1\n0\n" ≡ refused BrokenClauses 2
unfolding says
surplus_on_the_line = refl

pub surplus_zero : says "p cnf 1 1\n1 0\n0\n" ≡ refused BrokenClauses 3
unfolding says
surplus_zero = refl

pub surplus_of_none : says "p cnf 1 0\n1\n0\n" ≡ refused BrokenClauses 2
unfolding says
surplus_of_none = refl

pub missing : says "p cnf 1 2\n1 0\n" ≡ refused BrokenClauses 3
unfolding says
missing = refl

pub missing_before_comment : says "p cnf 1 2\n1 0\nc\n" ≡ refused BrokenClauses 4
unfolding says
missing_before_comment = refl

pub unfinished : says "p cnf 1 1\n1\n" ≡ refused BrokenClauses 3
unfolding says
unfinished = refl

pub unfinished_negative : says "p cnf 1 1\n-1\n" ≡ refused BrokenClauses 3
unfolding says
unfinished_negative = refl

-- the header

pub header_short : says "c\np cnf 1\n" ≡ refused BrokenClauses 2
unfolding says
header_short = refl

pub header_long : says "p cnf 1 1 1\n1 0\n" ≡ refused BrokenClauses 1
unfolding says
header_long = refl

pub header_word : says "p dnf 1 1\n1 0\n" ≡ refused BrokenClauses 1
unfolding says
header_word = refl

pub header_letter : says "P cnf 1 1\n1 0\n" ≡ refused BrokenClauses 1
unfolding says
header_letter = refl

pub header_signed : says "p cnf -1 1\n1 0\n" ≡ refused BrokenClauses 1
unfolding says
header_signed = refl

pub header_plus : says "p cnf 1 +1\n1 0\n" ≡ refused BrokenClauses 1
unfolding says
header_plus = refl

pub header_zero : says "p cnf 01 1\n1 0\n" ≡ refused BrokenClauses 1
unfolding says
header_zero = refl

pub clauses_first : says "c\n1 0\np cnf 1 1\n" ≡ refused BrokenClauses 2
unfolding says
clauses_first = refl

pub no_header : says "c\n\n" ≡ refused BrokenClauses 3
unfolding says
no_header = refl

pub no_line : says "" ≡ refused BrokenClauses 1
unfolding says
no_line = refl

pub second_header : says "p cnf 1 1\np cnf 1 1\n1 0\n" ≡ refused BrokenClauses 2
unfolding says
second_header = refl

-- numbers

pub minus_zero : says "p cnf 1 1\n1 -0\n" ≡ refused BrokenClauses 2
unfolding says
minus_zero = refl

pub plus : says "p cnf 1 1\n+1 0\n" ≡ refused BrokenClauses 2
unfolding says
plus = refl

pub leading_zero : says "p cnf 1 1\n01 0\n" ≡ refused BrokenClauses 2
unfolding says
leading_zero = refl

pub leading_zero_after_minus : says "p cnf 1 1\n-01 0\n" ≡ refused BrokenClauses 2
unfolding says
leading_zero_after_minus = refl

pub two_zeros : says "p cnf 1 1\n1 00\n" ≡ refused BrokenClauses 2
unfolding says
two_zeros = refl

pub minus_alone : says "p cnf 1 1\n1 - 0\n" ≡ refused BrokenClauses 2
unfolding says
minus_alone = refl

pub two_minuses : says "p cnf 1 1\n--1 0\n" ≡ refused BrokenClauses 2
unfolding says
two_minuses = refl

pub no_digit : says "p cnf 1 1\n1: 0\n" ≡ refused BrokenClauses 2
unfolding says
no_digit = refl

-- 2^64 + 1
pub long_literal : says "p cnf 1 1\n18446744073709551617 0\n" ≡ refused LiteralBeyond 2
unfolding says
long_literal = refl

pub long_atoms : says "p cnf 18446744073709551617 0\n" ≡ refused Limit 1
unfolding says
long_atoms = refl

pub long_clauses : says "p cnf 0 18446744073709551616\n" ≡ refused Limit 1
unfolding says
long_clauses = refl

-- limits of the header, after 15

pub atoms_256 : says "p cnf 256 1\n256 0\n" ≡ gives 1 (rule (0 ∷ []) [] [] ∷ []) (bytes "v256" ∷ [])
unfolding says
atoms_256 = refl

pub atoms_257 : says "p cnf 257 1\n256 0\n" ≡ refused Limit 1
unfolding says
atoms_257 = refl

pub clauses_1024 : says "p cnf 0 1024\n" ≡ refused BrokenClauses 2
unfolding says
clauses_1024 = refl

pub clauses_1025 : says "p cnf 0 1025\n" ≡ refused Limit 1
unfolding says
clauses_1025 = refl

pub header_15_before_7 : says "p cnf 257 -1\n" ≡ refused BrokenClauses 1
unfolding says
header_15_before_7 = refl

-- a literal beyond the header

pub beyond : says "p cnf 2 1\n1\n-3 2\n0\n" ≡ refused LiteralBeyond 3
unfolding says
beyond = refl

pub beyond_none : says "p cnf 0 1\n1 0\n" ≡ refused LiteralBeyond 2
unfolding says
beyond_none = refl

pub rank_15_before_16 : says "p cnf 1 1\n2 0 x\n" ≡ refused BrokenClauses 2
unfolding says
rank_15_before_16 = refl

pub surplus_before_16 : says "p cnf 1 1\n2 0 1\n0\n" ≡ refused BrokenClauses 2
unfolding says
surplus_before_16 = refl

-- the earliest faulty line, though a lower fault stands on a later one
pub earliest_line : says "p cnf 1 1\n2\nx 0\n" ≡ refused LiteralBeyond 2
unfolding says
earliest_line = refl

-- the clauses as they stand in the text
pub as_they_stand : clauses_of (bytes "c\np cnf 2 2\n1 -2\nc 0\n1 0 0\n") ≡ (positive 0 ∷ negative 1 ∷ positive 0 ∷ []) ∷ [] ∷ []
unfolding clauses_of clauses_from lines lines_from line_length items items_from run token_of value
as_they_stand = refl

-- occurrences: a line after so many, with atom 0 in the head of an open clause

after : ℕ → Gathered
after c = record { rules = rule (replicate c 0) [] [] ∷ []; heads = 0 ∷ []; bodies = [] }

pub takes : ℕ → String → Step
unfolding clause_line after items items_from run token_of value
takes c s = clause_line 2 9 (after c) (map token_of (items (bytes s)))

pub occurrences_8192 : takes 8190 "1 2" ≡ next (headed 2 9 (record { rules = rule (replicate 8190 0) [] [] ∷ []; heads = 0 ∷ 1 ∷ []; bodies = [] }))
unfolding takes
occurrences_8192 = refl

pub occurrences_8193 : takes 8191 "1 2" ≡ fault Limit
unfolding takes
occurrences_8193 = refl

pub repeated_is_none : takes 8191 "1 0 0" ≡ next (headed 2 9 (record { rules = rule (replicate 8191 0) [] [] ∷ rule (0 ∷ []) [] [] ∷ rule [] [] [] ∷ []; heads = []; bodies = [] }))
unfolding takes
repeated_is_none = refl

pub rank_16_before_7 : takes 8191 "-1 3" ≡ fault LiteralBeyond
unfolding takes
rank_16_before_7 = refl

pub rank_15_before_7 : takes 8191 "-1 01" ≡ fault BrokenClauses
unfolding takes
rank_15_before_7 = refl
