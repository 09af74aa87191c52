-- What document 02 (W-202) says of a line of a clause file and of each refusal, each sentence on its own.
use Rattle.std.specs.Prelude.{ℕ, suc, ◌≤◌, ◌<◌, ◌≡◌, ◌⊎◌, ◌≢◌, List, [], ◌∷◌, ◌++◌, length}
use Rattle.kinds.specs.Limits.{atom_limit, rule_limit, occurrence_limit, text_limit}
use Rattle.kinds.specs.Words.{bytes, byte, space, line_end_lem}
use Rattle.kinds.specs.declared.limits.Kind.TheVariants.{Preference}
use Rattle.kinds.specs.declared.refusals.Refusal.{Refusal}
use Rattle.kinds.specs.declared.refusals.Refusal.TheVariants.{TextTooLong, Limit, BrokenClauses, LiteralBeyond}
use Rattle.rules.specs.Lists.{All, Any}
use Rattle.stores.specs.Program.{Program}
use Rattle.restriction.specs.Remaining.{remaining, remaining_names}
use Rattle.lines.specs.Lines.{lines}
use Rattle.names.specs.Numerals.{DecimalWriting, value}
use Rattle.clauses.specs.Items.{items}
use Rattle.clauses.specs.Literals.{positive, negative, atom_of}
use Rattle.clauses.specs.Tokens.{Token, literal, ends, wrong, line_tokens}
use Rattle.clauses.specs.Gathered.{Gathered, nothing, with_tokens, begun, occurrences_in}
use Rattle.clauses.specs.Faults.{State, unheaded, headed}
use Rattle.clauses.specs.Written.{clause_names, clause_program}

-- spaces, and byte 10 at the line's end
abbrev pub Separator : ℕ → Type 0
Separator b = (b ≡ space) ⊎ (b ≡ line_end_lem)

-- an item ends before a separator or at the end
abbrev pub Parted : List ℕ → Type 0
Parted [] = Unit {0}
Parted (b ∷ s) = Separator b

-- "items between runs of spaces"
abbrev pub AreItems : List ℕ → List (List ℕ) → Type 0
AreItems l [] = All Separator l
AreItems l (x ∷ xs) = (s : List ℕ) × (rest : List ℕ) × All Separator s × (x ≢ []) × All (λ b. Separator b → ⊥) x × Parted rest × (l ≡ s ++ (x ++ rest)) × AreItems rest xs

-- "A literal is a number that is not 0, with or without `-`; 0 ends a clause."
abbrev pub RightItem : List ℕ → Token → Type 0
RightItem x (literal (positive a)) = DecimalWriting x × (value x ≡ suc a)
RightItem x (literal (negative a)) = (y : List ℕ) × (x ≡ byte "-" ∷ y) × DecimalWriting y × (value y ≡ suc a)
RightItem x ends = x ≡ bytes "0"
RightItem x wrong = ⊥

abbrev pub IsToken : List ℕ → Token → Type 0
IsToken x (literal l) = RightItem x (literal l)
IsToken x ends = RightItem x ends
IsToken x wrong = (t : Token) → RightItem x t → ⊥

abbrev pub Ended : List ℕ → Type 0
Ended l = (s : List ℕ) × (l ≡ s ++ (line_end_lem ∷ []))

-- "A line that starts with byte `c` is a comment"
abbrev pub Comment : List ℕ → Type 0
Comment l = (s : List ℕ) × (l ≡ byte "c" ∷ s)

-- neither a comment nor blank
abbrev pub Filled : List ℕ → Type 0
Filled l = (Comment l → ⊥) × (items l ≢ [])

-- `p cnf n m`
pub record Header (l : List ℕ) (n m : ℕ) : Type 0 where
  pub atoms : List ℕ
  pub clauses : List ℕ
  pub four : items l ≡ bytes "p" ∷ bytes "cnf" ∷ atoms ∷ clauses ∷ []
  pub are_numbers : DecimalWriting atoms × DecimalWriting clauses
  pub values : (value atoms ≡ n) × (value clauses ≡ m)

-- 15 "header, clause or a line's end broken, or clause count differs": here more clauses begin than the header says
abbrev pub Breaks : State → List ℕ → Type 0
Breaks unheaded l = (Ended l → ⊥) ⊎ (Filled l × ((n m : ℕ) → Header l n m → ⊥))
Breaks (headed n m g) l = (Ended l → ⊥) ⊎ (Filled l × (Any (λ t. t ≡ wrong) (line_tokens l) ⊎ (m < begun (with_tokens g (line_tokens l)))))

-- 16 "literal beyond the header's atoms"
abbrev pub BeyondAtoms : ℕ → Token → Type 0
BeyondAtoms n (literal l) = n ≤ atom_of l
BeyondAtoms n ends = ⊥
BeyondAtoms n wrong = ⊥

abbrev pub GoesBeyond : State → List ℕ → Type 0
GoesBeyond unheaded l = ⊥
GoesBeyond (headed n m g) l = Filled l × Any (BeyondAtoms n) (line_tokens l)

-- 7 "A header number past a limit .., an occurrence past it"
abbrev pub PassesLimit : State → List ℕ → Type 0
PassesLimit unheaded l = Filled l × ((n : ℕ) × (m : ℕ) × Header l n m × ((atom_limit Preference < n) ⊎ (rule_limit Preference < m)))
PassesLimit (headed n m g) l = Filled l × (occurrence_limit Preference < occurrences_in (with_tokens g (line_tokens l)))

-- "on it 15, then 16, then 7"
abbrev pub LineRefused : State → List ℕ → Refusal → Type 0
LineRefused st l r =
    ((r ≡ BrokenClauses) × Breaks st l)
    ⊎ ((Breaks st l → ⊥) × (((r ≡ LiteralBeyond) × GoesBeyond st l) ⊎ ((GoesBeyond st l → ⊥) × ((r ≡ Limit) × PassesLimit st l))))

-- what a faultless line leads to
abbrev pub Leads : State → List ℕ → State → Type 0
Leads unheaded l after = ((Filled l → ⊥) × (after ≡ unheaded)) ⊎ (Filled l × ((n : ℕ) × (m : ℕ) × Header l n m × (after ≡ headed n m nothing)))
Leads (headed n m g) l after = ((Filled l → ⊥) × (after ≡ headed n m g)) ⊎ (Filled l × (after ≡ headed n m (with_tokens g (line_tokens l))))

pub record LinePassed (st : State) (l : List ℕ) (after : State) : Type 0 where
  pub whole : Breaks st l → ⊥
  pub inside : GoesBeyond st l → ⊥
  pub within : PassesLimit st l → ⊥
  pub leads : Leads st l after

abbrev pub Passed : State → List (List ℕ) → State → Type 0
Passed st [] after = st ≡ after
Passed st (l ∷ ls) after = (s : State) × LinePassed st l s × Passed s ls after

-- all clauses of the header have come, each with its 0
abbrev pub Complete : State → Type 0
Complete unheaded = ⊥
Complete (headed n m g) = (g.heads ≡ []) × (g.bodies ≡ []) × (length g.rules ≡ m)

-- "the earliest faulty line counts"
pub record FaultyLine (text : List ℕ) (r : Refusal) (k : ℕ) : Type 0 where
  pub before : List (List ℕ)
  pub line : List ℕ
  pub rest : List (List ℕ)
  pub state : State
  pub are_lines : lines text ≡ before ++ (line ∷ rest)
  pub passed : Passed unheaded before state
  pub refused : LineRefused state line r
  pub number : k ≡ suc (length before)

-- "A missing or unfinished clause stands one past the last line", and so does a missing header
pub record Missing (text : List ℕ) (r : Refusal) (k : ℕ) : Type 0 where
  pub state : State
  pub passed : Passed unheaded (lines text) state
  pub incomplete : Complete state → ⊥
  pub refusal : r ≡ BrokenClauses
  pub number : k ≡ suc (length (lines text))

-- 1 first, then the lines
abbrev pub RefusesClauses : List ℕ → Refusal → ℕ → Type 0
RefusesClauses text r k = ((text_limit < length text) × (r ≡ TextTooLong) × (k ≡ 0)) ⊎ ((length text ≤ text_limit) × (FaultyLine text r k ⊎ Missing text r k))

pub record AcceptsClauses (text : List ℕ) (p : Program) (names : List (List ℕ)) : Type 0 where
  pub short : length text ≤ text_limit
  pub atoms : ℕ
  pub clauses : ℕ
  pub gathered : Gathered
  pub passed : Passed unheaded (lines text) (headed atoms clauses gathered)
  pub complete : Complete (headed atoms clauses gathered)
  pub program : p ≡ remaining (clause_program atoms gathered.rules)
  pub are_names_lem : names ≡ remaining_names (clause_program atoms gathered.rules) (clause_names atoms)
