-- The lines in the documents' words: "One bracket form a line, each line ended by byte 10" (document 01, "The two kinds of file"), with "runs of spaces (at line starts and ends and inside brackets too; none is needed beside a bracket), blank lines, and comments from `;` to the line's end" (document 02, W-205).
use Rattle.std.specs.Prelude.{ℕ, ◌≡◌, ◌⊎◌, ◌≢◌, List, [], ◌∷◌, ◌++◌, map, replicate}
use Rattle.kinds.specs.Words.{space, open_bracket, close_bracket, line_end_lem, comment_mark, rule_word, head_word, body_word, not_word, when_word, then_word}
use Rattle.rules.specs.Lists.{All}
use Rattle.lines.specs.Tokens.{Token, opening, closing, word}
use Rattle.lines.specs.Conditions.{words_in}
use Rattle.lines.specs.Forms.{Word, word_bytes, LineForm, declares, rules, condition, blank, broken}
use Rattle.faults.specs.NameForms.{CommonName, GeneratedName, TooLongName}

-- brackets and words

abbrev pub WordByte : ℕ → Type 0
WordByte b = (b ≢ space) × (b ≢ open_bracket) × (b ≢ close_bracket) × (b ≢ comment_mark) × (b ≢ line_end_lem)

abbrev pub IsWord : List ℕ → Type 0
IsWord x = (x ≢ []) × All WordByte x

-- no byte of a word comes next
abbrev pub WordEnds : List ℕ → Type 0
WordEnds [] = Unit {0}
WordEnds (b ∷ s) = (b ≡ space) ⊎ ((b ≡ open_bracket) ⊎ ((b ≡ close_bracket) ⊎ ((b ≡ comment_mark) ⊎ (b ≡ line_end_lem))))

-- nothing, or a comment, or the line's end
abbrev pub NothingLeft : List ℕ → Type 0
NothingLeft [] = Unit {0}
NothingLeft (b ∷ s) = (b ≡ comment_mark) ⊎ (b ≡ line_end_lem)

abbrev pub behind_spaces : ℕ → List ℕ → List ℕ
behind_spaces k s = replicate k space ++ s

-- the line's brackets and words, each behind a run of spaces
abbrev pub AreTokens : List ℕ → List Token → Type 0
AreTokens l [] = (k : ℕ) × (s : List ℕ) × (l ≡ behind_spaces k s) × NothingLeft s
AreTokens l (opening ∷ ts) = (k : ℕ) × (s : List ℕ) × (l ≡ behind_spaces k (open_bracket ∷ s)) × AreTokens s ts
AreTokens l (closing ∷ ts) = (k : ℕ) × (s : List ℕ) × (l ≡ behind_spaces k (close_bracket ∷ s)) × AreTokens s ts
AreTokens l (word x ∷ ts) = (k : ℕ) × (s : List ℕ) × (l ≡ behind_spaces k (x ++ s)) × IsWord x × WordEnds s × AreTokens s ts

-- the forms

-- a name, allowed in its file or not
abbrev pub IsName : List ℕ → Type 0
IsName x = CommonName x ⊎ (GeneratedName x ⊎ TooLongName x)

-- byte 10 is its last
abbrev pub Ended : List ℕ → Type 0
Ended l = (s : List ℕ) × (l ≡ s ++ (line_end_lem ∷ []))

-- `(w a b)`, and what follows
abbrev pub list_then : List ℕ → List (List ℕ) → List Token → List Token
list_then w xs rest = opening ∷ word w ∷ (map word xs ++ (closing ∷ rest))

-- `(min a b)`, and so for the other words
abbrev pub declaring_tokens : Word → List (List ℕ) → List Token
declaring_tokens w xs = list_then (word_bytes w) xs []

-- `(rule (head a) (body b) (not c))`
abbrev pub rule_tokens : List (List ℕ) → List (List ℕ) → List (List ℕ) → List Token
rule_tokens hs bs ns = opening ∷ word rule_word ∷ list_then head_word hs (list_then body_word bs (list_then not_word ns (closing ∷ [])))

-- `(when COND (then a))`, whatever stands for COND (document 02, W-208)
abbrev pub condition_tokens : List Token → List ℕ → List Token
condition_tokens ts a = opening ∷ word when_word ∷ (ts ++ (opening ∷ word then_word ∷ word a ∷ closing ∷ closing ∷ []))

-- the brackets pair
pub data Paired : List Token → Type 0 where
  nothing : Paired []
  a_word : {x : List ℕ} {ts : List Token} → Paired ts → Paired (word x ∷ ts)
  in_brackets : {us vs : List Token} → Paired us → Paired vs → Paired (opening ∷ (us ++ (closing ∷ vs)))

abbrev pub DeclaringLine : List ℕ → Word → List (List ℕ) → Type 0
DeclaringLine l w xs = Ended l × AreTokens l (declaring_tokens w xs) × All IsName xs

abbrev pub RuleLine : List ℕ → List (List ℕ) → List (List ℕ) → List (List ℕ) → Type 0
RuleLine l hs bs ns = Ended l × AreTokens l (rule_tokens hs bs ns) × All IsName hs × All IsName bs × All IsName ns

-- its lack of "a last `(then a))`" is 2, "as are brackets that don't pair as one form"
abbrev pub ConditionLine : List ℕ → List Token → List ℕ → Type 0
ConditionLine l ts a = Ended l × AreTokens l (condition_tokens ts a) × Paired ts × All IsName (words_in ts ++ (a ∷ []))

abbrev pub BlankLine : List ℕ → Type 0
BlankLine l = Ended l × AreTokens l []

-- a line's form; broken where it has none of the others
abbrev pub HasForm : List ℕ → LineForm → Type 0
HasForm l (declares w xs) = DeclaringLine l w xs
HasForm l (rules hs bs ns) = RuleLine l hs bs ns
HasForm l (condition ts a) = ConditionLine l ts a
HasForm l blank = BlankLine l
HasForm l broken =
    ((w : Word) (xs : List (List ℕ)) → DeclaringLine l w xs → ⊥) × ((hs bs ns : List (List ℕ)) → RuleLine l hs bs ns → ⊥)
    × ((ts : List Token) (a : List ℕ) → ConditionLine l ts a → ⊥) × (BlankLine l → ⊥)
