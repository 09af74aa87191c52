-- The documents' sentences for refusals 2 to 8 (document 01, "Who can be turned back"), 17 and 18 (document 02, W-208), each on its own, of a line's form and what the lines before it say.
use Rattle.std.specs.Prelude.{ℕ, suc, ◌+◌, ◌≤◌, ◌<◌, ◌≡◌, ◌⊎◌, ◌≢◌, List, [], ◌∷◌, ◌++◌, length}
use Rattle.kinds.specs.Limits.{atom_limit, rule_limit, occurrence_limit, class_limit, bracket_limit}
use Rattle.kinds.specs.declared.limits.Kind.{Kind}
use Rattle.kinds.specs.declared.limits.Kind.TheVariants.{Plain, Preference}
use Rattle.kinds.specs.declared.refusals.Refusal.{Refusal}
use Rattle.kinds.specs.declared.refusals.Refusal.TheVariants.{TextTooLong, BrokenForm, Name, DeclaredTwice, Undeclared, TwiceInList, Limit, FilledNot, Output, RuleStore, TooManyAtoms, SetNumber, Budget, NameStore, BrokenClauses, LiteralBeyond, BrokenCondition, DeepBrackets, RuleIndex}
use Rattle.rules.specs.Lists.{Any, sum}
use Rattle.rules.specs.Rules.{Rule, occurrences}
use Rattle.names.specs.Names.{made_name}
use Rattle.conditions.specs.Conditions.{Cond}
use Rattle.conditions.specs.Numbers.{condition_rules}
use Rattle.lines.specs.declared.stage.Stage.{Stage}
use Rattle.lines.specs.declared.stage.Stage.TheVariants.{Declaring, Fixing, Ruling}
use Rattle.lines.specs.Tokens.{Token}
use Rattle.lines.specs.Conditions.{names_in, connectives_in, Parsed, parsed, unparsed, parse}
use Rattle.lines.specs.Forms.{Word, atoms, min, vary, fix, LineForm, declares, rules, condition, blank, broken}
use Rattle.lines.specs.Faults.{SoFar, name_number, numbered, declared, with_rule_lem, with_condition_lem}
use Rattle.faults.specs.Conditions.{IsCondition, DeeperThan}
use Rattle.faults.specs.NameForms.{GeneratedName, TooLongName}

-- x is one of the entries
abbrev pub Among : {A : Type 0} → List A → A → Type 0
Among l x = Any (λ y. x ≡ y) l

-- some entry stands in the list twice
abbrev pub Twice : {A : Type 0} → List A → Type 0
Twice [] = ⊥
Twice (x ∷ l) = Among l x ⊎ Twice l

-- the names of a line, `not`, `and` and `or` being none in a condition
abbrev pub names_of : LineForm → List (List ℕ)
names_of (declares w xs) = xs
names_of (rules hs bs ns) = hs ++ (bs ++ ns)
names_of (condition ts a) = names_in ts ++ (a ∷ [])
names_of blank = []
names_of broken = []

-- which declaring line may come: a plain program has one `atoms` line; a preference file has `min` lines, one `vary` line, one `fix` line
pub data Comes : Kind → Stage → Word → Type 0 where
  atoms_line : Comes Plain Declaring atoms
  min_line : Comes Preference Declaring min
  vary_line : Comes Preference Declaring vary
  fix_line : Comes Preference Fixing fix

-- 2 "form (a name's bytes included) or line order broken"; rules come when the declarations are complete, conditions "among a preference file's rules"
abbrev pub BreaksForm : SoFar → LineForm → Type 0
BreaksForm st (declares w xs) = Comes st.kind st.stage w → ⊥
BreaksForm st (rules hs bs ns) = st.stage ≢ Ruling
BreaksForm st (condition ts a) = (st.stage ≡ Ruling) × (st.kind ≡ Preference) → ⊥
BreaksForm st blank = ⊥
BreaksForm st broken = Unit {0}

-- 17 "no COND between `(when` and a last `(then a))`"
abbrev pub LacksCondition : LineForm → Type 0
LacksCondition (declares w xs) = ⊥
LacksCondition (rules hs bs ns) = ⊥
LacksCondition (condition ts a) = IsCondition ts → ⊥
LacksCondition blank = ⊥
LacksCondition broken = ⊥

-- 18 "COND's brackets deeper than 32"
abbrev pub HasDeepBrackets : LineForm → Type 0
HasDeepBrackets (declares w xs) = ⊥
HasDeepBrackets (rules hs bs ns) = ⊥
HasDeepBrackets (condition ts a) = DeeperThan bracket_limit ts
HasDeepBrackets blank = ⊥
HasDeepBrackets broken = ⊥

-- 3 "house name too long (after `N.`, `S.` or `D.` too), or a generated name in a preference file"
abbrev pub NotAllowed : Kind → List ℕ → Type 0
NotAllowed kind x = TooLongName x ⊎ ((kind ≡ Preference) × GeneratedName x)

abbrev pub HasNameNotAllowed : SoFar → LineForm → Type 0
HasNameNotAllowed st f = Any (NotAllowed st.kind) (names_of f)

-- 4 "atom declared twice": on this line, or on it and an earlier one; a declared `T.` name "makes the line of the condition that gets it 4"
abbrev pub DeclaresTwice : SoFar → LineForm → Type 0
DeclaresTwice st (declares w xs) = Twice (st.names ++ xs)
DeclaresTwice st (rules hs bs ns) = ⊥
DeclaresTwice st (condition ts a) = (t : ℕ) × (st.made < t) × (t ≤ st.made + connectives_in ts) × Among st.names (made_name t)
DeclaresTwice st blank = ⊥
DeclaresTwice st broken = ⊥

-- 5 "atom not declared": `T.` names too that "no `min`, `vary` or `fix` line declares"
abbrev pub HasUndeclared : SoFar → LineForm → Type 0
HasUndeclared st (declares w xs) = ⊥
HasUndeclared st (rules hs bs ns) = Any (λ x. Among st.names x → ⊥) (hs ++ (bs ++ ns))
HasUndeclared st (condition ts a) = Any (λ x. Among st.names x → ⊥) (names_in ts ++ (a ∷ []))
HasUndeclared st blank = ⊥
HasUndeclared st broken = ⊥

-- 6 "atom twice in one list of a rule"
abbrev pub HasTwiceInList : LineForm → Type 0
HasTwiceInList (declares w xs) = ⊥
HasTwiceInList (rules hs bs ns) = Twice hs ⊎ (Twice bs ⊎ Twice ns)
HasTwiceInList (condition ts a) = ⊥
HasTwiceInList blank = ⊥
HasTwiceInList broken = ⊥

-- the condition on the line, its connectives numbered on, and the rules that it adds
abbrev pub parsed_or : {A : Type 0} → Parsed → (Cond → A) → A → A
parsed_or (parsed c) f x = f c
parsed_or unparsed f x = x

abbrev pub condition_of : SoFar → List Token → Parsed
condition_of st ts = parse (name_number st.names) (suc st.made) ts

abbrev pub added_rules : SoFar → List Token → List ℕ → List (Rule ℕ)
added_rules st ts a = parsed_or (condition_of st ts) (λ c. condition_rules (length st.names) c (name_number st.names a)) []

-- the declared atoms, and those that conditions made: "Limits count them."
abbrev pub atoms_so_far : SoFar → ℕ
atoms_so_far st = length st.names + st.made

-- the counts with the line's own
abbrev pub atoms_with : SoFar → LineForm → ℕ
atoms_with st (declares w xs) = atoms_so_far st + length xs
atoms_with st (rules hs bs ns) = atoms_so_far st
atoms_with st (condition ts a) = atoms_so_far st + connectives_in ts
atoms_with st blank = atoms_so_far st
atoms_with st broken = atoms_so_far st

abbrev pub rules_with : SoFar → LineForm → ℕ
rules_with st (declares w xs) = length st.program_rules
rules_with st (rules hs bs ns) = suc (length st.program_rules)
rules_with st (condition ts a) = length st.program_rules + length (added_rules st ts a)
rules_with st blank = length st.program_rules
rules_with st broken = length st.program_rules

abbrev pub occurrences_with : SoFar → LineForm → ℕ
occurrences_with st (declares w xs) = sum occurrences st.program_rules
occurrences_with st (rules hs bs ns) = sum occurrences st.program_rules + (length hs + length bs + length ns)
occurrences_with st (condition ts a) = sum occurrences st.program_rules + sum occurrences (added_rules st ts a)
occurrences_with st blank = sum occurrences st.program_rules
occurrences_with st broken = sum occurrences st.program_rules

abbrev pub classes_with : SoFar → LineForm → ℕ
classes_with st (declares atoms xs) = st.classes
classes_with st (declares min xs) = suc st.classes
classes_with st (declares vary xs) = st.classes
classes_with st (declares fix xs) = st.classes
classes_with st (rules hs bs ns) = st.classes
classes_with st (condition ts a) = st.classes
classes_with st blank = st.classes
classes_with st broken = st.classes

-- 7 "a count passes its limit, or a 17th class"
pub data PassesLimit (st : SoFar) (f : LineForm) : Type 0 where
  atoms_pass : atom_limit st.kind < atoms_with st f → PassesLimit st f
  rules_pass : rule_limit st.kind < rules_with st f → PassesLimit st f
  occurrences_pass : occurrence_limit st.kind < occurrences_with st f → PassesLimit st f
  classes_pass : class_limit < classes_with st f → PassesLimit st f

-- 8 "a filled `not` list in a preference file"
abbrev pub FillsNot : SoFar → LineForm → Type 0
FillsNot st (declares w xs) = ⊥
FillsNot st (rules hs bs ns) = (st.kind ≡ Preference) × (ns ≢ [])
FillsNot st (condition ts a) = ⊥
FillsNot st blank = ⊥
FillsNot st broken = ⊥

-- the sentence of each refusal; the others are of no line
abbrev pub Says : Refusal → SoFar → LineForm → Type 0
Says TextTooLong st f = ⊥
Says BrokenForm st f = BreaksForm st f
Says Name st f = HasNameNotAllowed st f
Says DeclaredTwice st f = DeclaresTwice st f
Says Undeclared st f = HasUndeclared st f
Says TwiceInList st f = HasTwiceInList f
Says Limit st f = PassesLimit st f
Says FilledNot st f = FillsNot st f
Says Output st f = ⊥
Says RuleStore st f = ⊥
Says TooManyAtoms st f = ⊥
Says SetNumber st f = ⊥
Says Budget st f = ⊥
Says NameStore st f = ⊥
Says BrokenClauses st f = ⊥
Says LiteralBeyond st f = ⊥
Says BrokenCondition st f = LacksCondition f
Says DeepBrackets st f = HasDeepBrackets f
Says RuleIndex st f = ⊥

-- the order of the refusals on a line: by their numbers, but 17 and 18 "with line, after 2"
abbrev pub line_rank : Refusal → ℕ
line_rank TextTooLong = 1
line_rank BrokenForm = 2
line_rank BrokenCondition = 3
line_rank DeepBrackets = 4
line_rank Name = 5
line_rank DeclaredTwice = 6
line_rank Undeclared = 7
line_rank TwiceInList = 8
line_rank Limit = 9
line_rank FilledNot = 10
line_rank Output = 11
line_rank RuleStore = 12
line_rank TooManyAtoms = 13
line_rank SetNumber = 14
line_rank Budget = 15
line_rank NameStore = 16
line_rank BrokenClauses = 17
line_rank LiteralBeyond = 18
line_rank RuleIndex = 19

-- "on it, the lowest number": the sentence holds, and none before it
pub record Lowest (st : SoFar) (f : LineForm) (r : Refusal) : Type 0 where
  pub says : Says r st f
  pub none_lower : (q : Refusal) → line_rank q < line_rank r → Says q st f → ⊥

abbrev pub Faultless : SoFar → LineForm → Type 0
Faultless st f = (q : Refusal) → Says q st f → ⊥

-- what the lines say with a faultless one more
abbrev pub added : SoFar → LineForm → SoFar
added st (declares w xs) = declared st w xs
added st (rules hs bs ns) = with_rule_lem st (numbered st.names hs bs ns)
added st (condition ts a) = parsed_or (condition_of st ts) (λ c. with_condition_lem st c (connectives_in ts) (name_number st.names a)) st
added st blank = st
added st broken = st

-- what holds of all that faultless lines say
pub record Sound (st : SoFar) : Type 0 where
  pub different : Twice st.names → ⊥
  pub within_limits : PassesLimit st blank → ⊥
  -- no condition has come before the rules
  pub none_made : st.stage ≢ Ruling → st.made ≡ 0
