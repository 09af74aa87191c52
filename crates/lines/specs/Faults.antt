-- The faults of one line, the lowest number first (document 01, "Who can be turned back"), 17 and 18 directly after 2 (document 02, W-208).
use Rattle.std.specs.Prelude.{ℕ, suc, ◌+◌, Bool, true, false, cond, not, ◌&&◌, ◌||◌, List, [], ◌∷◌, ◌++◌, map, leb, length, replicate}
use Rattle.kinds.specs.Limits.{bracket_limit, class_limit, within, varying, fixed}
use Rattle.kinds.specs.declared.limits.Counts.{Counts}
use Rattle.kinds.specs.declared.limits.Kind.{Kind}
use Rattle.kinds.specs.declared.limits.Kind.TheVariants.{Plain, Preference}
use Rattle.kinds.specs.declared.refusals.Refusal.{Refusal}
use Rattle.kinds.specs.declared.refusals.Refusal.TheVariants.{BrokenForm, Name, DeclaredTwice, Undeclared, TwiceInList, Limit, FilledNot, BrokenCondition, DeepBrackets}
use Rattle.rules.specs.Lists.{some, sum, from}
use Rattle.rules.specs.Rules.{Rule, rule, occurrences}
use Rattle.names.specs.Names.{allowed, made_name}
use Rattle.name_store.specs.NameStore.{same_bytes, among}
use Rattle.conditions.specs.Conditions.{Cond}
use Rattle.conditions.specs.Numbers.{condition_rules}
use Rattle.lines.specs.declared.stage.Stage.{Stage}
use Rattle.lines.specs.declared.stage.Stage.TheVariants.{Declaring, Fixing, Ruling}
use Rattle.lines.specs.Tokens.{Token}
use Rattle.lines.specs.Conditions.{names_in, connectives_in, deeper, Parsed, parsed, unparsed, parse}
use Rattle.lines.specs.Forms.{Word, atoms, min, vary, fix, LineForm, declares, rules, condition, blank, broken}

-- what the lines so far say
pub record SoFar : Type 0 where
  pub kind : Kind
  pub stage : Stage
  pub classes : ℕ
  pub words : List ℕ
  pub names : List (List ℕ)
  pub program_rules : List (Rule ℕ)
  -- how many atoms the conditions made: they have the numbers behind the declared ones
  pub made : ℕ

-- their counts; the atoms that conditions made count on the lines that make them
abbrev pub counts_of : SoFar → Counts
counts_of st = record { atoms = length st.names; rules = length st.program_rules; occurrences = sum occurrences st.program_rules }

-- what a line gives: the state after it, or its lowest fault
pub data Step : Type 0 where
  next : SoFar → Step
  fault : Refusal → Step

-- the order of the lines
abbrev pub expects : Kind → Stage → Word → Bool
expects Plain Declaring atoms = true
expects Plain Declaring min = false
expects Plain Declaring vary = false
expects Plain Declaring fix = false
expects Plain Fixing w = false
expects Plain Ruling w = false
expects Preference Declaring atoms = false
expects Preference Declaring min = true
expects Preference Declaring vary = true
expects Preference Declaring fix = false
expects Preference Fixing atoms = false
expects Preference Fixing min = false
expects Preference Fixing vary = false
expects Preference Fixing fix = true
expects Preference Ruling w = false

abbrev pub is_ruling : Stage → Bool
is_ruling Declaring = false
is_ruling Fixing = false
is_ruling Ruling = true

abbrev pub stage_after : Word → Stage
stage_after atoms = Ruling
stage_after min = Declaring
stage_after vary = Fixing
stage_after fix = Ruling

-- the classes after a line
abbrev pub classes_after : Word → ℕ → ℕ
classes_after atoms k = k
classes_after min k = suc k
classes_after vary k = k
classes_after fix k = k

-- the class words of a line's atoms
abbrev pub class_words : Word → ℕ → ℕ → List ℕ
class_words atoms k c = []
class_words min k c = replicate c (suc k)
class_words vary k c = replicate c varying
class_words fix k c = replicate c fixed

-- some name of the second list is in the first, or again in the second
unfoldable pub twice : List (List ℕ) → List (List ℕ) → Bool
twice old [] = false
twice old (x ∷ xs) = among old x || twice (old ++ (x ∷ [])) xs

abbrev pub refused_name : Kind → List ℕ → Bool
refused_name kind x = not (allowed kind x)

-- the number of a declared name: how many stand before it
unfoldable pub name_number : List (List ℕ) → List ℕ → ℕ
name_number [] x = 0
name_number (y ∷ ys) x = cond (same_bytes x y) 0 (suc (name_number ys x))

-- true in any of a rule's three lists
abbrev pub any_of : (List (List ℕ) → Bool) → List (List ℕ) → List (List ℕ) → List (List ℕ) → Bool
any_of p hs bs ns = p hs || (p bs || p ns)

abbrev pub first : Bool → Refusal → Step → Step
first true f s = fault f
first false f s = s

abbrev pub declared : SoFar → Word → List (List ℕ) → SoFar
declared st w xs = record {
  kind = st.kind;
  stage = stage_after w;
  classes = classes_after w st.classes;
  words = st.words ++ class_words w st.classes (length xs);
  names = st.names ++ xs;
  program_rules = st.program_rules;
  made = st.made;
}

-- a line that declares atoms: its order, then name lengths, then declared twice, then the counts
unfoldable pub declare : SoFar → Word → List (List ℕ) → Step
declare st w xs =
    first (not (expects st.kind st.stage w)) BrokenForm
    (first (some (refused_name st.kind) xs) Name
    (first (twice st.names xs) DeclaredTwice
    (first (not (within st.kind (counts_of (declared st w xs)) && leb (classes_after w st.classes) class_limit)) Limit
    (next (declared st w xs)))))

abbrev pub numbered : List (List ℕ) → List (List ℕ) → List (List ℕ) → List (List ℕ) → Rule ℕ
numbered names hs bs ns = rule (map (name_number names) hs) (map (name_number names) bs) (map (name_number names) ns)

abbrev pub with_rule_lem : SoFar → Rule ℕ → SoFar
with_rule_lem st r = record {
  kind = st.kind;
  stage = st.stage;
  classes = st.classes;
  words = st.words;
  names = st.names;
  program_rules = st.program_rules ++ (r ∷ []);
  made = st.made;
}

abbrev pub filled : Kind → List (List ℕ) → Bool
filled Plain xs = false
filled Preference [] = false
filled Preference (x ∷ xs) = true

-- a rule: its order, names, undeclared, twice in a list, the counts, a filled `not` list
unfoldable pub add_rule : SoFar → List (List ℕ) → List (List ℕ) → List (List ℕ) → Step
add_rule st hs bs ns =
    first (not (is_ruling st.stage)) BrokenForm
    (first (any_of (some (refused_name st.kind)) hs bs ns) Name
    (first (any_of (some (λ x. not (among st.names x))) hs bs ns) Undeclared
    (first (any_of (twice []) hs bs ns) TwiceInList
    (first (not (within st.kind (counts_of (with_rule_lem st (numbered st.names hs bs ns))))) Limit
    (first (filled st.kind ns) FilledNot (next (with_rule_lem st (numbered st.names hs bs ns))))))))

-- a condition with so many connectives, of the atom a
abbrev pub with_condition_lem : SoFar → Cond → ℕ → ℕ → SoFar
with_condition_lem st c count a = record {
  kind = st.kind;
  stage = st.stage;
  classes = st.classes;
  words = st.words;
  names = st.names;
  program_rules = st.program_rules ++ condition_rules (length st.names) c a;
  made = st.made + count;
}

-- the counts with the atoms that conditions made
abbrev pub all_counts : SoFar → Counts
all_counts st = record { atoms = length st.names + st.made; rules = length st.program_rules; occurrences = sum occurrences st.program_rules }

-- one of so many atoms that are made next has a name that is declared
abbrev pub taken : SoFar → ℕ → Bool
taken st count = some (λ t. among st.names (made_name t)) (from (suc st.made) count)

abbrev pub is_conditional : Kind → Bool
is_conditional Plain = false
is_conditional Preference = true

abbrev pub on_parsed : Parsed → (Cond → Step) → Step
on_parsed (parsed c) f = f c
on_parsed unparsed f = fault BrokenCondition

-- a condition: its order, whether it is one, its brackets, names, declared atoms that it makes, undeclared ones, the counts (document 02, W-208)
unfoldable pub add_condition : SoFar → List Token → List ℕ → Step
add_condition st ts a =
    first (not (is_ruling st.stage && is_conditional st.kind)) BrokenForm
    (on_parsed (parse (name_number st.names) (suc st.made) ts) (λ c.
    first (deeper bracket_limit ts) DeepBrackets
    (first (some (refused_name st.kind) (names_in ts ++ (a ∷ []))) Name
    (first (taken st (connectives_in ts)) DeclaredTwice
    (first (some (λ x. not (among st.names x)) (names_in ts ++ (a ∷ []))) Undeclared
    (first (not (within st.kind (all_counts (with_condition_lem st c (connectives_in ts) (name_number st.names a))))) Limit
    (next (with_condition_lem st c (connectives_in ts) (name_number st.names a)))))))))

abbrev pub step_form : SoFar → LineForm → Step
step_form st (declares w xs) = declare st w xs
step_form st (rules hs bs ns) = add_rule st hs bs ns
step_form st (condition ts a) = add_condition st ts a
step_form st blank = next st
step_form st broken = fault BrokenForm
