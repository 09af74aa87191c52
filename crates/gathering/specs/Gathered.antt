-- What the scratch stores and the counts say of the lines so far.
use Rattle.std.specs.Prelude.{ℕ, ◌+◌, ◌*◌, ◌≤◌, ◌≡◌, Bool, true, false, not, cond, ◌&&◌, List, [], ◌∷◌, ◌++◌, T, leb, ltb, length, take, drop, Result, Ok, Err}
use Rattle.std.proofs.lemmas.List.Edits.{sets}
use Rattle.kinds.specs.Sizes.{longest_entry, store_words, store_bytes}
use Rattle.kinds.specs.Words.{when_word}
use Rattle.kinds.specs.Limits.{atom_limit, class_limit, within}
use Rattle.kinds.specs.declared.limits.Counts.{Counts}
use Rattle.kinds.specs.declared.limits.Kind.{Kind}
use Rattle.kinds.specs.declared.limits.Kind.TheVariants.{Plain, Preference}
use Rattle.kinds.specs.declared.refusals.Refusal.{Refusal}
use Rattle.kinds.specs.declared.refusals.Refusal.TheVariants.{BrokenForm, Name, DeclaredTwice, Undeclared, Limit, FilledNot}
use Rattle.rules.specs.Lists.{All, some, flat}
use Rattle.names.specs.Names.{allowed}
use Rattle.name_store.specs.NameStore.{encode_names, decode_names}
use Rattle.name_store.specs.NameIndex.{Indexed}
use Rattle.stores.specs.Checking.{Below}
use Rattle.stores.specs.RuleStore.{rule_words, word_count, rules_from}
use Rattle.gathering.specs.declared.gathered.Gathered.{Gathered}
use Rattle.lines.specs.Tokens.{tokens}
use Rattle.lines.specs.Shapes.{opens_with}
use Rattle.lines.specs.Forms.{Word, LineForm, declares, rules, condition, blank, broken, opened_of}
use Rattle.lines.specs.Faults.{SoFar, counts_of, next, fault, is_ruling, stage_after, classes_after, class_words, refused_name, any_of, is_conditional, step_form}

unfoldable pub state_of : Kind → Gathered → List ℕ → List ℕ → SoFar
state_of kind g words bytes = record {
  kind = kind;
  stage = g.stage;
  classes = g.classes;
  words = take (word_count kind g.counts.atoms) (drop 4 words);
  names = decode_names g.counts.atoms bytes;
  program_rules = rules_from g.counts.rules (drop (4 + word_count kind g.counts.atoms) words);
  made = g.made;
}

-- the class words and the rules, as a rule store has them behind its header
abbrev pub stored_words : SoFar → List ℕ
stored_words st = st.words ++ flat rule_words st.program_rules

-- a list stands behind `skipped` words, up to `used`
pub record Filled (d : List ℕ) (skipped used : ℕ) (list : List ℕ) : Type 0 where
  pub front : List ℕ
  pub rest : List ℕ
  pub is : d ≡ (front ++ list) ++ rest
  pub before : length front ≡ skipped
  pub ends : used ≡ skipped + length list

-- the scratch stores hold a state
pub record Held (kind : Kind) (st : SoFar) (g : Gathered) (words bytes : List ℕ) : Type 0 where
  pub kind_is : st.kind ≡ kind
  pub stage_is : g.stage ≡ st.stage
  pub classes_is : g.classes ≡ st.classes
  pub counts_are : g.counts ≡ counts_of st
  pub made_is : g.made ≡ st.made
  pub class_words_lem : length st.words ≡ word_count kind g.counts.atoms
  pub stored : Filled words 4 g.words (stored_words st)
  pub names_allowed : All (λ x. T (allowed kind x)) st.names
  pub names_stored : encode_names st.names ++ drop (length (encode_names st.names)) bytes ≡ bytes
  pub bytes_is : g.bytes ≡ length (encode_names st.names)
  pub short : g.bytes ≤ longest_entry * g.counts.atoms
  pub counts_fit : within kind g.counts ≡ true
  pub classes_fit : g.classes ≤ class_limit
  pub made_fits : g.made ≤ atom_limit Preference
  pub made_kind : is_conditional kind ≡ false → g.made ≡ 0
  pub no_rules : is_ruling st.stage ≡ false → st.program_rules ≡ []
  pub words_room : length words ≡ store_words
  pub bytes_room : length bytes ≡ store_bytes

-- the names' index
pub record HeldIndex (g : Gathered) (bytes starts firsts links : List ℕ) : Type 0 where
  pub index : Indexed (decode_names g.counts.atoms bytes) bytes starts firsts links
  pub starts_room : length starts ≡ atom_limit Plain
  pub links_room : length links ≡ atom_limit Plain

-- no atom has a mark of the next rule
pub record HeldMarks (g : Gathered) (marks : List ℕ) : Type 0 where
  pub below : Below (3 * g.counts.rules + 1) marks
  pub room : length marks ≡ atom_limit Plain

-- what a line's answer says of the step that its form makes
abbrev pub LineSays : Kind → SoFar → LineForm → List ℕ → List ℕ → List ℕ → List ℕ → List ℕ → Result Gathered Refusal → Type 0
LineSays kind st f words bytes starts firsts links (Ok g) =
    (step_form st f ≡ next (state_of kind g words bytes)) × Held kind (state_of kind g words bytes) g words bytes × HeldIndex g bytes starts firsts links
LineSays kind st f words bytes starts firsts links (Err r) = step_form st f ≡ fault r

pub record LineIs (kind : Kind) (st : SoFar) (f : LineForm) (words bytes starts firsts links : List ℕ) (r : Result Gathered Refusal) : Type 0 where
  pub says : LineSays kind st f words bytes starts firsts links r

-- what it leaves in the marks
abbrev pub MarksSay : List ℕ → Result Gathered Refusal → Type 0
MarksSay marks (Ok g) = HeldMarks g marks
MarksSay marks (Err r) = Unit {0}

pub record MarksAre (marks : List ℕ) (r : Result Gathered Refusal) : Type 0 where
  pub says : MarksSay marks r

-- a line of a preference file that opens as a condition does
abbrev pub opens_condition : Kind → List ℕ → Bool
opens_condition kind l = is_conditional kind && opens_with when_word (opened_of (tokens l))

-- why a line behind the declarations is no rule with declared names
abbrev pub refusal_of : Kind → LineForm → Refusal
refusal_of kind (declares w xs) = BrokenForm
refusal_of kind (rules hs bs ns) = cond (any_of (some (refused_name kind)) hs bs ns) Name Undeclared
refusal_of kind (condition ts a) = BrokenForm
refusal_of kind blank = BrokenForm
refusal_of kind broken = BrokenForm

-- a line with nothing that counts, ended or not
abbrev pub blank_line : Gathered → Bool → Result Gathered Refusal
blank_line g ended = cond ended (Ok g) (Err BrokenForm)

-- a rule

abbrev pub filled_count : Kind → ℕ → Bool
filled_count Plain c = false
filled_count Preference c = ltb 0 c

abbrev pub first_line : Bool → Refusal → Result Gathered Refusal → Result Gathered Refusal
first_line true f r = Err f
first_line false f r = r

-- the counts with one rule more
abbrev pub rule_counts : Counts → ℕ → Counts
rule_counts c more = record { atoms = c.atoms; rules = c.rules + 1; occurrences = c.occurrences + more }

-- one rule more, whose words end at `end`
abbrev pub with_rule : Gathered → ℕ → ℕ → Gathered
with_rule g more end = record {
  stage = g.stage;
  classes = g.classes;
  counts = rule_counts g.counts more;
  made = g.made;
  words = end;
  bytes = g.bytes;
}

abbrev pub counts_if : Result Gathered Refusal → List ℕ → List ℕ
counts_if (Ok g) w = w
counts_if (Err f) w = []

unfoldable pub kept_rule : Kind → Gathered → ℕ → ℕ → ℕ → Result Gathered Refusal
kept_rule kind g more nots end =
    first_line (not (within kind (rule_counts g.counts more))) Limit
    (first_line (filled_count kind nots) FilledNot (Ok (with_rule g more end)))

pub record Kept (kind : Kind) (g : Gathered) (heads bodies nots end : ℕ) (before after : List ℕ) (r : Result Gathered Refusal) : Type 0 where
  pub answer : r ≡ kept_rule kind g (heads + bodies + nots) nots end
  pub words : after ≡ sets before g.words (counts_if r (heads ∷ bodies ∷ nots ∷ []))

-- a line that declares atoms

-- the counts with so many atoms
abbrev pub atom_counts : Counts → ℕ → Counts
atom_counts c n = record { atoms = n; rules = c.rules; occurrences = c.occurrences }

abbrev pub with_names : Gathered → Word → ℕ → ℕ → ℕ → Gathered
with_names g w atoms used end = record {
  stage = stage_after w;
  classes = classes_after w g.classes;
  counts = atom_counts g.counts atoms;
  made = g.made;
  words = end;
  bytes = used;
}

unfoldable pub kept_names : Kind → Gathered → Word → ℕ → ℕ → ℕ → Result Gathered Refusal
kept_names kind g w atoms used end =
    first_line (not (within kind (atom_counts g.counts atoms) && leb (classes_after w g.classes) class_limit)) Limit (Ok (with_names g w atoms used end))

pub record KeptNames (kind : Kind) (g : Gathered) (w : Word) (count atoms used : ℕ) (before after : List ℕ) (r : Result Gathered Refusal) : Type 0 where
  pub answer : r ≡ kept_names kind g w atoms used (g.words + length (class_words w g.classes count))
  pub words : after ≡ sets before g.words (counts_if r (class_words w g.classes count))

-- past the store's room: whether a name stands twice decides
abbrev pub past_refusal : Bool → Refusal
past_refusal true = DeclaredTwice
past_refusal false = Limit
