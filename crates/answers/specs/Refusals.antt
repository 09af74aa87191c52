-- Which refusals each entry point gives (document 01, "Who can be turned back"), and what the lent buffers then hold.
use Rattle.std.specs.Prelude.{ℕ, ◌^◌, ◌≤◌, ◌<◌, ◌≡◌, ◌↔◌, ◌⊎◌, Result, Ok, Err, List, ◌++◌, length, drop}
use Rattle.kinds.specs.Limits.{stream_limit, walk_atoms, budget_limit}
use Rattle.kinds.specs.declared.limits.Kind.{Kind}
use Rattle.kinds.specs.declared.limits.Kind.TheVariants.{Plain, Preference}
use Rattle.kinds.specs.declared.refusals.Refusal.{Refusal}
use Rattle.kinds.specs.declared.refusals.Refusal.TheVariants.{TextTooLong, Output, RuleStore, TooManyAtoms, SetNumber, Budget, NameStore}
use Rattle.stores.specs.Program.{Program}
use Rattle.rules.specs.Lists.{over}
use Rattle.stores.specs.RuleStore.{StoreOf, encode, decode}
use Rattle.name_store.specs.NameStore.{NamesOf, encode_names}
use Rattle.faults.specs.EarliestFault.{Refuses, Accepts}
use Rattle.clauses.specs.Sentences.{RefusesClauses, AcceptsClauses}
use Rattle.answers.specs.declared.ReadSizes.{ReadSizes}
use Rattle.answers.specs.declared.ReadRefusal.{ReadRefusal}
use Rattle.answers.specs.Reading.{read_sizes, read_refusal, read_answer, read_rules, read_names}
use Rattle.answers.specs.ReadingClauses.{clauses_answer, clauses_rules, clauses_names}
use Rattle.answers.specs.Writing.{stores_text, write_answer, write_output}
use Rattle.answers.specs.WritingCanonical.{stores_canonical, canonical_answer, canonical_output}
use Rattle.answers.specs.Translating.{translation_text, stores_translation, translate_answer, translate_output}
use Rattle.walks.specs.declared.answers.Verdict.TheVariants.{Refused as NotJudged}
use Rattle.walks.specs.declared.answers.NextState.TheVariants.{Refused as NotSearched}
use Rattle.walks.specs.Answers.{preferred_answer, stable_answer, next_answer, place_answer}
use Rattle.answers.specs.Printed.{refused_text, shown}
use Rattle.answers.specs.Listed.{whole_listing}
use Rattle.answers.specs.Programs.{translate_printed, states_printed}

-- tested in this order: refusal x where its sentence holds, else what the later ones say
abbrev pub Tested : Refusal → Type 0 → (Refusal → Type 0) → Refusal → Type 0
Tested x Sentence later r = ((r ≡ x) × Sentence) ⊎ ((Sentence → ⊥) × later r)

abbrev pub NoOther : Refusal → Type 0
NoOther r = ⊥

-- its sentence does not hold, and the rest
abbrev pub Passes : Type 0 → Type 0 → Type 0
Passes Sentence Rest = (Sentence → ⊥) × Rest

-- 10: rule store not of the form
abbrev pub NoStore : List ℕ → Type 0
NoStore rules = (p : Program) → StoreOf rules p → ⊥

-- 10: not of the form or of the other kind
abbrev pub NoStoreOf : Kind → List ℕ → Type 0
NoStoreOf kind rules = (p : Program) → StoreOf rules p → p.kind ≡ kind → ⊥

-- 14: name store doesn't fit it
abbrev pub NoNames : List ℕ → List ℕ → Type 0
NoNames rules bytes = (names : List (List ℕ)) → NamesOf bytes (decode rules).kind (decode rules).atoms names → ⊥

-- 9: a lent output shorter than the result
abbrev pub TooShort : List ℕ → ℕ → Type 0
TooShort result room = room < length result

-- 14, then 9
abbrev pub StoresRefused : List ℕ → List ℕ → List ℕ → ℕ → Refusal → Type 0
StoresRefused rules names result room = Tested NameStore (NoNames rules names) (Tested Output (TooShort result room) NoOther)

abbrev pub StoresPass : List ℕ → List ℕ → List ℕ → ℕ → Type 0 → Type 0
StoresPass rules names result room Rest = Passes (NoNames rules names) (Passes (TooShort result room) Rest)

-- what is written into a lent output: nothing on a refusal; after success the bytes past the written part keep their content
pub record Writes (answer : Result ℕ Refusal) (text before after : List ℕ) : Type 0 where
  pub refused : (r : Refusal) → answer ≡ Err r → after ≡ before
  pub written : (size : ℕ) → answer ≡ Ok size → after ≡ text ++ drop size before

abbrev pub NoRoom : Program → List (List ℕ) → ℕ → ℕ → Type 0
NoRoom p names words bytes = TooShort (encode p) words ⊎ TooShort (encode_names names) bytes

-- a reader of a text that it refuses or accepts: its refusal with the line, then 9 for either output
pub record Reads (Refuses : Refusal → ℕ → Type 0) (Accepts : Program → List (List ℕ) → Type 0) (answer : Result ReadSizes ReadRefusal) (rules names rules' names' : List ℕ) : Type 0 where
  pub refused : (r : Refusal) (line : ℕ) → answer ≡ Err (read_refusal r line)
      ↔ (Refuses r line ⊎ ((p : Program) × (ns : List (List ℕ)) × Accepts p ns × NoRoom p ns (length rules) (length names) × (r ≡ Output) × (line ≡ 0)))
  pub accepted : (words bytes : ℕ) → answer ≡ Ok (read_sizes words bytes)
      ↔ ((p : Program) × (ns : List (List ℕ)) × Accepts p ns × (NoRoom p ns (length rules) (length names) → ⊥) × (words ≡ length (encode p)) × (bytes ≡ length (encode_names ns)))
  pub kept : (r : Refusal) (line : ℕ) → answer ≡ Err (read_refusal r line) → (rules' ≡ rules) × (names' ≡ names)
  pub filled : (words bytes : ℕ) → answer ≡ Ok (read_sizes words bytes) → (p : Program) (ns : List (List ℕ)) → Accepts p ns → (rules' ≡ encode p ++ drop words rules) × (names' ≡ encode_names ns ++ drop bytes names)

-- the reader: 1, then 2 to 8 with their line (crate `faults`)
abbrev pub ReadRefuses : List ℕ → List ℕ → List ℕ → Type 0
ReadRefuses text rules names = Reads (Refuses text) (Accepts text) (read_answer text (length rules) (length names)) rules names (read_rules text rules names) (read_names text rules names)

-- the clause reader: 1, then 15, 16 and 7 with their line (crate `clauses`)
abbrev pub ClausesRefuse : List ℕ → List ℕ → List ℕ → Type 0
ClausesRefuse text rules names =
    Reads (RefusesClauses text) (AcceptsClauses text) (clauses_answer text (length rules) (length names)) rules names (clauses_rules text rules names) (clauses_names text rules names)

-- a writer of a text that two stores give: 10 where there is no rule store for it, 14, 9
pub record WritesText (NoRules : Type 0) (rules names text before : List ℕ) (answer : Result ℕ Refusal) (after : List ℕ) : Type 0 where
  pub refused : (r : Refusal) → answer ≡ Err r ↔ Tested RuleStore NoRules (StoresRefused rules names text (length before)) r
  pub written : (size : ℕ) → answer ≡ Ok size ↔ Passes NoRules (StoresPass rules names text (length before) (size ≡ length text))
  pub output : Writes answer text before after

-- the writer
abbrev pub WriteRefuses : List ℕ → List ℕ → List ℕ → Type 0
WriteRefuses rules names before = WritesText (NoStore rules) rules names (stores_text rules names) before (write_answer rules names (length before)) (write_output rules names before)

-- the canonical writer
abbrev pub CanonicalRefuses : List ℕ → List ℕ → List ℕ → Type 0
CanonicalRefuses rules names before =
    WritesText (NoStore rules) rules names (stores_canonical rules names) before (canonical_answer rules names (length before)) (canonical_output rules names before)

-- the translator: 10 of a plain store too
abbrev pub TranslateRefuses : List ℕ → List ℕ → List ℕ → Type 0
TranslateRefuses rules names before =
    WritesText (NoStoreOf Preference rules) rules names (stores_translation rules names) before (translate_answer rules names (length before)) (translate_output rules names before)

-- a call with a set or a start: 10, 11, 12 (the set or the start outside), then what comes later
abbrev pub NumberRefused : Kind → List ℕ → (ℕ → Type 0) → (Refusal → Type 0) → Refusal → Type 0
NumberRefused kind rules Outside later =
    Tested RuleStore (NoStoreOf kind rules) (Tested TooManyAtoms (walk_atoms < (decode rules).atoms) (Tested SetNumber (Outside (2 ^ (decode rules).atoms)) later))

-- a verdict or the lister: then 13
abbrev pub CallRefused : Kind → List ℕ → (ℕ → Type 0) → ℕ → Refusal → Type 0
CallRefused kind rules Outside budget = NumberRefused kind rules Outside (Tested Budget (budget_limit < budget) NoOther)

pub record VerdictRefuses (rules : List ℕ) (number budget : ℕ) : Type 0 where
  pub preferred : (r : Refusal) → preferred_answer rules number budget ≡ NotJudged r ↔ CallRefused Preference rules (λ top. top ≤ number) budget r
  pub stable : (r : Refusal) → stable_answer rules number budget ≡ NotJudged r ↔ CallRefused Plain rules (λ top. top ≤ number) budget r
  pub next_state : (r : Refusal) → next_answer rules number budget ≡ NotSearched r ↔ CallRefused Preference rules (λ top. top < number) budget r
  -- a set's place: 10 (a plain store too), 11, 12
  pub place : (r : Refusal) → place_answer rules number ≡ Err r ↔ NumberRefused Preference rules (λ top. top ≤ number) NoOther r

-- the two programs: all that is printed where the lent output has room for it, else nothing
pub record PrintsInto (text before : List ℕ) : Type 0 where
  pub all : length text ≤ length before → over (shown text before) before ≡ text ++ drop (length text) before
  pub nothing : length before < length text → over (shown text before) before ≡ before

-- a result as it is printed: all of it, or refusal 9 where it passes the size of an output
pub record Streams (whole printed : List ℕ) : Type 0 where
  pub fits : length whole ≤ stream_limit → printed ≡ whole
  pub past : stream_limit < length whole → printed ≡ refused_text Output 0

-- what they print: a refusal for a text past their limit, for one that the reader refuses, for a plain program, and of the lister over 60 atoms;
-- else the translation or the listing
pub record PrintRefuses (text : List ℕ) : Type 0 where
  pub too_long : stream_limit < length text → (translate_printed text ≡ refused_text TextTooLong 0) × (states_printed text ≡ refused_text TextTooLong 0)
  pub refused : length text ≤ stream_limit → (r : Refusal) (line : ℕ) → Refuses text r line → (translate_printed text ≡ refused_text r line) × (states_printed text ≡ refused_text r line)
  pub plain : length text ≤ stream_limit → (p : Program) (names : List (List ℕ)) → Accepts text p names → p.kind ≡ Plain
      → (translate_printed text ≡ refused_text RuleStore 0) × (states_printed text ≡ refused_text RuleStore 0)
  pub many_atoms : length text ≤ stream_limit → (p : Program) (names : List (List ℕ)) → Accepts text p names → p.kind ≡ Preference → walk_atoms < p.atoms
      → states_printed text ≡ refused_text TooManyAtoms 0
  pub translated : length text ≤ stream_limit → (p : Program) (names : List (List ℕ)) → Accepts text p names → p.kind ≡ Preference
      → Streams (translation_text p names) (translate_printed text)
  pub listed : length text ≤ stream_limit → (p : Program) (names : List (List ℕ)) → Accepts text p names → p.kind ≡ Preference → p.atoms ≤ walk_atoms
      → Streams (whole_listing p names) (states_printed text)
