-- What holds of canonical texts (document 02, W-205), of accepted texts and of stores of the form.
use Rattle.std.specs.Prelude.{ℕ, ◌≡◌, ◌↔◌, List}
use Rattle.rules.specs.Stable.{Stable}
use Rattle.rules.specs.Preferred.{Preferred}
use Rattle.stores.specs.Program.{Program, ProgramForm}
use Rattle.stores.specs.RuleStore.{encode}
use Rattle.name_store.specs.NameStore.{NamesForm, encode_names}
use Rattle.restriction.specs.Remaining.{remaining, remaining_names}
use Rattle.faults.specs.EarliestFault.{Accepts}
use Rattle.canonical.specs.CanonicalProgram.{canonical_program, SamePrograms}
use Rattle.answers.specs.WritingCanonical.{canonical_text, stores_canonical}

-- a program of the form with fitting names
pub record Formed (p : Program) (names : List (List ℕ)) : Type 0 where
  pub form : ProgramForm p
  pub names_form : NamesForm p.kind p.atoms names

-- "the same declarations in the same order and the same rules as sets give equal canonical bytes, and otherwise different ones"
abbrev pub EqualTexts : Program → List (List ℕ) → Program → List (List ℕ) → Type 0
EqualTexts p names q others = (canonical_text p names ≡ canonical_text q others) ↔ SamePrograms p names q others

-- "writing a file's canonical text a second time alters no byte"
pub record WrittenAgain (p : Program) (names : List (List ℕ)) : Type 0 where
  pub read : Accepts (canonical_text p names) (canonical_program p) names
  pub same : canonical_text (canonical_program p) names ≡ canonical_text p names

pub record CanonicalTexts : Type 0 where
  -- what is written for the two stores of a program
  pub written : (p : Program) (names : List (List ℕ)) → Formed p names → stores_canonical (encode p) (encode_names names) ≡ canonical_text p names
  pub equal : (p q : Program) (names others : List (List ℕ)) → Formed p names → Formed q others → EqualTexts p names q others
  -- of the files behind two texts, without what no rule uses
  pub equal_files : (text other : List ℕ) (p q : Program) (names others : List (List ℕ)) → Accepts text p names → Accepts other q others → EqualTexts p names q others
  pub again : (text : List ℕ) (p : Program) (names : List (List ℕ)) → Accepts text p names → WrittenAgain p names
  -- stores that are handed in may have atoms that no rule uses: they are written, and left out when a preference file is read
  pub handed_in_holds : (p : Program) (names : List (List ℕ)) → Formed p names → Accepts (canonical_text p names) (remaining (canonical_program p)) (remaining_names (canonical_program p) names)

-- "preferred states are those of the typed file": q with its names has the declarations of p with its own, and the same preferred and stable sets
pub record SameStates (p : Program) (names : List (List ℕ)) (q : Program) (others : List (List ℕ)) : Type 0 where
  pub same_kind : q.kind ≡ p.kind
  pub same_atoms : q.atoms ≡ p.atoms
  pub same_classes : q.classes ≡ p.classes
  pub same_words : q.words ≡ p.words
  pub same_names : others ≡ names
  pub preferred : (m : ℕ) → Preferred q.words q.rules m ↔ Preferred p.words p.rules m
  pub stable : (m : ℕ) → Stable q.rules m ↔ Stable p.rules m

-- whatever the canonical text of an accepted text is read as
abbrev pub CanonicalStates : Type 0
CanonicalStates = (text : List ℕ) (p q : Program) (names others : List (List ℕ)) → Accepts text p names → Accepts (canonical_text p names) q others → SameStates p names q others
