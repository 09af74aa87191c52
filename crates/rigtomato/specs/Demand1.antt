-- Demand 1 (document 01, "Who can be turned back"; document 02, W-202, W-205, W-208 and W-209): each entry point refuses exactly what is wrong, and leaves every lent buffer as it was.
use Rattle.std.specs.Prelude.{ℕ, ◌≡◌, ◌↔◌, List}
use Rattle.kinds.specs.declared.limits.Kind.TheVariants.{Preference}
use Rattle.stores.specs.Program.{Program}
use Rattle.stores.specs.RuleStore.{StoreOf, encode}
use Rattle.name_store.specs.NameStore.{NamesOf, encode_names}
use Rattle.text.specs.Text.{text_of}
use Rattle.faults.specs.EarliestFault.{Accepts}
use Rattle.clauses.specs.Sentences.{AcceptsClauses}
use Rattle.reader.specs.WrittenText.{NoConditions, TypedText}
use Rattle.reader.specs.RoundTrips.{RoundTrips}
use Rattle.canonical_text.specs.CanonicalTexts.{CanonicalTexts}
use Rattle.answers.specs.Writing.{stores_text}
use Rattle.answers.specs.Indexing.{IndexRefuses, AddRefuses, FlipRefuses}
use Rattle.answers.specs.Refusals.{ReadRefuses, ClausesRefuse, WriteRefuses, CanonicalRefuses, TranslateRefuses, VerdictRefuses, PrintRefuses, PrintsInto}

-- "Written are the two stores of such a preference file" (document 02, W-202): the writer's text of them is accepted as just what they hold
pub record PreferenceStores (p : Program) (names : List (List ℕ)) : Type 0 where
  pub kind : p.kind ≡ Preference
  pub stores : StoreOf (encode p) p × NamesOf (encode_names names) p.kind p.atoms names
  pub written : stores_text (encode p) (encode_names names) ≡ text_of p names
  pub read : Accepts (text_of p names) p names

pub record Demand1 : Type 0 where
  pub read : (text rules names : List ℕ) → ReadRefuses text rules names
  -- a text without conditions is accepted exactly when its lines are ended and its strict text is the text of a program of the form
  pub accepted : (text : List ℕ) → NoConditions text → ((p : Program) × (names : List (List ℕ)) × Accepts text p names) ↔ TypedText text
  -- what the writer gives for it, and the reader for that
  pub texts : RoundTrips
  pub clauses : (text rules names : List ℕ) → ClausesRefuse text rules names
  pub clause_stores : (text : List ℕ) (p : Program) (names : List (List ℕ)) → AcceptsClauses text p names → PreferenceStores p names
  pub write : (rules names before : List ℕ) → WriteRefuses rules names before
  pub write_canonical : (rules names before : List ℕ) → CanonicalRefuses rules names before
  -- when two canonical texts are equal, and what they are read as
  pub canonical_texts : CanonicalTexts
  pub translate : (rules names before : List ℕ) → TranslateRefuses rules names before
  pub verdicts : (rules : List ℕ) (number budget : ℕ) → VerdictRefuses rules number budget
  pub index_rules : (rules before : List ℕ) → IndexRefuses rules before
  pub add_rule_holds : (rules index rule before index_before : List ℕ) → AddRefuses rules index rule before index_before
  pub flip : (rules index list : List ℕ) (set atom : ℕ) (before : List ℕ) → FlipRefuses rules index list set atom before
  pub programs : (text : List ℕ) → PrintRefuses text
  pub printed : (text before : List ℕ) → PrintsInto text before
