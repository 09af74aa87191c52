-- What the canonical writer answers and leaves in the lent output: refusals 10, 14, 9 in this order, as the writer (document 02, W-205).
use Rattle.std.specs.Prelude.{ℕ, Result, List, length}
use Rattle.kinds.specs.declared.refusals.Refusal.{Refusal}
use Rattle.stores.specs.Program.{Program}
use Rattle.stores.specs.RuleStore.{decode}
use Rattle.name_store.specs.NameStore.{decode_names}
use Rattle.rules.specs.Lists.{over}
use Rattle.text.specs.Text.{text_of}
use Rattle.canonical.specs.CanonicalProgram.{canonical_program}
use Rattle.answers.specs.Writing.{written_bytes, stores_answer}

-- the text of the canonical program
unfoldable pub canonical_text : Program → List (List ℕ) → List ℕ
canonical_text p names = text_of (canonical_program p) names

-- of two stores; atoms that no rule has are written
unfoldable pub stores_canonical : List ℕ → List ℕ → List ℕ
stores_canonical rules names = canonical_text (decode rules) (decode_names (decode rules).atoms names)

unfoldable pub canonical_answer : List ℕ → List ℕ → ℕ → Result ℕ Refusal
canonical_answer rules names room = stores_answer rules names (stores_canonical rules names) room

unfoldable pub canonical_output : List ℕ → List ℕ → List ℕ → List ℕ
canonical_output rules names before = over (written_bytes (canonical_answer rules names (length before)) (stores_canonical rules names)) before
