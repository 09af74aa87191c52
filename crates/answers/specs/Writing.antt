-- What the writer answers and leaves in the lent output: refusals 10, 14, 9 in this order (document 01, "Who can be turned back").
use Rattle.std.specs.Prelude.{ℕ, cond, Result, Ok, Err, List, [], leb, length}
use Rattle.kinds.specs.declared.refusals.Refusal.{Refusal}
use Rattle.kinds.specs.declared.refusals.Refusal.TheVariants.{Output, RuleStore, NameStore}
use Rattle.stores.specs.RuleStore.{is_store, decode}
use Rattle.name_store.specs.NameStore.{are_names, decode_names}
use Rattle.rules.specs.Lists.{over}
use Rattle.text.specs.Text.{text_of}

-- a text into an output that has room for so many bytes
abbrev pub fitted : List ℕ → ℕ → Result ℕ Refusal
fitted text room = cond (leb (length text) room) (Ok (length text)) (Err Output)

-- the bytes that an answer stands for
abbrev pub written_bytes : Result ℕ Refusal → List ℕ → List ℕ
written_bytes (Ok k) text = text
written_bytes (Err f) text = []

-- a text that two stores give
abbrev pub stores_answer : List ℕ → List ℕ → List ℕ → ℕ → Result ℕ Refusal
stores_answer rules names text room =
    cond (is_store rules)
    (cond (are_names (decode rules).kind (decode rules).atoms names) (fitted text room) (Err NameStore))
    (Err RuleStore)

-- the text of two stores
unfoldable pub stores_text : List ℕ → List ℕ → List ℕ
stores_text rules names = text_of (decode rules) (decode_names (decode rules).atoms names)

unfoldable pub write_answer : List ℕ → List ℕ → ℕ → Result ℕ Refusal
write_answer rules names room = stores_answer rules names (stores_text rules names) room

unfoldable pub write_output : List ℕ → List ℕ → List ℕ → List ℕ
write_output rules names before = over (written_bytes (write_answer rules names (length before)) (stores_text rules names)) before
