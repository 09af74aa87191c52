-- What reading an accepted text gives, whatever the outputs.
use Rattle.std.specs.Prelude.{ℕ, ◌≤◌, ◌≡◌, Ok, List, length}
use Rattle.stores.specs.Program.{Program}
use Rattle.stores.specs.RuleStore.{encode}
use Rattle.name_store.specs.NameStore.{encode_names}
use Rattle.rules.specs.Lists.{over}
use Rattle.lines.specs.Said.{accepted, said}
use Rattle.answers.specs.Reading.{read_sizes, read_answer, read_rules, read_names}

-- Reading a text is accepted with any outputs that are long enough, and fills both with the stores of what the text says.
pub record ReadsAs (text : List ℕ) (p : Program) (names : List (List ℕ)) : Type 0 where
  pub lines : said text ≡ accepted p names
  pub answer : (rules-out names-out : List ℕ) → length (encode p) ≤ length rules-out → length (encode_names names) ≤ length names-out
      → read_answer text (length rules-out) (length names-out) ≡ Ok (read_sizes (length (encode p)) (length (encode_names names)))
  pub rules_filled : (rules-out names-out : List ℕ) → length (encode p) ≤ length rules-out → length (encode_names names) ≤ length names-out
      → read_rules text rules-out names-out ≡ over (encode p) rules-out
  pub names_filled : (rules-out names-out : List ℕ) → length (encode p) ≤ length rules-out → length (encode_names names) ≤ length names-out
      → read_names text rules-out names-out ≡ over (encode_names names) names-out
