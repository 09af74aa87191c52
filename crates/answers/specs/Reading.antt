-- The reader's answer and what it leaves in the two lent outputs; refusal 9 comes after 1 to 8, 17 and 18.
use Rattle.std.specs.Prelude.{ℕ, cond, ◌&&◌, Result, Ok, Err, List, [], leb, length}
use Rattle.kinds.specs.declared.refusals.Refusal.{Refusal}
use Rattle.kinds.specs.declared.refusals.Refusal.TheVariants.{Output}
use Rattle.stores.specs.Program.{Program}
use Rattle.stores.specs.RuleStore.{encode}
use Rattle.name_store.specs.NameStore.{encode_names}
use Rattle.rules.specs.Lists.{over}
use Rattle.answers.specs.declared.ReadSizes.{ReadSizes}
use Rattle.answers.specs.declared.ReadRefusal.{ReadRefusal}
use Rattle.lines.specs.Said.{Said, accepted, refused, said}

abbrev pub read_sizes : ℕ → ℕ → ReadSizes
read_sizes words bytes = record { words = words; bytes = bytes }

abbrev pub read_refusal : Refusal → ℕ → ReadRefusal
read_refusal refusal line = record { refusal = refusal; line = line }

abbrev pub answer_of : Said → ℕ → ℕ → Result ReadSizes ReadRefusal
answer_of (accepted p names) words bytes =
    cond (leb (length (encode p)) words && leb (length (encode_names names)) bytes)
    (Ok (read_sizes (length (encode p)) (length (encode_names names))))
    (Err (read_refusal Output 0))
answer_of (refused f k) words bytes = Err (read_refusal f k)

-- what is written: both stores or nothing
abbrev pub written_if : Result ReadSizes ReadRefusal → (Program → List (List ℕ) → List ℕ) → Said → List ℕ
written_if (Ok sizes) store (accepted p names) = store p names
written_if (Ok sizes) store (refused f k) = []
written_if (Err e) store s = []

-- what the outputs hold after a text that says s
abbrev pub rules_after : Said → List ℕ → List ℕ → List ℕ
rules_after s rules names = over (written_if (answer_of s (length rules) (length names)) (λ p ns. encode p) s) rules

abbrev pub names_after : Said → List ℕ → List ℕ → List ℕ
names_after s rules names = over (written_if (answer_of s (length rules) (length names)) (λ p ns. encode_names ns) s) names

unfoldable pub read_answer : List ℕ → ℕ → ℕ → Result ReadSizes ReadRefusal
read_answer text words bytes = answer_of (said text) words bytes

unfoldable pub read_rules : List ℕ → List ℕ → List ℕ → List ℕ
read_rules text rules names = rules_after (said text) rules names

unfoldable pub read_names : List ℕ → List ℕ → List ℕ → List ℕ
read_names text rules names = names_after (said text) rules names
