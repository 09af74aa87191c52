-- The answer of the clause reader and what it leaves in the two lent outputs; refusal 9 comes after 1, 7, 15 and 16 (document 02, W-202).
use Rattle.std.specs.Prelude.{ℕ, Result, List}
use Rattle.clauses.specs.ClausesSaid.{clauses_said}
use Rattle.answers.specs.declared.ReadSizes.{ReadSizes}
use Rattle.answers.specs.declared.ReadRefusal.{ReadRefusal}
use Rattle.answers.specs.Reading.{answer_of, rules_after, names_after}

unfoldable pub clauses_answer : List ℕ → ℕ → ℕ → Result ReadSizes ReadRefusal
clauses_answer text words bytes = answer_of (clauses_said text) words bytes

unfoldable pub clauses_rules : List ℕ → List ℕ → List ℕ → List ℕ
clauses_rules text rules names = rules_after (clauses_said text) rules names

unfoldable pub clauses_names : List ℕ → List ℕ → List ℕ → List ℕ
clauses_names text rules names = names_after (clauses_said text) rules names
