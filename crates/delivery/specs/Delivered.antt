-- What the scratch stores leave in the two lent outputs.
use Rattle.std.specs.Prelude.{ℕ, ◌≡◌, List, [], ◌∷◌, length, Result}
use Rattle.kinds.specs.declared.limits.Kind.{Kind}
use Rattle.stores.specs.Program.{Program}
use Rattle.stores.specs.RuleStore.{kind_word, encode}
use Rattle.name_store.specs.NameStore.{encode_names}
use Rattle.rules.specs.Lists.{over}
use Rattle.answers.specs.declared.ReadSizes.{ReadSizes}
use Rattle.answers.specs.declared.ReadRefusal.{ReadRefusal}
use Rattle.gathering.specs.declared.gathered.Gathered.{Gathered}
use Rattle.lines.specs.Said.{accepted}
use Rattle.answers.specs.Reading.{answer_of, written_if}

abbrev pub header_words : Kind → Gathered → List ℕ
header_words kind g = kind_word kind ∷ g.counts.atoms ∷ g.classes ∷ g.counts.rules ∷ []

-- the stores of a program and its names in the two outputs, or refusal 9
pub record Delivered (p : Program) (ns : List (List ℕ)) (rules names rules' names' : List ℕ) (r : Result ReadSizes ReadRefusal) : Type 0 where
  pub answer : r ≡ answer_of (accepted p ns) (length rules) (length names)
  pub rules_after_holds : rules' ≡ over (written_if r (λ q ms. encode q) (accepted p ns)) rules
  pub names_after_holds : names' ≡ over (written_if r (λ q ms. encode_names ms) (accepted p ns)) names
