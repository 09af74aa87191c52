-- A store and its index in the two lent outputs, or refusal 9.
use Rattle.std.specs.Prelude.{Result, Ok, Err, ℕ, ◌≡◌, ◌&&◌, cond, List, leb, length}
use Rattle.kinds.specs.declared.refusals.Refusal.{Refusal}
use Rattle.kinds.specs.declared.refusals.Refusal.TheVariants.{Output}
use Rattle.rules.specs.Lists.{over}
use Rattle.rule_index.specs.Answers.{grown_words, grown_sizes}
use Rattle.rule_index.specs.declared.GrownSizes.{GrownSizes}

abbrev pub delivered : List ℕ → List ℕ → ℕ → ℕ → Result GrownSizes Refusal
delivered store index room index_room = cond (leb (length store) room && leb (length index) index_room) (Ok (grown_sizes (length store) (length index))) (Err Output)

pub record Delivered (store index before index_before after index_after : List ℕ) (r : Result GrownSizes Refusal) : Type 0 where
  pub answer : r ≡ delivered store index (length before) (length index_before)
  pub store_after : after ≡ over (grown_words r store) before
  pub index_after_holds : index_after ≡ over (grown_words r index) index_before
