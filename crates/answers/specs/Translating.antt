-- The translator's answer and what it leaves in the lent output: refusals 10 (a plain store too), 14, 9 in this order.
use Rattle.std.specs.Prelude.{ℕ, cond, Result, Err, List, length}
use Rattle.kinds.specs.declared.limits.Kind.TheVariants.{Preference}
use Rattle.kinds.specs.declared.refusals.Refusal.{Refusal}
use Rattle.kinds.specs.declared.refusals.Refusal.TheVariants.{RuleStore, NameStore}
use Rattle.stores.specs.Program.{Program}
use Rattle.stores.specs.RuleStore.{decode, rule_store, is_of}
use Rattle.name_store.specs.NameStore.{are_names, decode_names}
use Rattle.text.specs.Text.{text_of}
use Rattle.rules.specs.Lists.{over}
use Rattle.answers.specs.Writing.{fitted, written_bytes}
use Rattle.pairing.specs.Translated.{translated, translated_names}

-- the text of the ten steps
unfoldable pub translation_text : Program → List (List ℕ) → List ℕ
translation_text p names = text_of (translated p) (translated_names p names)

unfoldable pub stores_translation : List ℕ → List ℕ → List ℕ
stores_translation rules names = translation_text (decode rules) (decode_names (decode rules).atoms names)

unfoldable pub translate_answer : List ℕ → List ℕ → ℕ → Result ℕ Refusal
translate_answer rules names room =
    cond (is_of Preference (rule_store rules))
    (cond (are_names Preference (decode rules).atoms names) (fitted (stores_translation rules names) room) (Err NameStore))
    (Err RuleStore)

unfoldable pub translate_output : List ℕ → List ℕ → List ℕ → List ℕ
translate_output rules names before = over (written_bytes (translate_answer rules names (length before)) (stores_translation rules names)) before
