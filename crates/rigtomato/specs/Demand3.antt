-- Demand 3 (document 01, "In demand 3, accepted means .."), from the bytes of a text.
use Rattle.std.specs.Prelude.{ℕ, ◌^◌, ◌<◌, ◌≡◌, ◌↔◌, Ok, List, length, take}
use Rattle.kinds.specs.declared.limits.Kind.TheVariants.{Plain, Preference}
use Rattle.rules.specs.Lists.{sum}
use Rattle.rules.specs.Sets.{cut}
use Rattle.rules.specs.Rules.{occurrences}
use Rattle.rules.specs.Stable.{Stable}
use Rattle.rules.specs.Preferred.{Preferred}
use Rattle.answers.specs.ReadsAs.{ReadsAs}
use Rattle.stores.specs.Program.{Program}
use Rattle.answers.specs.Reading.{read_sizes, read_answer, read_rules, read_names}
use Rattle.pairing.specs.Translated.{translated, translated_names, numbers, atoms_sum, rules_sum, occurrences_sum}
use Rattle.answers.specs.Translating.{translation_text, translate_answer, translate_output}

-- A text was read into two lent outputs and refused for nothing; the stores that the reader then left were handed on unchanged, and the translator answered without a refusal.
pub record Handed (text rules names out : List ℕ) : Type 0 where
  pub words : ℕ
  pub bytes : ℕ
  pub read : read_answer text (length rules) (length names) ≡ Ok (read_sizes words bytes)
  pub size : ℕ
  pub written : translate_answer (take words (read_rules text rules names)) (take bytes (read_names text rules names)) (length out) ≡ Ok size

-- what the translator then wrote is the delivered text
abbrev pub delivered : {text rules names out : List ℕ} → Handed text rules names out → List ℕ
delivered {text} {rules} {names} {out} h =
    take h.size (translate_output (take h.words (read_rules text rules names)) (take h.bytes (read_names text rules names)) out)

pub record Demand3 (text plain_text : List ℕ) : Type 0 where
  -- what the lines of the two texts say
  pub file : Program
  pub names : List (List ℕ)
  pub plain : Program
  pub plain_names : List (List ℕ)
  pub file_read : ReadsAs text file names
  pub plain_read : ReadsAs plain_text plain plain_names
  pub file_kind : file.kind ≡ Preference
  pub plain_kind : plain.kind ≡ Plain
  -- the delivered text is the one that the ten steps give
  pub steps : plain_text ≡ translation_text file names
  pub program : plain ≡ translated file
  pub atom_names : plain_names ≡ translated_names file names
  -- the members below n bear the file's names in the file's order
  pub own_names : take (length names) plain_names ≡ names
  -- preferred states and stable models pair one to one by cutting down
  pub paired : (s : ℕ) → s < 2 ^ length names
      → Preferred file.words file.rules s
      ↔ ((t : ℕ) × (t < 2 ^ length plain_names) × Stable plain.rules t × (cut (length names) t ≡ s))
  pub only_one : (t u : ℕ) → t < 2 ^ length plain_names → u < 2 ^ length plain_names → Stable plain.rules t → Stable plain.rules u
      → cut (length names) t ≡ cut (length names) u → t ≡ u
  -- the three sums
  pub atoms : length plain_names ≡ atoms_sum (numbers file)
  pub rules : length plain.rules ≡ rules_sum (numbers file)
  pub places : sum occurrences plain.rules ≡ occurrences_sum (numbers file)

abbrev pub Demand3Holds : Type 0
Demand3Holds = (text rules names out : List ℕ) (h : Handed text rules names out) → Demand3 text (delivered h)
