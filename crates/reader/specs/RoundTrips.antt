-- What the writer gives for stores that were read, and the reader for a text that was written (document 01, "The writer gives for an accepted text's stores the same text"; document 02, W-203, W-205 and W-208).
use Rattle.std.specs.Prelude.{ℕ, ◌≡◌, ◌↔◌, List, ◌++◌}
use Rattle.kinds.specs.Limits.{varying, fixed}
use Rattle.kinds.specs.Words.{min_word, vary_word, fix_word}
use Rattle.kinds.specs.declared.limits.Kind.TheVariants.{Plain, Preference}
use Rattle.rules.specs.Lists.{filter, flat, from}
use Rattle.rules.specs.Preferred.{of_class}
use Rattle.stores.specs.Program.{Program, ProgramForm}
use Rattle.name_store.specs.NameStore.{NamesForm}
use Rattle.restriction.specs.Atoms.{is_used}
use Rattle.restriction.specs.Remaining.{remaining, remaining_names, AllUsed}
use Rattle.text.specs.Text.{list_line, named, rule_text, text_of}
use Rattle.lines.specs.Strict.{strict_text, Strict}
use Rattle.faults.specs.EarliestFault.{Accepts}
use Rattle.reader.specs.WrittenText.{NoConditions}

-- the line of a class word, without the names of atoms that stand in no rule
abbrev pub used_line : Program → List (List ℕ) → List ℕ → ℕ → List ℕ
used_line p names word w = list_line word (named names (filter (is_used p.rules) (of_class p.words w)))

-- the text of a preference program without those names; every line stays, if only with its word
unfoldable pub used_text : Program → List (List ℕ) → List ℕ
used_text p names =
    (flat (used_line p names min_word) (from 1 p.classes) ++ (used_line p names vary_word varying ++ used_line p names fix_word fixed)) ++ flat (rule_text names) p.rules

-- the stores of an accepted text, written
pub record WritesBack (text : List ℕ) (p : Program) (names : List (List ℕ)) (a : Accepts text p names) : Type 0 where
  -- all that is declared gives the text's brackets and words with strict spacing, if no line is a condition
  pub whole : NoConditions text → text_of a.1.whole a.1.whole_names ≡ strict_text text
  -- so does a plain text, which comes back unaltered exactly when it is strict
  pub plain : p.kind ≡ Plain → text_of p names ≡ strict_text text
  pub plain_unaltered : p.kind ≡ Plain → (text_of p names ≡ text) ↔ Strict text
  -- a preference text comes back so without the names that no rule has, and unaltered exactly when it is strict, has none of these and no condition
  pub preference : p.kind ≡ Preference → text_of p names ≡ used_text a.1.whole a.1.whole_names
  pub unaltered : p.kind ≡ Preference → (text_of p names ≡ text) ↔ (Strict text × AllUsed a.1.whole × NoConditions text)
  -- and what was written is read as what was read
  pub again : Accepts (text_of p names) p names

pub record RoundTrips : Type 0 where
  pub read_write : (text : List ℕ) (p : Program) (names : List (List ℕ)) (a : Accepts text p names) → WritesBack text p names a
  -- two stores of the form, written and read: a preference store comes back without its unused atoms, a plain one as it was
  pub write_read : (p : Program) (names : List (List ℕ)) → ProgramForm p → NamesForm p.kind p.atoms names → Accepts (text_of p names) (remaining p) (remaining_names p names)
  -- every text that is written is strict
  pub strict : (p : Program) (names : List (List ℕ)) → ProgramForm p → NamesForm p.kind p.atoms names → Strict (text_of p names)
