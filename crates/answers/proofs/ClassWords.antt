-- A preference program has a class word for each atom.
use mathlib.Core.Path.{◌≡◌, ap, ◌∙◌}
use lib.ListN.{length}
use Rattle.kinds.specs.declared.limits.Kind.{Kind}
use Rattle.kinds.specs.declared.limits.Kind.TheVariants.{Preference}
use Rattle.stores.specs.Program.{Program, ProgramForm}
use Rattle.stores.specs.RuleStore.{word_count}
use Rattle.stores.proofs.RuleStores.{words_count}

pub class_words_lem : (p : Program) → ProgramForm p → p.kind ≡ Preference → length p.words ≡ p.atoms
class_words_lem p form k = words_count p.kind p.atoms p.classes p.words form.classes_form ∙ ap (λ (j : Kind). word_count j p.atoms) k
