-- The translator on the stores of a program of the form.
use Prim.Native.Nat.{ℕ}
use mathlib.Core.Path.{◌≡◌, refl, subst}
use mathlib.Core.Bool.{true}
use mathlib.Core.List.{List}
use Rattle.std.specs.Prelude.{Some}
use Rattle.kinds.specs.declared.limits.Kind.{Kind}
use Rattle.kinds.specs.declared.limits.Kind.TheVariants.{Preference}
use Rattle.rules.proofs.Booleans.{is_true_lem}
use Rattle.stores.specs.Program.{Program, ProgramForm}
use Rattle.stores.specs.RuleStore.{encode, rule_store}
use Rattle.name_store.specs.NameStore.{encode_names, are_names, NamesForm}
use Rattle.stores.proofs.RuleStores.{decode_encode, kind_answered}
use Rattle.name_store.proofs.NameStores.{decode_names_lem, names_law}
use Rattle.answers.specs.Translating.{translation_text, stores_translation}

pub answered : (p : Program) → ProgramForm p → rule_store (encode p) ≡ Some p.kind
answered p form = kind_answered (encode p) p (record { form = form; words = refl })

module _ (p : Program) (form : ProgramForm p) (names : List (List ℕ)) (fit : NamesForm p.kind p.atoms names) where
  pub named : p.kind ≡ Preference → are_names Preference p.atoms (encode_names names) ≡ true
  named k = is_true_lem _ ((names_law Preference p.atoms (encode_names names)).1 (names, record { form = subst (λ (c : Kind). NamesForm c p.atoms names) k fit; bytes = refl }))

  pub stores_text_lem : stores_translation (encode p) (encode_names names) ≡ translation_text p names
  unfolding stores_translation
  stores_text_lem = rw (decode_encode p form, decode_names_lem fit)
