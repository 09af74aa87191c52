-- A program of which every atom stands in some rule stays as it is; what is left of a program is such a one.
use Prim.Native.Nat.{ℕ, ◌<◌}
use mathlib.Core.Path.{◌≡◌, refl, sym, ap, subst, ◌∙◌}
use mathlib.Core.List.{List, []}
use lib.ListN.{length}
use Rattle.kinds.specs.declared.limits.Kind.{Kind}
use Rattle.kinds.specs.declared.limits.Kind.TheVariants.{Plain, Preference}
use Rattle.rules.specs.Lists.{from}
use Rattle.rules.proofs.Lists.{length_from}
use Rattle.rules.proofs.Renumbering.{within_imp, rename_itself}
use Rattle.stores.specs.Program.{Program, ProgramForm, ClassesForm}
use Rattle.stores.proofs.StoredRules.{rules_within}
use Rattle.restriction.specs.Atoms.{is_used, used, place_in, renumbered, entries}
use Rattle.restriction.specs.Remaining.{restrict, left, remaining_of, remaining_names_of, remaining, remaining_names, AllUsed}
use Rattle.restriction.proofs.Places.{filter_whole, filter_all_length, entries_whole, place_whole, used_left}

-- a plain program keeps all

pub remaining_plain : (p : Program) → p.kind ≡ Plain → remaining p ≡ p
unfolding remaining
remaining_plain p e = ap (λ (k : Kind). remaining_of k p) e

pub names_plain : (p : Program) (names : List (List ℕ)) → p.kind ≡ Plain → remaining_names p names ≡ names
unfolding remaining_names
names_plain p names e = ap (λ (k : Kind). remaining_names_of k p names) e

pub remaining_kind : (p : Program) → (remaining p).kind ≡ p.kind
unfolding remaining restrict
remaining_kind p = step p.kind
  where
    step : (k : Kind) → (remaining_of k p).kind ≡ p.kind
    step Plain = refl
    step Preference = refl

pub remaining_preference : (p : Program) → p.kind ≡ Preference → remaining p ≡ restrict (left p) p
unfolding remaining
remaining_preference p e = ap (λ (k : Kind). remaining_of k p) e

pub names_preference : (p : Program) (names : List (List ℕ)) → p.kind ≡ Preference → remaining_names p names ≡ entries [] names (left p)
unfolding remaining_names
names_preference p names e = ap (λ (k : Kind). remaining_names_of k p names) e

-- every atom stands in some rule

module _ (p : Program) (f : ProgramForm p) (all : AllUsed p) where
  left_whole : left p ≡ from 0 p.atoms
  unfolding used
  left_whole = filter_whole (is_used p.rules) p.atoms all

  words_whole : p.kind ≡ Preference → entries 0 p.words (from 0 p.atoms) ≡ p.words
  words_whole e =
      let size = (subst (λ (k : Kind). ClassesForm k p.atoms p.classes p.words) e f.classes_form).1 in
      ap (λ (n : ℕ). entries 0 p.words (from 0 n)) (sym size) ∙ entries_whole 0 p.words

  rules_whole : renumbered (from 0 p.atoms) p.rules ≡ p.rules
  rules_whole = rename_itself (place_in (from 0 p.atoms)) p.rules (within_imp (λ a. a < p.atoms) _ (place_whole p.atoms) p.rules (rules_within f))

  pub remaining_whole : remaining p ≡ p
  unfolding remaining restrict
  remaining_whole = step p.kind refl
    where
      whole : length (from 0 p.atoms) ≡ p.atoms
      whole = length_from 0 p.atoms

      step : (k : Kind) → p.kind ≡ k → remaining_of k p ≡ p
      step Plain e = refl
      step Preference e = rw (left_whole, whole, words_whole e, rules_whole)

  pub names_whole : (names : List (List ℕ)) → length names ≡ p.atoms → remaining_names p names ≡ names
  unfolding remaining_names
  names_whole names count = step p.kind
    where
      step : (k : Kind) → remaining_names_of k p names ≡ names
      step Plain = refl
      step Preference = ap (entries [] names) left_whole ∙ ap (λ (n : ℕ). entries [] names (from 0 n)) (sym count) ∙ entries_whole [] names

-- what is left

pub all_used : (p : Program) → p.kind ≡ Preference → AllUsed (remaining p)
unfolding restrict
all_used p e = subst AllUsed (sym (remaining_preference p e)) (used_left p.atoms p.rules)

-- as many atoms as before are all of them
pub all_left : (p : Program) → length (left p) ≡ p.atoms → AllUsed p
unfolding used
all_left p e = filter_all_length (is_used p.rules) p.atoms e
