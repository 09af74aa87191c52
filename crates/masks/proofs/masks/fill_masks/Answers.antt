use mathlib.Core.List.{List}
use mathlib.Core.Path.{refl, ◌≡◌}
use Prim.Native.Nat.{ℕ, ◌≤◌}
use lib.ListN.{get_or}
use Rattle.kinds.specs.Limits.{walk_atoms}
use Rattle.kinds.specs.declared.limits.Kind.TheVariants.{Preference}
use Rattle.stores.specs.RuleStore.{StoreOf, decode}
use native.Mathlib.Omega.{arith}
use Rattle.stores.proofs.StoredRules.{has_header}
use Rattle.masks.proofs.CheckedStore.{PreferenceHeader, preference_atoms, preference_room, preference_rules, class_words_few, preference_stored, masks_filled}
use Rattle.masks.proofs.masks.fill_masks.Goals as goal

header : (ws : List ℕ) (n r : ℕ) → StoreOf ws (decode ws) → (decode ws).atoms ≤ walk_atoms → (decode ws).kind ≡ Preference → n ≡ get_or ws 1 0 → r ≡ get_or ws 3 0 → PreferenceHeader ws n r
header ws n r s f k a q = record { store = s; few = f; is_preference = k; atoms_read = a; rules_read = q }

pub bounds-words-1 : goal.bounds-words-1
bounds-words-1 c = omega (arith, has_header _ _ c.requires.store_of)

pub bounds-words-3 : goal.bounds-words-3
bounds-words-3 c = omega (arith, has_header _ _ c.requires.store_of)

pub overflow_add-first : goal.overflow_add-first
overflow_add-first c = omega (arith, preference_room _ _ _ (header _ _ _ c.requires.store_of c.requires.words_bound c.requires.words_value refl refl))

pub slice_bounds-fill_classes-end : goal.slice_bounds-fill_classes-end
slice_bounds-fill_classes-end c = preference_room _ _ _ (header _ _ _ c.requires.store_of c.requires.words_bound c.requires.words_value refl refl)

pub fill_classes-fixed-requires : goal.fill_classes-fixed-requires
fill_classes-fixed-requires c =
    record {
      words_len_bound = class_words_few _ _ _ (header _ _ _ c.requires.store_of c.requires.words_bound c.requires.words_value refl refl);
      classes_value = c.requires.care_len.2;
    }

pub offset_bounds-words-first : goal.offset_bounds-words-first
offset_bounds-words-first c = omega (arith, preference_room _ _ _ (header _ _ _ c.requires.store_of c.requires.words_bound c.requires.words_value refl refl))

pub slice_bounds-fill_rules-count : goal.slice_bounds-fill_rules-count
slice_bounds-fill_rules-count c = omega (arith, preference_room _ _ _ (header _ _ _ c.requires.store_of c.requires.words_bound c.requires.words_value refl refl))

pub slice_bounds-fill_rules-start : goal.slice_bounds-fill_rules-start
slice_bounds-fill_rules-start c = omega (arith, preference_room _ _ _ (header _ _ _ c.requires.store_of c.requires.words_bound c.requires.words_value refl refl))

pub fill_rules-requires : goal.fill_rules-requires
fill_rules-requires c =
    record {
      n_le_walk_atoms = preference_atoms _ _ _ (header _ _ _ c.requires.store_of c.requires.words_bound c.requires.words_value refl refl);
      stored_rules = preference_stored _ _ _ (header _ _ _ c.requires.store_of c.requires.words_bound c.requires.words_value refl refl);
      rules_in_bounds = (omega (arith, preference_rules _ _ _ (header _ _ _ c.requires.store_of c.requires.words_bound c.requires.words_value refl refl), c.requires.care_len.0), omega (arith, preference_rules _ _ _ (header _ _ _ c.requires.store_of c.requires.words_bound c.requires.words_value refl refl), c.requires.care_len.1));
    }

pub returns : goal.returns
returns c = masks_filled _ _ _ (header _ _ _ c.requires.store_of c.requires.words_bound c.requires.words_value refl refl) _ c.fill_classes-fixed.ensures.value _ _ _ _ _ c.fill_classes-fixed.ensures.classes_after (c.fill_rules.ensures.care_after, c.fill_rules.ensures.want_after)
