-- The masks of a preference program of few atoms.
use Rattle.std.specs.Prelude.{ℕ, ◌≤◌, ◌≡◌, List, map, length, take}
use Rattle.kinds.specs.Limits.{walk_atoms, class_limit, fixed}
use Rattle.kinds.specs.declared.limits.Kind.TheVariants.{Preference}
use Rattle.rules.specs.Preferred.{of_class}
use Rattle.stores.specs.Program.{Program, ProgramForm}
use Rattle.masks.specs.Masks.{place_mask, care_at, want_at, class_masks}
use Rattle.masks.specs.declared.masks.Sizes.{Sizes}

-- the masks of p, as they are met by places: two for each rule at the front, as many as the sizes say, and one for each class
pub record MasksOf (p : Program) (care want classes : List ℕ) (z : Sizes) : Type 0 where
  pub form : ProgramForm p
  pub is_preference : p.kind ≡ Preference
  pub few : p.atoms ≤ walk_atoms
  pub atoms_are : z.atoms ≡ p.atoms
  pub rules_are : z.rules ≡ length p.rules
  pub fixed_is : z.fixed ≡ place_mask (length p.words) (of_class p.words fixed)
  pub care_front : take z.rules care ≡ map (care_at p.atoms) p.rules
  pub want_front : take z.rules want ≡ map (want_at p.atoms) p.rules
  pub class_masks_holds : classes ≡ class_masks p.words 1 class_limit
