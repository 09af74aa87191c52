-- The rules of a program of n atoms, met at the place of a set.
use Prim.Native.Nat.{ℕ, ◌<◌}
use mathlib.Core.Path.{◌≡◌, sym, ap, ap₂, ◌∙◌}
use mathlib.Core.List.{List, [], map, map-map}
use Rattle.rules.specs.Lists.{All}
use Rattle.rules.specs.Sets.{has}
use Rattle.rules.specs.Rules.{Rule, first_broken, rename}
use Rattle.rules.specs.Renumbering.{Within}
use Rattle.rules.proofs.Lists.{all_imp, all_map}
use Rattle.rules.proofs.Renumbering.{first_moved}
use Rattle.places.specs.Places.{mirror, place}
use Rattle.places.proofs.Places.{place_atoms}
use Rattle.masks.specs.Masks.{care_of, want_of, care_at, want_at, first_m}
use Rattle.masks.proofs.RuleMasks.{first_mask}

pub first_at : (n : ℕ) (rs : List (Rule ℕ)) → All (Within (λ a. a < n)) rs → All (λ r. r.nots ≡ []) rs → (m : ℕ) → first_m (place n m) (map (care_at n) rs) (map (want_at n) rs) ≡ first_broken rs (has m)
first_at n rs below plain m =
    ap₂ (first_m (place n m)) (sym (map-map care_of (rename (mirror n)) rs)) (sym (map-map want_of (rename (mirror n)) rs))
    ∙ first_mask (place n m) (map (rename (mirror n)) rs) (all_map (λ r. r.nots ≡ []) (rename (mirror n)) rs (all_imp (λ r. r.nots ≡ []) _ (λ r e. ap (map (mirror n)) e) rs plain))
    ∙ first_moved (mirror n) (λ a. a < n) m (place n m) (place_atoms n m) rs below
