-- Rules with other atoms have the models that the old ones have by their new atoms.
use mathlib.Core.Path.{◌≡◌, refl, sym, ap₂}
use mathlib.Core.Logic.{◌↔◌}
use mathlib.Core.List.{List, map}
use mathlib.Core.Bool.{Bool, not, ◌&&◌, ◌||◌}
use Rattle.rules.specs.Lists.{some}
use Rattle.rules.specs.Rules.{Rule, Model, is_holding, is_model, rename}
use Rattle.rules.proofs.Booleans.{T_of}
use Rattle.rules.proofs.ListLaws.{all_each}
use Rattle.rules.proofs.MappedLists.{every_map, some_map}
use Rattle.rules.proofs.Rules.{model_law}

module _ {A B : Type 0} (f : A → B) (m : B → Bool) where
  holds_renamed : (r : Rule A) → is_holding m (rename f r) ≡ is_holding (λ a. m (f a)) r
  holds_renamed r = ap₂ (λ (x y : Bool). not x || y) (ap₂ (λ (x y : Bool). x && not y) (every_map f m (λ a. m (f a)) r.body (all_each _ (λ a. refl) r.body)) (some_renamed r.nots)) (some_renamed r.head)
    where
      some_renamed : (l : List A) → some m (map f l) ≡ some (λ a. m (f a)) l
      some_renamed l = some_map f m (λ a. m (f a)) l (all_each _ (λ a. refl) l)

  pub model_renamed : (rs : List (Rule A)) → Model rs (λ a. m (f a)) ↔ Model (map (rename f) rs) m
  model_renamed rs =
      let e : is_model (map (rename f) rs) m ≡ is_model rs (λ a. m (f a)) = every_map (rename f) (is_holding m) (is_holding (λ a. m (f a))) rs (all_each _ holds_renamed rs) in (
        λ h. (model_law (map (rename f) rs) m).0 (T_of (sym e) ((model_law rs (λ a. m (f a))).1 h)),
        λ h. (model_law rs (λ a. m (f a))).0 (T_of e ((model_law (map (rename f) rs) m).1 h)),
      )
