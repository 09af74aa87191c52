-- Each atom has its name at its place, and is allowed it.
use Prim.Native.Nat.{ℕ, ◌+◌, ◌-◌, ◌≤◌}
use native.Mathlib.Omega.{arith}
use mathlib.Core.Path.{◌≡◌, sym, ap, subst, ◌∙◌}
use mathlib.Core.List.{List, [], ◌++◌, map}
use lib.Dec.{T}
use lib.ListN.{length, get_or, take, drop, length-map, take-append-drop}
use Rattle.kinds.specs.Limits.{atom_limit}
use Rattle.kinds.specs.declared.limits.Kind.TheVariants.{Preference}
use Rattle.rules.specs.Lists.{All, from}
use Rattle.rules.proofs.Lists.{all_app, all_app_l, all_app_r, all_map, all_from, length_from, map_from_at}
use Rattle.conditions.specs.Conditions.{planner, made}
use Rattle.conditions.specs.Numbers.{place}
use Rattle.names.specs.Names.{made_name, allowed}
use Rattle.names.proofs.MadeNames.{made_allowed}
use Rattle.conditions.specs.Left.{written_names}
use Rattle.conditions.proofs.Placed.{inserted_length, inserted_made, inserted_planner}

pub names_size : (k : ℕ) → length (map made_name (from 1 k)) ≡ k
names_size k = length-map (from 1 k) made_name ∙ length_from 1 k

module _ (q k : ℕ) (names : List (List ℕ)) (fits : q ≤ length names) where
  pub made_name_lem : (t : ℕ) → 1 ≤ t → t ≤ k → get_or (written_names q k names) (place q k (made t)) [] ≡ made_name t
  unfolding written_names
  made_name_lem t l u =
      let e : 1 + (t - 1) ≡ t = omega arith in
      inserted_made q k [] names (map made_name (from 1 k)) fits (names_size k) (t - 1) (omega arith) ∙ (map_from_at made_name [] 1 k (t - 1) (omega arith) ∙ ap made_name e)

  pub planner_name : (a : ℕ) → get_or (written_names q k names) (place q k (planner a)) [] ≡ get_or names a []
  unfolding written_names
  planner_name a = inserted_planner q k [] names (map made_name (from 1 k)) fits (names_size k) a

  pub written_length : length (written_names q k names) ≡ length names + k
  unfolding written_names
  written_length = inserted_length q k [] names (map made_name (from 1 k)) fits (names_size k)

-- all are names of a preference file
pub written_allowed : (q k : ℕ) (names : List (List ℕ)) → k ≤ atom_limit Preference → All (λ x. T (allowed Preference x)) names → All (λ x. T (allowed Preference x)) (written_names q k names)
unfolding written_names
written_allowed q k names few h =
    let Allowed : List ℕ → Type 0 = λ x. T (allowed Preference x) in
    let made = map made_name (from 1 k) in
    let parts : All Allowed (take q names ++ drop q names) = subst (All Allowed) (sym (take-append-drop q names)) h in
    let new : All Allowed made = all_map Allowed made_name (from 1 k) (all_from (λ t. Allowed (made_name t)) 1 k (λ t l u. made_allowed t l (omega arith) Preference)) in
    all_app Allowed (take q names) (made ++ drop q names) (all_app_l Allowed (take q names) (drop q names) parts) (all_app Allowed made (drop q names) new (all_app_r Allowed (take q names) (drop q names) parts))
