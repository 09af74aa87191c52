-- A set of the planner's atoms is extended to the T atoms in exactly one way that gives each its condition's truth.
use Prim.Native.Nat.{ℕ}
use mathlib.Core.Path.{◌≡◌, refl, sym, ap, ap₂, ◌∙◌, subst}
use mathlib.Core.List.{List, [], ◌∷◌, ◌++◌, map, map-append}
use mathlib.Core.Bool.{Bool, false, cond, not, ◌&&◌, ◌||◌}
use mathlib.Core.Logic.{◌≢◌}
use lib.Dec.{eqb}
use borrow.Author.Tests.{eq-eqb, ne_eqb}
use Rattle.rules.specs.Lists.{All, Distinct, flat}
use Rattle.rules.proofs.Lists.{all_imp, all_both, all_app_l, all_app_r, all_map, map_all}
use Rattle.conditions.specs.Conditions.{Atom, planner, made, Cond, name, NOT, AND, OR, Statement, states, when, truth, connectives, made_atoms, names_of, statement_names}
use Rattle.conditions.specs.Readings.{cut_down}
use Rattle.conditions.proofs.Values.{values, statement_values, Has, Valued}

abbrev pub first : ℕ × Bool → ℕ
first v = v.0

-- the values are those of the T atoms, in their order
pub values_of : (m : ℕ → Bool) (c : Cond) → map first (values m c) ≡ connectives c
unfolding values connectives
values_of m (name a) = refl
values_of m (NOT t c) = ap (λ (r : List ℕ). t ∷ r) (values_of m c)
values_of m (AND l t r) = map-append first (values m l) ((t, truth m (AND l t r)) ∷ values m r) ∙ ap₂ (λ (p q : List ℕ). p ++ (t ∷ q)) (values_of m l) (values_of m r)
values_of m (OR l t r) = map-append first (values m l) ((t, truth m (OR l t r)) ∷ values m r) ∙ ap₂ (λ (p q : List ℕ). p ++ (t ∷ q)) (values_of m l) (values_of m r)

pub all_values_of : (m : ℕ → Bool) (ls : List Statement) → map first (flat (statement_values m) ls) ≡ made_atoms ls
all_values_of m [] = refl
all_values_of m (states r ∷ ls) = all_values_of m ls
all_values_of m (when c a ∷ ls) = map-append first (values m c) (flat (statement_values m) ls) ∙ ap₂ (λ (p q : List ℕ). p ++ q) (values_of m c) (all_values_of m ls)

-- the value that a list gives to a T
pub lookup : ℕ → List (ℕ × Bool) → Bool
lookup t [] = false
lookup t (v ∷ vs) = cond (eqb v.0 t) v.1 (lookup t vs)

lookup_law : (vs : List (ℕ × Bool)) → Distinct (map first vs) → All (λ v. lookup v.0 vs ≡ v.1) vs
unfolding lookup
lookup_law [] d = tt
lookup_law (v ∷ vs) d = (
  ap (λ (b : Bool). cond b v.1 (lookup v.0 vs)) (eq-eqb v.0 v.0 refl),
  all_imp (λ w. (v.0 ≢ w.0) × (lookup w.0 vs ≡ w.1)) (λ w. lookup w.0 (v ∷ vs) ≡ w.1)
      (λ w h. ap (λ (b : Bool). cond b v.1 (lookup w.0 vs)) (ne_eqb v.0 w.0 h.0) ∙ h.1) vs
      (all_both (λ w. v.0 ≢ w.0) (λ w. lookup w.0 vs ≡ w.1) vs (map_all (λ y. v.0 ≢ y) first vs d.0) (lookup_law vs d.1)),
)

-- m with each T at its condition's truth
abbrev pub extended : (ℕ → Bool) → List Statement → Atom → Bool
extended m ls (planner a) = m a
extended m ls (made t) = lookup t (flat (statement_values m) ls)

pub extended_valued : (m : ℕ → Bool) (ls : List Statement) → Distinct (made_atoms ls) → Valued (extended m ls) ls
extended_valued m ls d = lookup_law (flat (statement_values m) ls) (subst Distinct (sym (all_values_of m ls)) d)

-- x is m on the planner's atoms
abbrev pub Extends : (Atom → Bool) → (ℕ → Bool) → Type 0
Extends x m = (a : ℕ) → cut_down x a ≡ m a

-- a truth turns only on the names of its condition

pub truth_congr : (m n : ℕ → Bool) (c : Cond) → All (λ a. m a ≡ n a) (names_of c) → truth m c ≡ truth n c
unfolding truth names_of
truth_congr m n (name a) h = h.0
truth_congr m n (NOT t c) h = ap not (truth_congr m n c h)
truth_congr m n (AND l t r) h = ap₂ (◌&&◌) (truth_congr m n l (all_app_l (λ a. m a ≡ n a) (names_of l) (names_of r) h)) (truth_congr m n r (all_app_r (λ a. m a ≡ n a) (names_of l) (names_of r) h))
truth_congr m n (OR l t r) h = ap₂ (◌||◌) (truth_congr m n l (all_app_l (λ a. m a ≡ n a) (names_of l) (names_of r) h)) (truth_congr m n r (all_app_r (λ a. m a ≡ n a) (names_of l) (names_of r) h))

module _ (m n : ℕ → Bool) where
  abbrev Same : ℕ → Type 0
  Same a = m a ≡ n a

  pub values_congr : (c : Cond) → All Same (names_of c) → values m c ≡ values n c
  unfolding truth values names_of
  values_congr (name a) h = refl
  values_congr (NOT t c) h = ap₂ (λ (b : Bool) (vs : List (ℕ × Bool)). (t, not b) ∷ vs) (truth_congr m n c h) (values_congr c h)
  values_congr (AND l t r) h =
      let hl = all_app_l Same (names_of l) (names_of r) h in
      let hr = all_app_r Same (names_of l) (names_of r) h in
      ap₂ (λ (p q : List (ℕ × Bool)). p ++ q) (values_congr l hl) (ap₂ (λ (b : Bool) (vs : List (ℕ × Bool)). (t, b) ∷ vs) (ap₂ (◌&&◌) (truth_congr m n l hl) (truth_congr m n r hr)) (values_congr r hr))
  values_congr (OR l t r) h =
      let hl = all_app_l Same (names_of l) (names_of r) h in
      let hr = all_app_r Same (names_of l) (names_of r) h in
      ap₂ (λ (p q : List (ℕ × Bool)). p ++ q) (values_congr l hl) (ap₂ (λ (b : Bool) (vs : List (ℕ × Bool)). (t, b) ∷ vs) (ap₂ (◌||◌) (truth_congr m n l hl) (truth_congr m n r hr)) (values_congr r hr))

  pub all_values_congr : (ls : List Statement) → All Same (flat statement_names ls) → flat (statement_values m) ls ≡ flat (statement_values n) ls
  all_values_congr [] h = refl
  all_values_congr (states r ∷ ls) h = all_values_congr ls (all_app_r Same (statement_names (states r)) (flat statement_names ls) h)
  all_values_congr (when c a ∷ ls) h =
      ap₂ (λ (p q : List (ℕ × Bool)). p ++ q) (values_congr c (all_app_l Same (names_of c) (a ∷ []) (all_app_l Same (statement_names (when c a)) (flat statement_names ls) h)))
      (all_values_congr ls (all_app_r Same (statement_names (when c a)) (flat statement_names ls) h))

-- two sets with the same cut, as far as the lines name it, in which each T is its condition's truth agree on every T
pub valued_once : (x y : Atom → Bool) (ls : List Statement) → All (λ a. cut_down x a ≡ cut_down y a) (flat statement_names ls) → Valued x ls → Valued y ls → All (λ t. x (made t) ≡ y (made t)) (made_atoms ls)
valued_once x y ls e hx hy =
    let vs = flat (statement_values (cut_down y)) ls in
    let hx' : All (Has x) vs = subst (All (Has x)) (all_values_congr (cut_down x) (cut_down y) ls e) hx in
    subst (All (λ t. x (made t) ≡ y (made t))) (all_values_of (cut_down y) ls)
    (all_map (λ t. x (made t) ≡ y (made t)) first vs (all_imp (λ v. Has x v × Has y v) (λ v. x (made v.0) ≡ y (made v.0)) (λ v h. h.0 ∙ sym h.1) vs (all_both (Has x) (Has y) vs hx' hy)))
