-- A Boolean test and what it says.
use mathlib.Core.Path.{◌≡◌, refl, sym, subst}
use mathlib.Core.Bool.{Bool, true, false, not, ◌&&◌, ◌||◌}
use mathlib.Core.Logic.{◌⊎◌, inl, inr}
use Prim.Native.Nat.{ℕ}
use lib.Dec.{T, eqb, eqb_refl}

pub decide : (b : Bool) → T b ⊎ (T b → ⊥)
decide true = inl tt
decide false = inr (λ e. e)

pub stable : (b : Bool) → ((T b → ⊥) → ⊥) → T b
stable true h = tt
stable false h = h (λ e. e)

pub T_of : {a b : Bool} → a ≡ b → T a → T b
T_of e h = subst T e h

pub bool_ext : (a b : Bool) → (T a → T b) → (T b → T a) → a ≡ b
bool_ext true true f g = refl
bool_ext true false f g = absurd (f tt)
bool_ext false true f g = absurd (g tt)
bool_ext false false f g = refl

pub T-not-in : (b : Bool) → (T b → ⊥) → T (not b)
T-not-in true h = h tt
T-not-in false h = tt

pub T-not-out : (b : Bool) → T (not b) → T b → ⊥
T-not-out true h k = h
T-not-out false h k = k

pub T_and : (a b : Bool) → T a → T b → T (a && b)
T_and true b h k = k
T_and false b h k = h

pub T-and-l : (a b : Bool) → T (a && b) → T a
T-and-l true b h = tt
T-and-l false b h = h

pub T-and-r : (a b : Bool) → T (a && b) → T b
T-and-r true b h = h
T-and-r false b h = absurd h

pub T-or : (a b : Bool) → T a ⊎ T b → T (a || b)
T-or true b h = tt
T-or false b (inl h) = absurd h
T-or false b (inr h) = h

pub T-or-out : (a b : Bool) → T (a || b) → T a ⊎ T b
T-or-out true b h = inl tt
T-or-out false b h = inr h

-- an implication, written as a test
pub T-imp : (a b : Bool) → (T a → T b) → T (not a || b)
T-imp true b f = f tt
T-imp false b f = tt

pub T-imp-out : (a b : Bool) → T (not a || b) → T a → T b
T-imp-out true b h t = h
T-imp-out false b h t = absurd t

pub eq_to_eqb : (m n : ℕ) → m ≡ n → T (eqb m n)
eq_to_eqb m n e = subst (λ (j : ℕ). T (eqb m j)) e (eqb_refl m)

-- as equations

pub is_true_lem : (b : Bool) → T b → b ≡ true
is_true_lem true h = refl
is_true_lem false h = absurd h

pub is_false : (b : Bool) → (T b → ⊥) → b ≡ false
is_false true h = absurd (h tt)
is_false false h = refl

pub both_true : (a b : Bool) → (a && b) ≡ true → (a ≡ true) × (b ≡ true)
both_true true b e = (refl, e)
both_true false b e = absurd (T_of (sym e) tt)

pub or_assoc : (a b c : Bool) → (a || (b || c)) ≡ ((a || b) || c)
or_assoc true b c = refl
or_assoc false b c = refl

pub or-true : (b : Bool) → (b || true) ≡ true
or-true true = refl
or-true false = refl

pub or-false : (b : Bool) → (b || false) ≡ b
or-false true = refl
or-false false = refl

pub and-false : (b : Bool) → (b && false) ≡ false
and-false true = refl
and-false false = refl

pub and_comm : (a b : Bool) → (a && b) ≡ (b && a)
and_comm true true = refl
and_comm true false = refl
and_comm false true = refl
and_comm false false = refl
