-- The class words with those of the T atoms among them are of the form: no word falls.
use Prim.Native.Nat.{ℕ, zero, suc, ◌+◌, ◌≤◌}
use native.Mathlib.Omega.{arith}
use native.Mathlib.Decide.{ℕ_discrete, dec_le}
use mathlib.Core.Path.{◌≡◌, refl, sym, ap, subst}
use mathlib.Core.List.{List, [], ◌∷◌, ◌++◌}
use mathlib.Core.Bool.{Bool, true, false, not}
use mathlib.Core.Logic.{◌≢◌}
use lib.Dec.{eqb}
use lib.ListN.{length, take, drop, replicate, take-append-drop}
use borrow.Author.Tests.{eqb-true, eqb-false}
use Rattle.kinds.specs.Limits.{class_limit, varying, fixed}
use Rattle.kinds.specs.declared.limits.Kind.TheVariants.{Preference}
use Rattle.rules.specs.Lists.{All, keep, filter}
use Rattle.rules.proofs.Booleans.{eq_to_eqb, T-not-out}
use Rattle.rules.proofs.Lists.{all_imp, all_app, all_app_l, all_app_r}
use Rattle.rules.proofs.Filtered.{filter_none, filter_length}
use Rattle.stores.specs.Program.{ClassesForm, RoleForm, NeverFalling, role_of}
use Rattle.stores.proofs.ClassWord.{above, varies}
use Rattle.conditions.specs.Numbers.{unfixed, placed_words}
use Rattle.conditions.proofs.Placed.{words_length}

abbrev pub Unfixed : ℕ → Type 0
Unfixed w = w ≤ varying

abbrev pub Fixed : ℕ → Type 0
Fixed w = w ≡ fixed

abbrev is_unfixed : ℕ → Bool
is_unfixed w = not (eqb w fixed)

pub word_high : (k w : ℕ) → RoleForm k (role_of w) → w ≤ fixed
word_high k w h = step (dec_le w class_limit) (ℕ_discrete w varying) (ℕ_discrete w fixed)
  where
    step : Dec (w ≤ class_limit) → Dec (w ≡ varying) → Dec (w ≡ fixed) → w ≤ fixed
    step (yes l) d e = omega arith
    step (no l) (yes d) e = omega arith
    step (no l) (no d) (yes e) = omega arith
    step (no l) (no d) (no e) = absurd (subst (RoleForm k) (sym (above w (omega arith) d e)) h)

-- the unfixed words are the first ones

pub none_unfixed : (ws : List ℕ) → All Fixed ws → unfixed ws ≡ 0
unfolding unfixed
none_unfixed ws h = ap length (filter_none is_unfixed ws (all_imp Fixed _ (λ w e t. T-not-out (eqb w fixed) t (eq_to_eqb w fixed e)) ws h))

all_fixed : (ws : List ℕ) → All (λ w. w ≤ fixed) ws → NeverFalling fixed ws → All Fixed ws
all_fixed [] u h = tt
all_fixed (w ∷ ws) u h = let e : w ≡ fixed = omega (arith, u.0, h.0) in (e, all_fixed ws u.1 (subst (λ (b : ℕ). NeverFalling b ws) e h.1))

pub unfixed_parts : (b : ℕ) (ws : List ℕ) → All (λ w. w ≤ fixed) ws → NeverFalling b ws → All Unfixed (take (unfixed ws) ws) × All Fixed (drop (unfixed ws) ws)
unfolding unfixed
unfixed_parts b [] u h = (tt, tt)
unfixed_parts b (w ∷ ws) u h = step (eqb w fixed) refl (unfixed_parts w ws u.1 h.1)
  where
    rest : List ℕ
    rest = filter is_unfixed ws

    step : (c : Bool) → eqb w fixed ≡ c → All Unfixed (take (length rest) ws) × All Fixed (drop (length rest) ws)
        → All Unfixed (take (length (keep (not c) w rest)) (w ∷ ws)) × All Fixed (drop (length (keep (not c) w rest)) (w ∷ ws))
    step true e r =
        let f : w ≡ fixed = eqb-true w fixed e in
        let all = all_fixed ws u.1 (subst (λ (i : ℕ). NeverFalling i ws) f h.1) in
        subst (λ (i : ℕ). All Unfixed (take i (w ∷ ws)) × All Fixed (drop i (w ∷ ws))) (sym (none_unfixed ws all)) (tt, (f, all))
    step false e r = let f : w ≢ fixed = eqb-false w fixed e in ((omega (arith, u.0), r.0), r.1)

pub unfixed_le : (ws : List ℕ) → unfixed ws ≤ length ws
unfolding unfixed
unfixed_le ws = filter_length is_unfixed ws

-- and the others the last ones
pub unfixed_app : (xs ys : List ℕ) → All Unfixed xs → All Fixed ys → unfixed (xs ++ ys) ≡ length xs
unfolding unfixed
unfixed_app [] ys h k = none_unfixed ys k
unfixed_app (x ∷ xs) ys h k = step (eqb x fixed) refl (unfixed_app xs ys h.1 k)
  where
    step : (c : Bool) → eqb x fixed ≡ c → length (filter is_unfixed (xs ++ ys)) ≡ length xs → length (keep (not c) x (filter is_unfixed (xs ++ ys))) ≡ suc (length xs)
    step true e r = let f : x ≡ fixed = eqb-true x fixed e in absurd (omega (arith, h.0))
    step false e r = ap suc r

-- the words with k varying ones between

fixed_last : (b : ℕ) (ws : List ℕ) → b ≤ fixed → All Fixed ws → NeverFalling b ws
fixed_last b [] l h = tt
fixed_last b (w ∷ ws) l h = (omega (arith, h.0), fixed_last w ws (omega (arith, h.0)) h.1)

varying_first : (k b : ℕ) (ws : List ℕ) → b ≤ varying → All Fixed ws → NeverFalling b (replicate k varying ++ ws)
varying_first zero b ws l h = fixed_last b ws (omega arith) h
varying_first (suc k) b ws l h = (l, varying_first k varying ws (omega arith) h)

rising : (q k b : ℕ) (ws : List ℕ) → b ≤ varying → NeverFalling b ws → All Unfixed (take q ws) → All Fixed (drop q ws) → NeverFalling b (placed_words q k ws)
unfolding placed_words
rising zero k b ws l h u f = varying_first k b ws l f
rising (suc q) k b [] l h u f = varying_first k b [] l tt
rising (suc q) k b (w ∷ ws) l h u f = (h.0, rising q k w ws u.0 h.1 u.1 f)

roles : (P : ℕ → Type 0) (q k : ℕ) (ws : List ℕ) → P varying → All P ws → All P (placed_words q k ws)
unfolding placed_words
roles P q k ws v h =
    let s : All P (take q ws ++ drop q ws) = subst (All P) (sym (take-append-drop q ws)) h in
    all_app P (take q ws) (replicate k varying ++ drop q ws) (all_app_l P (take q ws) (drop q ws) s) (all_app P (replicate k varying) (drop q ws) (each k) (all_app_r P (take q ws) (drop q ws) s))
  where
    each : (k : ℕ) → All P (replicate k varying)
    each zero = tt
    each (suc k) = (v, each k)

module _ (classes : ℕ) (ws : List ℕ) (form : ClassesForm Preference (length ws) classes ws) where
  pub words_high : All (λ w. w ≤ fixed) ws
  words_high = all_imp (λ w. RoleForm classes (role_of w)) (λ w. w ≤ fixed) (word_high classes) ws form.2

  pub placed_classes : (k : ℕ) → ClassesForm Preference (length ws + k) classes (placed_words (unfixed ws) k ws)
  placed_classes k =
      let parts = unfixed_parts 0 ws words_high form.3 in (
        form.0,
        words_length (unfixed ws) k ws (unfixed_le ws),
        roles (λ w. RoleForm classes (role_of w)) (unfixed ws) k ws (subst (RoleForm classes) (varies varying refl) tt) form.2,
        rising (unfixed ws) k 0 ws (omega arith) form.3 parts.0 parts.1,
      )
