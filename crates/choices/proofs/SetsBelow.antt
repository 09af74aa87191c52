-- All sets below a choice, in the order of their places.
use Prim.Native.Nat.{ℕ, zero, suc, ◌+◌, ◌*◌, ◌^◌, ◌<◌}
use mathlib.Core.Path.{◌≡◌, refl, sym, ap, ap₂, ◌∙◌, subst}
use mathlib.Core.List.{List, [], ◌∷◌, ◌++◌, map, map-append}
use native.Mathlib.Omega.{arith}
use native.Mathlib.Nat.{pow-suc, mul_assoc, mul-add, mul-one, mul-zero, add_assoc}
use Rattle.rules.specs.Lists.{All, from}
use Rattle.rules.proofs.Lists.{all_app, all_imp, from_append}
use Rattle.places.specs.Places.{set_at}
use Rattle.places.proofs.Places.{place_zero}
use Rattle.choices.proofs.MoreAtoms.{low_in, wide_out, wide_in, Extends}
use Rattle.choices.proofs.MorePlaces.{set_low, set_high}

unfoldable pub sets : ℕ → ℕ → ℕ → List ℕ
sets zero d x = x ∷ []
sets (suc left) d x = sets left (suc d) x ++ sets left (suc d) (x + 2 ^ d)

pub sets_extend : (n left d x : ℕ) → d + left ≡ n → x < 2 ^ d → All (Extends n d x) (sets left d x)
unfolding sets
sets_extend n zero d x e h = (record { set = subst (λ (j : ℕ). x < 2 ^ j) (let f : d ≡ n = omega arith in f) h; same = λ a l. refl }, tt)
sets_extend n (suc left) d x e h =
    all_app (Extends n d x) (sets left (suc d) x) (sets left (suc d) (x + 2 ^ d))
    (all_imp (Extends n (suc d) x) (Extends n d x) (λ s r. record { set = r.set; same = λ a l. r.same a (omega arith) }) (sets left (suc d) x) (sets_extend n left (suc d) x (omega arith) (wide_out d x h)))
    (all_imp (Extends n (suc d) (x + 2 ^ d)) (Extends n d x) (λ s r. record { set = r.set; same = λ a l. r.same a (omega arith) ∙ low_in d x a h l }) (sets left (suc d) (x + 2 ^ d)) (sets_extend n left (suc d) (x + 2 ^ d) (omega arith) (wide_in d x h)))

map_from : (f g : ℕ → ℕ) (s t c : ℕ) → ((q : ℕ) → q < c → f (s + q) ≡ g (t + q)) → map f (from s c) ≡ map g (from t c)
map_from f g s t zero h = refl
map_from f g s t (suc c) h =
    let a : s + 0 ≡ s = omega arith in
    let b : t + 0 ≡ t = omega arith in
    ap₂ (λ (x : ℕ) (r : List ℕ). x ∷ r) (sym (ap f a) ∙ h 0 (omega arith) ∙ ap g b)
    (map_from f g (suc s) (suc t) c (λ i l.
    let p : suc s + i ≡ s + suc i = omega arith in
    let q : t + suc i ≡ suc t + i = omega arith in
    ap f p ∙ h (suc i) (omega arith) ∙ ap g q))

sets_map : (k d x : ℕ) → sets k d x ≡ map (λ p. x + 2 ^ d * set_at k p) (from 0 (2 ^ k))
unfolding sets
sets_map zero d x = let e : x ≡ x + 2 ^ d * set_at 0 0 = (let z : 2 ^ d * set_at 0 0 ≡ 0 = ap (λ (p : ℕ). 2 ^ d * p) (place_zero 0) ∙ mul-zero (2 ^ d) in omega arith) in ap (λ (y : ℕ). y ∷ []) e
sets_map (suc k) d x =
    ap₂ (λ (l r : List ℕ). l ++ r)
    (sets_map k (suc d) x ∙ map_from (λ p. x + 2 ^ suc d * set_at k p) (λ p. x + 2 ^ d * set_at (suc k) p) 0 0 (2 ^ k) (λ q l.
    let z : 0 + q ≡ q = omega arith in
    ap (λ (p : ℕ). x + 2 ^ suc d * set_at k p) z ∙ low q l ∙ ap (λ (p : ℕ). x + 2 ^ d * set_at (suc k) p) (sym z)))
    (sets_map k (suc d) (x + 2 ^ d) ∙ map_from (λ p. x + 2 ^ d + 2 ^ suc d * set_at k p) (λ p. x + 2 ^ d * set_at (suc k) p) 0 (0 + 2 ^ k) (2 ^ k) (λ q l.
    let z : 0 + q ≡ q = omega arith in
    let w : 2 ^ k + q ≡ 0 + 2 ^ k + q = omega arith in
    ap (λ (p : ℕ). x + 2 ^ d + 2 ^ suc d * set_at k p) z ∙ high q l ∙ ap (λ (p : ℕ). x + 2 ^ d * set_at (suc k) p) w))
    ∙ sym (map-append (λ p. x + 2 ^ d * set_at (suc k) p) (from 0 (2 ^ k)) (from (0 + 2 ^ k) (2 ^ k)))
    ∙ ap (map (λ p. x + 2 ^ d * set_at (suc k) p)) (from_append 0 (2 ^ k) (2 ^ k) ∙ ap (from 0) twice)
  where
    twice : 2 ^ k + 2 ^ k ≡ 2 ^ suc k
    twice = omega (arith, pow-suc 2 k)

    wider : (z : ℕ) → 2 ^ suc d * z ≡ 2 ^ d * (2 * z)
    wider z = ap (λ (y : ℕ). y * z) (pow-suc 2 d) ∙ mul_assoc (2 ^ d) 2 z

    low : (q : ℕ) → q < 2 ^ k → x + 2 ^ suc d * set_at k q ≡ x + 2 ^ d * set_at (suc k) q
    low q l = ap (λ (y : ℕ). x + y) (wider (set_at k q) ∙ ap (λ (y : ℕ). 2 ^ d * y) (sym (set_low k q l)))

    high : (q : ℕ) → q < 2 ^ k → x + 2 ^ d + 2 ^ suc d * set_at k q ≡ x + 2 ^ d * set_at (suc k) (2 ^ k + q)
    high q l =
        ap (λ (y : ℕ). x + 2 ^ d + y) (wider (set_at k q))
        ∙ add_assoc x (2 ^ d) (2 ^ d * (2 * set_at k q))
        ∙ ap (λ (y : ℕ). x + y) (ap (λ (y : ℕ). y + 2 ^ d * (2 * set_at k q)) (sym (mul-one (2 ^ d))) ∙ sym (mul-add (2 ^ d) 1 (2 * set_at k q)) ∙ ap (λ (y : ℕ). 2 ^ d * y) (sym (set_high k q l)))

pub sets_place : (n : ℕ) → sets n 0 0 ≡ map (set_at n) (from 0 (2 ^ n))
sets_place n = sets_map n 0 0 ∙ map_from (λ p. 0 + 2 ^ 0 * set_at n p) (set_at n) 0 0 (2 ^ n) (λ q l. omega arith)
