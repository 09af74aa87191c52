-- What one more atom adds to a place, and to the set at a place.
use Prim.Native.Nat.{ℕ, zero, suc, ◌+◌, ◌*◌, ◌^◌, ◌≤◌, ◌<◌}
use mathlib.Core.Path.{◌≡◌, refl, sym, ap, ap₂, ◌∙◌}
use mathlib.Core.Bool.{Bool, cond}
use native.Mathlib.Omega.{arith}
use native.Mathlib.Nat.{pow-suc}
use lib.Pow.{pow_mono}
use Rattle.rules.specs.Lists.{from}
use Rattle.rules.specs.Sets.{has}
use Rattle.rules.proofs.Lists.{all_from, sum_eq}
use Rattle.rules.proofs.Sets.{digit}
use Rattle.places.specs.Places.{mirror, place, set_at}
use Rattle.places.proofs.Places.{place_last}
use Rattle.choices.proofs.MoreAtoms.{top_out, top_in, low_in, wide_in}

-- only the first n atoms count
pub place_same : (n x y : ℕ) → ((a : ℕ) → a < n → has x a ≡ has y a) → place n x ≡ place n y
unfolding place
place_same n x y h =
    sum_eq (λ i. cond (has x i) (2 ^ mirror n i) 0) (λ i. cond (has y i) (2 ^ mirror n i) 0) (from 0 n)
    (all_from (λ i. cond (has x i) (2 ^ mirror n i) 0 ≡ cond (has y i) (2 ^ mirror n i) 0) 0 n (λ i l u. ap (λ (b : Bool). cond b (2 ^ mirror n i) 0) (h i (omega arith))))

-- with n atoms, an atom that has k after it adds 2^k
pub place_in : (d k n x : ℕ) → suc d + k ≡ n → x < 2 ^ d → place n (x + 2 ^ d) ≡ place n x + 2 ^ k
place_in d zero n x e h =
    let f : n ≡ suc d = omega arith in
    let here : place (suc d) (x + 2 ^ d) ≡ 1 + 2 * place d x = place_last d (x + 2 ^ d) ∙ ap₂ (λ (b : Bool) (p : ℕ). digit b + 2 * p) (top_in d x h) (place_same d (x + 2 ^ d) x (λ a l. low_in d x a h l)) in
    let there : place (suc d) x ≡ 0 + 2 * place d x = place_last d x ∙ ap (λ (b : Bool). digit b + 2 * place d x) (top_out d x h) in
    ap (λ (j : ℕ). place j (x + 2 ^ d)) f ∙ (let q : place (suc d) (x + 2 ^ d) ≡ place (suc d) x + 2 ^ 0 = omega arith in q) ∙ ap (λ (j : ℕ). place j x + 2 ^ 0) (sym f)
place_in d (suc k) n x e h = go (suc d + k) (omega arith) (place_in d k (suc d + k) x refl h)
  where
    go : (j : ℕ) → suc j ≡ n → place j (x + 2 ^ d) ≡ place j x + 2 ^ k → place n (x + 2 ^ d) ≡ place n x + 2 ^ suc k
    go j f r =
        let u : 2 ^ suc d ≤ 2 ^ j = pow_mono (omega arith) in
        let here : place (suc j) (x + 2 ^ d) ≡ 0 + 2 * place j (x + 2 ^ d) = place_last j (x + 2 ^ d) ∙ ap (λ (b : Bool). digit b + 2 * place j (x + 2 ^ d)) (top_out j (x + 2 ^ d) (omega (arith, wide_in d x h))) in
        let there : place (suc j) x ≡ 0 + 2 * place j x = place_last j x ∙ ap (λ (b : Bool). digit b + 2 * place j x) (top_out j x (omega (arith, wide_in d x h))) in
        ap (λ (i : ℕ). place i (x + 2 ^ d)) (sym f) ∙ (let q : place (suc j) (x + 2 ^ d) ≡ place (suc j) x + 2 ^ suc k = omega (arith, pow-suc 2 k) in q) ∙ ap (λ (i : ℕ). place i x + 2 ^ suc k) f

-- places of the first half have sets without the first atom, those of the second half with it
pub set_low : (k q : ℕ) → q < 2 ^ k → set_at (suc k) q ≡ 2 * set_at k q
set_low k q h = place_last k q ∙ ap (λ (b : Bool). digit b + 2 * place k q) (top_out k q h) ∙ (omega arith)

pub set_high : (k q : ℕ) → q < 2 ^ k → set_at (suc k) (2 ^ k + q) ≡ 1 + 2 * set_at k q
set_high k q h =
    let e : 2 ^ k + q ≡ q + 2 ^ k = omega arith in
    ap (place (suc k)) e ∙ place_last k (q + 2 ^ k) ∙ ap₂ (λ (b : Bool) (p : ℕ). digit b + 2 * p) (top_in k q h) (place_same k (q + 2 ^ k) q (λ a l. low_in k q a h l))
