-- Below a choice that lies wholly before the start everything does; when the choices next below it do.
use Prim.Native.Nat.{ℕ, suc, ◌+◌, ◌-◌, ◌^◌, ◌≤◌, ◌<◌}
use mathlib.Core.Path.{◌≡◌, ap, ◌∙◌}
use mathlib.Core.Bool.{not}
use mathlib.Core.List.{[]}
use native.Mathlib.Omega.{arith}
use native.Mathlib.Nat.{pow-suc}
use lib.Dec.{T, leb, leb→le, le→leb}
use Rattle.rules.specs.Lists.{All, filter}
use Rattle.rules.proofs.Booleans.{T-not-out}
use Rattle.rules.proofs.Lists.{all_imp}
use Rattle.places.specs.Places.{place}
use Rattle.choices.specs.Choices.{Choice, choice, Course, visited, is_before}
use Rattle.rules.proofs.Filtered.{filter_none}
use Rattle.choices.proofs.MorePlaces.{place_in}
use Rattle.choices.proofs.Trees.{visited_all}

-- the places of k are among those of the choice (d, x)
pub record Among (n d x : ℕ) (k : Choice) : Type 0 where
  pub first : place n x ≤ place n k.taken
  pub last : place n k.taken + 2 ^ (n - k.decided) ≤ place n x + 2 ^ (n - d)

half : (n d left : ℕ) → suc d + left ≡ n → 2 ^ (n - suc d) ≡ 2 ^ left
half n d left e = let f : n - suc d ≡ left = omega arith in ap (λ (j : ℕ). 2 ^ j) f

twice : (n d left : ℕ) → suc d + left ≡ n → 2 ^ (n - d) ≡ 2 ^ left + 2 ^ left
twice n d left e = let f : n - d ≡ suc left = omega arith in ap (λ (j : ℕ). 2 ^ j) f ∙ (omega (arith, pow-suc 2 left))

pub visited_among : (c : Course) (n left d x : ℕ) → d + left ≡ n → x < 2 ^ d → All (Among n d x) (visited c left d x)
visited_among c n left d x e h = visited_all n (Among n)
    (λ d x l h. record { first = omega arith; last = omega arith })
    (λ d left x e h k r. record { first = r.first; last = omega (arith, r.last, half n d left e, twice n d left e) })
    (λ d left x e h k r. record { first = omega (arith, r.first, place_in d left n x e h); last = omega (arith, r.last, place_in d left n x e h, half n d left e, twice n d left e) })
    c left d x e h

pub none_before : (c : Course) (n start left d x : ℕ) → d + left ≡ n → x < 2 ^ d → T (is_before n start (choice d x)) → filter (λ k. not (is_before n start k)) (visited c left d x) ≡ []
none_before c n start left d x e h t =
    let above : place n x + 2 ^ (n - d) ≤ start = leb→le (place n x + 2 ^ (n - d)) start t in
    filter_none (λ k. not (is_before n start k)) (visited c left d x) (all_imp (Among n d x) (λ k. T (not (is_before n start k)) → ⊥)
    (λ k r q. T-not-out (is_before n start k) q (le→leb (place n k.taken + 2 ^ (n - k.decided)) start (omega (arith, r.last))))
    (visited c left d x) (visited_among c n left d x e h))

-- a final choice has one place
pub before_final : (n start s : ℕ) → is_before n start (choice n s) ≡ leb (suc (place n s)) start
before_final n start s =
    let z : n - n ≡ 0 = omega arith in
    let one : 2 ^ (n - n) ≡ 1 = ap (λ (j : ℕ). 2 ^ j) z in
    let q : place n s + 2 ^ (n - n) ≡ suc (place n s) = omega arith in
    ap (λ (p : ℕ). leb p start) q

-- with the next atom out, the places of the first half
pub before_out : (n start d k x : ℕ) → suc d + k ≡ n → is_before n start (choice (suc d) x) ≡ leb (place n x + 2 ^ k) start
before_out n start d k x e = ap (λ (w : ℕ). leb (place n x + w) start) (half n d k e)

-- with it in, those of the second half, so the last place is the same
pub before_in : (n start d k x : ℕ) → suc d + k ≡ n → x < 2 ^ d → is_before n start (choice (suc d) (x + 2 ^ d)) ≡ is_before n start (choice d x)
before_in n start d k x e h =
    let q : place n (x + 2 ^ d) + 2 ^ (n - suc d) ≡ place n x + 2 ^ (n - d) = omega (arith, place_in d k n x e h, half n d k e, twice n d k e) in
    ap (λ (p : ℕ). leb p start) q
