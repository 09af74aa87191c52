-- The choices visited: how they branch, and what all of them keep of the choice above.
use Prim.Native.Nat.{ℕ, zero, suc, ◌+◌, ◌^◌, ◌≤◌, ◌<◌}
use mathlib.Core.Path.{◌≡◌, refl, ◌∙◌}
use mathlib.Core.Bool.{Bool, true, false, cond}
use mathlib.Core.List.{List, [], ◌∷◌, ◌++◌}
use native.Mathlib.Omega.{arith}
use Rattle.rules.specs.Lists.{All}
use Rattle.rules.specs.Sets.{has}
use Rattle.rules.proofs.Lists.{all_app, all_imp}
use Rattle.choices.specs.Choices.{Choice, choice, Course, visited}
use Rattle.choices.proofs.MoreAtoms.{low_in, wide_out, wide_in}

-- what is visited with atom d decided as v, if it may be v
abbrev pub branch : Course → ℕ → Bool → ℕ → ℕ → List Choice
branch c d v left y = cond (c.may d v) (visited c left (suc d) y) []

pub visited_closed : (c : Course) (left d x : ℕ) → c.closed d x ≡ true → visited c left d x ≡ choice d x ∷ []
unfolding visited
visited_closed c zero d x e = refl
visited_closed c (suc left) d x e = rw e

pub visited_open : (c : Course) (left d x : ℕ) → c.closed d x ≡ false → visited c (suc left) d x ≡ choice d x ∷ (branch c d false left x ++ branch c d true left (x + 2 ^ d))
unfolding visited
visited_open c left d x e = rw e

pub all_branch : (P : Choice → Type 0) (c : Course) (d : ℕ) (v : Bool) (left y : ℕ) → All P (visited c left (suc d) y) → All P (branch c d v left y)
all_branch P c d v left y h = step (c.may d v)
  where
    step : (b : Bool) → All P (cond b (visited c left (suc d) y) [])
    step true = h
    step false = tt

-- what links a choice to itself, and to whatever the choices next below are linked to, links it to all that are visited from it
module _ (n : ℕ) (P : ℕ → ℕ → Choice → Type 0)
    (here : (d x : ℕ) → d ≤ n → x < 2 ^ d → P d x (choice d x))
    (out : (d left x : ℕ) → suc d + left ≡ n → x < 2 ^ d → (k : Choice) → P (suc d) x k → P d x k)
    (into : (d left x : ℕ) → suc d + left ≡ n → x < 2 ^ d → (k : Choice) → P (suc d) (x + 2 ^ d) k → P d x k) where
  pub visited_all : (c : Course) (left d x : ℕ) → d + left ≡ n → x < 2 ^ d → All (P d x) (visited c left d x)
  unfolding visited
  visited_all c zero d x e h = (here d x (omega arith) h, tt)
  visited_all c (suc left) d x e h = (
    here d x (omega arith) h,
    step (c.closed d x)
        (all_imp (P (suc d) x) (P d x) (out d left x deep h) (visited c left (suc d) x) (visited_all c left (suc d) x deep (wide_out d x h)))
        (all_imp (P (suc d) (x + 2 ^ d)) (P d x) (into d left x deep h) (visited c left (suc d) (x + 2 ^ d)) (visited_all c left (suc d) (x + 2 ^ d) deep (wide_in d x h))),
  )
    where
      deep : suc d + left ≡ n
      deep = omega arith

      step : (b : Bool) → All (P d x) (visited c left (suc d) x) → All (P d x) (visited c left (suc d) (x + 2 ^ d)) → All (P d x) (cond b [] (branch c d false left x ++ branch c d true left (x + 2 ^ d)))
      step true l r = tt
      step false l r = all_app (P d x) (branch c d false left x) (branch c d true left (x + 2 ^ d)) (all_branch (P d x) c d false left x l) (all_branch (P d x) c d true left (x + 2 ^ d) r)

-- k is a choice among n atoms that keeps the first d as x has them
pub record Below (n d x : ℕ) (k : Choice) : Type 0 where
  pub deeper : d ≤ k.decided
  pub inside : k.decided ≤ n
  pub set : k.taken < 2 ^ k.decided
  pub same : (a : ℕ) → a < d → has k.taken a ≡ has x a

pub visited_extend : (c : Course) (n left d x : ℕ) → d + left ≡ n → x < 2 ^ d → All (Below n d x) (visited c left d x)
visited_extend c n left d x e h = visited_all n (Below n)
    (λ d x l h. record { deeper = omega arith; inside = l; set = h; same = λ a l. refl })
    (λ d left x e h k r. record { deeper = let l = r.deeper in omega arith; inside = r.inside; set = r.set; same = λ a l. r.same a (omega arith) })
    (λ d left x e h k r. record { deeper = let l = r.deeper in omega arith; inside = r.inside; set = r.set; same = λ a l. r.same a (omega arith) ∙ low_in d x a h l })
    c left d x e h
