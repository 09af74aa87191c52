-- The masks of n atoms are below 2^n.
use Prim.Native.Nat.{ℕ, ◌^◌, ◌<◌}
use mathlib.Core.Bool.{Bool, true, false, cond}
use mathlib.Core.List.{List, [], ◌∷◌, map}
use native.Mathlib.Omega.{arith}
use lib.Pow.{pow-lt, pow_pos}
use lib.Bits.{bit_or, or_lt}
use Rattle.rules.specs.Lists.{All}
use Rattle.rules.specs.Rules.{Rule}
use Rattle.rules.specs.Renumbering.{Within}
use Rattle.rules.proofs.Lists.{all_imp, all_map}
use Rattle.places.specs.Places.{mirror}
use Rattle.masks.specs.Masks.{mask_of, breakable, place_mask, care_of, care_at}

mask_lt : (n : ℕ) (xs : List ℕ) → All (λ a. a < n) xs → mask_of xs < 2 ^ n
unfolding mask_of
mask_lt n [] h = pow_pos n
mask_lt n (a ∷ xs) h = or_lt n (2 ^ a) (mask_of xs) (pow-lt h.0) (mask_lt n xs h.1)

place_mask_lt : (n : ℕ) (xs : List ℕ) → All (λ a. a < n) xs → place_mask n xs < 2 ^ n
place_mask_lt n xs h = mask_lt n (map (mirror n) xs) (all_map (λ a. a < n) (mirror n) xs (all_imp (λ a. a < n) (λ a. mirror n a < n) (λ a l. omega arith) xs h))

care_lt : (n : ℕ) (r : Rule ℕ) → Within (λ a. a < n) r → care_at n r < 2 ^ n
unfolding care_of
care_lt n r h = step (breakable (place_mask n r.head) (place_mask n r.body))
  where
    step : (b : Bool) → cond b (bit_or (place_mask n r.head) (place_mask n r.body)) 0 < 2 ^ n
    step true = or_lt n (place_mask n r.head) (place_mask n r.body) (place_mask_lt n r.head h.head) (place_mask_lt n r.body h.body)
    step false = pow_pos n

pub cares_lt : (n : ℕ) (rs : List (Rule ℕ)) → All (Within (λ a. a < n)) rs → All (λ c. c < 2 ^ n) (map (care_at n) rs)
cares_lt n rs h = all_map (λ c. c < 2 ^ n) (care_at n) rs (all_imp (Within (λ a. a < n)) (λ r. care_at n r < 2 ^ n) (λ r w. care_lt n r w) rs h)
