-- Rules and classes over masks: a list of atoms is one mask, and a rule is two.
use Rattle.std.specs.Prelude.{ℕ, ◌-◌, ◌^◌, Bool, false, not, cond, ◌&&◌, List, [], ◌∷◌, map, eqb, leb, length, get_or, set}
use Rattle.std.specs.Int.Bits.{bit_and, bit_or}
use Rattle.kinds.specs.Limits.{class_limit}
use Rattle.rules.specs.Lists.{from}
use Rattle.rules.specs.Rules.{Rule, rename, count_if}
use Rattle.rules.specs.Preferred.{of_class}
use Rattle.places.specs.Places.{mirror}

unfoldable pub mask_of : List ℕ → ℕ
mask_of [] = 0
mask_of (a ∷ xs) = bit_or (2 ^ a) (mask_of xs)

-- some set breaks a rule with head h and body b: they have no atom in common
abbrev pub breakable : ℕ → ℕ → Bool
breakable h b = eqb (bit_and h b) 0

-- A rule without `not` atoms as two masks: it is broken at s exactly when s & care is want. Care 0 with want 1 is never broken.
unfoldable pub care_of : Rule ℕ → ℕ
care_of r = cond (breakable (mask_of r.head) (mask_of r.body)) (bit_or (mask_of r.head) (mask_of r.body)) 0

unfoldable pub want_of : Rule ℕ → ℕ
want_of r = cond (breakable (mask_of r.head) (mask_of r.body)) (mask_of r.body) 1

-- The walks go over places (document 02, W-206), so the masks have atom i of n at bit n-1-i.
abbrev pub place_mask : ℕ → List ℕ → ℕ
place_mask n xs = mask_of (map (mirror n) xs)

abbrev pub care_at : ℕ → Rule ℕ → ℕ
care_at n r = care_of (rename (mirror n) r)

abbrev pub want_at : ℕ → Rule ℕ → ℕ
want_at n r = want_of (rename (mirror n) r)

-- the number of the first rule broken at s, or the number of rules
unfoldable pub first_m : ℕ → List ℕ → List ℕ → ℕ
first_m s [] ws = 0
first_m s (c ∷ cs) [] = 0
first_m s (c ∷ cs) (w ∷ ws) = count_if (not (eqb (bit_and s c) w)) (first_m s cs ws)

-- the masks of the classes from class i on, k of them
abbrev pub class_masks : List ℕ → ℕ → ℕ → List ℕ
class_masks ws i k = map (λ c. place_mask (length ws) (of_class ws c)) (from i k)

-- the class masks with the atom of mask `bit` put into the class that its class word names
unfoldable pub noted : ℕ → ℕ → List ℕ → List ℕ
noted w bit ks = cond (leb 1 w && leb w class_limit) (set ks (w - 1) (bit_or (get_or ks (w - 1) 0) bit)) ks

unfoldable pub agree_m : ℕ → ℕ → ℕ → Bool
agree_m m s c = eqb (bit_and s c) (bit_and m c)

unfoldable pub within_m : ℕ → ℕ → ℕ → Bool
within_m m s c = eqb (bit_and (bit_and s c) m) (bit_and s c)

-- at the first class on which the two differ, s's part is within m's
unfoldable pub spares_m : ℕ → ℕ → List ℕ → Bool
spares_m m s [] = false
spares_m m s (c ∷ cs) = cond (agree_m m s c) (spares_m m s cs) (within_m m s c)

-- the atoms of some masks together
unfoldable pub union_of : List ℕ → ℕ
union_of [] = 0
union_of (c ∷ cs) = bit_or c (union_of cs)
