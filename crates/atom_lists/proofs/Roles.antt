-- What the code learns of an atom from its class word.
use Prim.Native.Nat.{ℕ, ◌≤◌, ◌<◌}
use native.Mathlib.Omega.{arith}
use mathlib.Core.Path.{◌≡◌, refl, sym, ap, ◌∙◌, subst}
use mathlib.Core.List.{List}
use lib.Dec.{leb}
use lib.ListN.{get_or}
use borrow.Author.Tests.{le-leb, lt-leb}
use native.Mathlib.Decide.{dec_le, ℕ_discrete}
use Rattle.kinds.specs.Limits.{class_limit, varying, fixed}
use Rattle.stores.specs.Program.{role_of}
use Rattle.stores.specs.declared.roles.Role.{Role}
use Rattle.stores.specs.declared.roles.Role.TheVariants.{Minimised, Varying, Fixed, Unknown}
use Rattle.stores.proofs.ClassWord.{minimised, varies, is_fixed_lem, below, above}
use Rattle.atom_lists.specs.Roles.{pick_class, class_of}

-- the class word behind a role
pub data Told (w : ℕ) : Role → Type 0 where
  told_class : 1 ≤ w → w ≤ class_limit → Told w (Minimised w)
  told_varying : w ≡ varying → Told w Varying
  told_fixed : w ≡ fixed → Told w Fixed
  told_low : w < 1 → Told w Unknown
  told_high : fixed < w → Told w Unknown

tell : (w : ℕ) → Told w (role_of w)
tell w = first (dec_le 1 w) (dec_le w class_limit)
  where
    first : Dec (1 ≤ w) → Dec (w ≤ class_limit) → Told w (role_of w)
    first (no l) u = subst (Told w) (below w (omega arith)) (told_low (omega arith))
    first (yes l) (yes u) = subst (Told w) (minimised w l u) (told_class l u)
    first (yes l) (no u) = last (ℕ_discrete w varying) (ℕ_discrete w fixed)
      where
        last : Dec (w ≡ varying) → Dec (w ≡ fixed) → Told w (role_of w)
        last (yes e) f = subst (Told w) (varies w e) (told_varying e)
        last (no e) (yes f) = subst (Told w) (is_fixed_lem w f) (told_fixed f)
        last (no e) (no f) = subst (Told w) (above w (omega arith) e f) (told_high (omega arith))

-- the class that each role stands for
abbrev pub class_in : Role → ℕ
class_in (Minimised i) = i
class_in Varying = 0
class_in Fixed = 0
class_in Unknown = 0

class_told : {w : ℕ} {r : Role} → Told w r → class_in r ≡ pick_class (leb w class_limit) w
class_told {w} (told_class l u) = rw (le-leb w class_limit u)
class_told {w} (told_varying e) = let k : class_limit < w = omega arith in rw (lt-leb w class_limit k)
class_told {w} (told_fixed e) = let k : class_limit < w = omega arith in rw (lt-leb w class_limit k)
class_told {w} (told_low h) = let e : w ≡ 0 = omega arith in rw e
class_told {w} (told_high h) = let k : class_limit < w = omega arith in rw (lt-leb w class_limit k)

module _ (ws : List ℕ) (a : ℕ) {role : Role} (h : role ≡ role_of (get_or ws a 0)) where
  class_there : class_in role ≡ class_of ws a
  unfolding class_of
  class_there = ap class_in h ∙ class_told (tell (get_or ws a 0))

  pub class_is : {i : ℕ} → role ≡ Minimised i → i ≡ class_of ws a
  class_is e = ap class_in (sym e) ∙ class_there

  pub no_class : ((i : ℕ) → role ≡ Minimised i → ⊥) → 0 ≡ class_of ws a
  no_class n = none role n ∙ class_there
    where
      none : (r : Role) → ((i : ℕ) → r ≡ Minimised i → ⊥) → 0 ≡ class_in r
      none (Minimised i) n = absurd (n i refl)
      none Varying n = refl
      none Fixed n = refl
      none Unknown n = refl

class_small_in : {w : ℕ} {r : Role} → Told w r → class_in r ≤ class_limit
class_small_in (told_class l u) = u
class_small_in (told_varying e) = omega arith
class_small_in (told_fixed e) = omega arith
class_small_in (told_low h) = omega arith
class_small_in (told_high h) = omega arith

pub class_small : (w : ℕ) {i : ℕ} {role : Role} → role ≡ role_of w → role ≡ Minimised i → i ≤ class_limit
class_small w h e = subst (λ (r : Role). class_in r ≤ class_limit) (sym h ∙ e) (class_small_in (tell w))

-- what the word says of the class

pub minimised_class : (ws : List ℕ) (a : ℕ) → get_or ws a 0 ≤ class_limit → class_of ws a ≡ get_or ws a 0
unfolding class_of
minimised_class ws a u = rw (le-leb (get_or ws a 0) class_limit u)
