-- The bytes of names by the bits of two words, one for the bytes below 64 and one for those below 128.
use Prim.Native.Nat.{ℕ, zero, suc, ◌+◌, ◌^◌, ◌/◌, ◌%◌, ◌≤◌, ◌<◌}
use native.Mathlib.Decide.{ℕ_discrete}
use native.Mathlib.Omega.{arith}
use mathlib.Core.Path.{◌≡◌, refl, sym, subst}
use mathlib.Core.Bool.{Bool, true, false, ◌&&◌}
use lib.Dec.{T, eqb}
use borrow.Author.Tests.{lt-leb, le-leb, ne_eqb}
use Rattle.names.specs.Names.{is_name_byte}

abbrev bit : ℕ → ℕ → Bool
bit half b = eqb (half / 2 ^ (b % 64) % 2) 1

same : Bool → Bool → Bool
same true b = b
same false true = false
same false false = true

same_is : (a b : Bool) → T (same a b) → a ≡ b
unfolding same
same_is true true t = refl
same_is true false t = absurd t
same_is false true t = absurd t
same_is false false t = refl

-- a test of the n numbers from i on
every_from : (ℕ → Bool) → ℕ → ℕ → Bool
every_from p i zero = true
every_from p i (suc n) = p i && every_from p (suc i) n

at : (p : ℕ → Bool) (i n : ℕ) → T (every_from p i n) → (k : ℕ) → i ≤ k → k < i + n → T (p k)
unfolding every_from
at p i zero t k l h = absurd (omega arith)
at p i (suc n) t k l h = go (p i) refl t (ℕ_discrete k i) (λ t m. at p (suc i) n t k m (omega arith))
  where
    go : (b : Bool) → p i ≡ b → T (b && every_from p (suc i) n) → Dec (k ≡ i) → (T (every_from p (suc i) n) → suc i ≤ k → T (p k)) → T (p k)
    go true e t (yes d) r = subst (λ m. T (p m)) (sym d) (subst T (sym e) tt)
    go true e t (no d) r = r t (omega arith)
    go false e t d r = absurd t

abbrev digits : ℕ
digits = 287948901175001088

-- `_` too
abbrev letters : ℕ
letters = 576460745860972544

pub low : (b : ℕ) → b < 64 → {half : ℕ} → half ≡ digits → bit half b ≡ is_name_byte b
unfolding same every_from
low b l e = rw e (same_is (bit digits b) (is_name_byte b) (at (λ k. same (bit digits k) (is_name_byte k)) 0 64 tt b (omega arith) (omega arith)))

pub high : (b : ℕ) → 64 ≤ b → b < 128 → {half : ℕ} → half ≡ letters → bit half b ≡ is_name_byte b
unfolding same every_from
high b m l e = rw e (same_is (bit letters b) (is_name_byte b) (at (λ k. same (bit letters k) (is_name_byte k)) 64 64 tt b m (omega arith)))

pub beyond : (b : ℕ) → 128 ≤ b → false ≡ is_name_byte b
beyond b l = simp (le-leb 97 b (omega arith), le-leb 48 b (omega arith), lt-leb b 122 (omega arith), lt-leb b 57 (omega arith), ne_eqb b 95 (λ e. omega arith))
