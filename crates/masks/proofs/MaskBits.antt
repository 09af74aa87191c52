-- Masks by their members: what the tests of two masks say of atoms, and the mask of a list.
use Prim.Native.Nat.{ℕ, zero, suc, ◌+◌, ◌-◌, ◌/◌, ◌%◌, ◌^◌, min, max}
use mathlib.Core.Path.{◌≡◌, refl, sym, ap, ◌∙◌, subst}
use mathlib.Core.Logic.{◌⊎◌, inl, inr, ◌↔◌}
use mathlib.Core.Bool.{Bool, true, false, not, cond, ◌&&◌, ◌||◌}
use mathlib.Core.List.{List, [], ◌∷◌}
use native.Mathlib.Nat.{pow-suc, mul-div_cancel, mul-mod_left, zero-lt-suc}
use native.Mathlib.Omega.{arith}
use lib.Dec.{T, eqb, eqb→eq}
use lib.Bits.{bit_and, bit_or, bit_xor}
use Rattle.rules.specs.Lists.{every, some}
use Rattle.rules.specs.Sets.{has}
use Rattle.rules.proofs.Booleans.{bool_ext, eq_to_eqb, T_of, T_and, T-and-l, T-and-r, T-or, T-or-out, T-not-in, T-not-out}
use Rattle.rules.proofs.Sets.{set_ext}
use Rattle.masks.specs.Masks.{mask_of}
use Rattle.masks.proofs.Bits.{bit, bit_zero, bit_suc, bit_lt, bit_of_zero, bit_and_lem, bit_or_lem, bit_xor_lem, below_two}

-- the bit operations, member by member

min_test : (x y : ℕ) → (x ≡ 0) ⊎ (x ≡ 1) → (y ≡ 0) ⊎ (y ≡ 1) → eqb (min x y) 1 ≡ (eqb x 1 && eqb y 1)
min_test x y (inl e) (inl f) = rw (e, f)
min_test x y (inl e) (inr f) = rw (e, f)
min_test x y (inr e) (inl f) = rw (e, f)
min_test x y (inr e) (inr f) = rw (e, f)

max_test : (x y : ℕ) → (x ≡ 0) ⊎ (x ≡ 1) → (y ≡ 0) ⊎ (y ≡ 1) → eqb (max x y) 1 ≡ (eqb x 1 || eqb y 1)
max_test x y (inl e) (inl f) = rw (e, f)
max_test x y (inl e) (inr f) = rw (e, f)
max_test x y (inr e) (inl f) = rw (e, f)
max_test x y (inr e) (inr f) = rw (e, f)

pub has_and : (a b i : ℕ) → has (bit_and a b) i ≡ (has a i && has b i)
has_and a b i = ap (λ (y : ℕ). eqb y 1) (bit_and_lem a b i) ∙ min_test (bit a i) (bit b i) (below_two (bit a i) (bit_lt a i)) (below_two (bit b i) (bit_lt b i))

pub has_or : (a b i : ℕ) → has (bit_or a b) i ≡ (has a i || has b i)
has_or a b i = ap (λ (y : ℕ). eqb y 1) (bit_or_lem a b i) ∙ max_test (bit a i) (bit b i) (below_two (bit a i) (bit_lt a i)) (below_two (bit b i) (bit_lt b i))

xor_test : (x y : ℕ) → (x ≡ 0) ⊎ (x ≡ 1) → (y ≡ 0) ⊎ (y ≡ 1) → eqb ((x - y) + (y - x)) 1 ≡ cond (eqb x 1) (not (eqb y 1)) (eqb y 1)
xor_test x y (inl e) (inl f) = rw (e, f)
xor_test x y (inl e) (inr f) = rw (e, f)
xor_test x y (inr e) (inl f) = rw (e, f)
xor_test x y (inr e) (inr f) = rw (e, f)

pub has_xor : (a b i : ℕ) → has (bit_xor a b) i ≡ cond (has a i) (not (has b i)) (has b i)
has_xor a b i = ap (λ (y : ℕ). eqb y 1) (bit_xor_lem a b i) ∙ xor_test (bit a i) (bit b i) (below_two (bit a i) (bit_lt a i)) (below_two (bit b i) (bit_lt b i))

pub none_in_zero : (i : ℕ) → T (has 0 i) → ⊥
none_in_zero i h = let e : bit 0 i ≡ 1 = eqb→eq (bit 0 i) 1 h in omega (arith, bit_of_zero i)

-- the mask of one atom
half_pow : (a : ℕ) → 2 ^ suc a / 2 ≡ 2 ^ a
half_pow a = ap (λ (x : ℕ). x / 2) (pow-suc 2 a) ∙ mul-div_cancel (2 ^ a) (zero-lt-suc 1)

even_pow : (a : ℕ) → 2 ^ suc a % 2 ≡ 0
even_pow a = ap (λ (x : ℕ). x % 2) (pow-suc 2 a) ∙ mul-mod_left (2 ^ a) 2

bit_pow : (a : ℕ) → bit (2 ^ a) a ≡ 1
bit_pow zero = refl
bit_pow (suc a) = bit_suc (2 ^ suc a) a ∙ ap (λ (x : ℕ). bit x a) (half_pow a) ∙ bit_pow a

bit_pow_only : (a i : ℕ) → bit (2 ^ a) i ≡ 1 → i ≡ a
bit_pow_only zero zero e = refl
bit_pow_only zero (suc i) e = absurd (omega (arith, sym (bit_suc 1 i ∙ bit_of_zero i) ∙ e))
bit_pow_only (suc a) zero e = absurd (omega (arith, sym (bit_zero (2 ^ suc a) ∙ even_pow a) ∙ e))
bit_pow_only (suc a) (suc i) e = ap suc (bit_pow_only a i (sym (bit_suc (2 ^ suc a) i ∙ ap (λ (x : ℕ). bit x i) (half_pow a)) ∙ e))

pub has_own : (a : ℕ) → T (has (2 ^ a) a)
has_own a = eq_to_eqb (bit (2 ^ a) a) 1 (bit_pow a)

pub has_only : (a i : ℕ) → T (has (2 ^ a) i) → i ≡ a
has_only a i h = bit_pow_only a i (eqb→eq (bit (2 ^ a) i) 1 h)

-- a test of every atom of a list is one of every member of its mask
pub every_mask : (p : ℕ → Bool) (xs : List ℕ) → T (every p xs) ↔ ((i : ℕ) → T (has (mask_of xs) i) → T (p i))
unfolding mask_of
every_mask p [] = (λ h i t. absurd (none_in_zero i t), λ h. tt)
every_mask p (a ∷ xs) = let r = every_mask p xs in (there r, back r)
  where
    there : T (every p xs) ↔ ((i : ℕ) → T (has (mask_of xs) i) → T (p i)) → T (p a && every p xs) → (i : ℕ) → T (has (bit_or (2 ^ a) (mask_of xs)) i) → T (p i)
    there r h i t = step (T-or-out (has (2 ^ a) i) (has (mask_of xs) i) (T_of (has_or (2 ^ a) (mask_of xs) i) t))
      where
        step : T (has (2 ^ a) i) ⊎ T (has (mask_of xs) i) → T (p i)
        step (inl q) = subst (λ (x : ℕ). T (p x)) (sym (has_only a i q)) (T-and-l (p a) (every p xs) h)
        step (inr q) = r.0 (T-and-r (p a) (every p xs) h) i q

    back : T (every p xs) ↔ ((i : ℕ) → T (has (mask_of xs) i) → T (p i)) → ((i : ℕ) → T (has (bit_or (2 ^ a) (mask_of xs)) i) → T (p i)) → T (p a && every p xs)
    back r h = T_and (p a) (every p xs)
        (h a (T_of (sym (has_or (2 ^ a) (mask_of xs) a)) (T-or (has (2 ^ a) a) (has (mask_of xs) a) (inl (has_own a)))))
        (r.1 (λ i t. h i (T_of (sym (has_or (2 ^ a) (mask_of xs) i)) (T-or (has (2 ^ a) i) (has (mask_of xs) i) (inr t)))))

pub some_mask : (p : ℕ → Bool) (xs : List ℕ) → T (not (some p xs)) ↔ ((i : ℕ) → T (has (mask_of xs) i) → T (p i) → ⊥)
some_mask p xs = let r = every_mask (λ a. not (p a)) xs in let e = none xs in (
  λ h i t k. T-not-out (p i) (r.0 (T_of e h) i t) k,
  λ h. T_of (sym e) (r.1 (λ i t. T-not-in (p i) (h i t))),
)
  where
    none : (l : List ℕ) → not (some p l) ≡ every (λ a. not (p a)) l
    none [] = refl
    none (a ∷ l) = step (p a) (none l)
      where
        step : (q : Bool) → not (some p l) ≡ every (λ a. not (p a)) l → not (q || some p l) ≡ (not q && every (λ a. not (p a)) l)
        step true e = refl
        step false e = e

-- the tests of masks

module _ (x y : ℕ) where
  pub same_members : T (eqb x y) ↔ ((i : ℕ) → has x i ≡ has y i)
  same_members = (λ h i. ap (λ (z : ℕ). has z i) (eqb→eq x y h), λ h. eq_to_eqb x y (set_ext x y h))

-- s has none of h
pub disjoint : (s h : ℕ) → T (eqb (bit_and s h) 0) ↔ ((i : ℕ) → T (has h i) → T (has s i) → ⊥)
disjoint s h = let r = same_members (bit_and s h) 0 in (
  λ e i t k. none_in_zero i (T_of (sym (has_and s h i) ∙ r.0 e i) (T_and (has s i) (has h i) k t)),
  λ f. r.1 (λ i. bool_ext (has (bit_and s h) i) (has 0 i)
      (λ t. let b = T_of (has_and s h i) t in absurd (f i (T-and-r (has s i) (has h i) b) (T-and-l (has s i) (has h i) b)))
      (λ t. absurd (none_in_zero i t))),
)

-- the mask of one atom tells whether it is in m
pub bit_test : (m a : ℕ) → eqb (bit_and m (2 ^ a)) 0 ≡ not (has m a)
bit_test m a = bool_ext (eqb (bit_and m (2 ^ a)) 0) (not (has m a))
    (λ t. T-not-in (has m a) (λ k. (disjoint m (2 ^ a)).0 t a (has_own a) k))
    (λ t. (disjoint m (2 ^ a)).1 (λ i h k. T-not-out (has m a) t (subst (λ (x : ℕ). T (has m x)) (has_only a i h) k)))

-- s and m have the same of c
pub agrees : (s m c : ℕ) → T (eqb (bit_and s c) (bit_and m c)) ↔ ((i : ℕ) → T (has c i) → has s i ≡ has m i)
agrees s m c = let r = same_members (bit_and s c) (bit_and m c) in (
  λ e i t. out (has s i) (has m i) (has c i) t (sym (has_and s c i) ∙ r.0 e i ∙ has_and m c i),
  λ f. r.1 (λ i. has_and s c i ∙ into (has s i) (has m i) (has c i) (f i) ∙ sym (has_and m c i)),
)
  where
    out : (p q c : Bool) → T c → (p && c) ≡ (q && c) → p ≡ q
    out p q true t e = sym (and-true p) ∙ e ∙ and-true q
      where
        and-true : (p : Bool) → (p && true) ≡ p
        and-true true = refl
        and-true false = refl
    out p q false t e = absurd t

    into : (p q c : Bool) → (T c → p ≡ q) → (p && c) ≡ (q && c)
    into p q true f = ap (λ (x : Bool). x && true) (f tt)
    into true true false f = refl
    into true false false f = refl
    into false true false f = refl
    into false false false f = refl

-- x is within y
pub inside : (x y : ℕ) → T (eqb (bit_and x y) x) ↔ ((i : ℕ) → T (has x i) → T (has y i))
inside x y = let r = same_members (bit_and x y) x in (
  λ e i t. T-and-r (has x i) (has y i) (T_of (sym (r.0 e i) ∙ has_and x y i) t),
  λ f. r.1 (λ i. has_and x y i ∙ absorb (has x i) (has y i) (f i)),
)
  where
    absorb : (p q : Bool) → (T p → T q) → (p && q) ≡ p
    absorb true true f = refl
    absorb true false f = absurd (f tt)
    absorb false q f = refl

-- what s has of c is in m
pub part_of : (s m c : ℕ) → T (eqb (bit_and (bit_and s c) m) (bit_and s c)) ↔ ((i : ℕ) → T (has c i) → T (has s i) → T (has m i))
part_of s m c = let r = inside (bit_and s c) m in (
  λ e i t k. r.0 e i (T_of (sym (has_and s c i)) (T_and (has s i) (has c i) k t)),
  λ f. r.1 (λ i t. let b = T_of (has_and s c i) t in f i (T-and-r (has s i) (has c i) b) (T-and-l (has s i) (has c i) b)),
)
