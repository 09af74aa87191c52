-- The values that an atom may have, as masks tell them.
use Prim.Native.Nat.{ℕ, zero, suc, ◌+◌, ◌-◌, ◌/◌, ◌%◌, ◌^◌, ◌<◌}
use mathlib.Core.Path.{◌≡◌, refl, sym, ap, ap₂, ◌∙◌, subst}
use mathlib.Core.Logic.{◌↔◌}
use mathlib.Core.Bool.{Bool, true, false, not, cond, ◌&&◌, ◌||◌}
use mathlib.Core.List.{List, [], ◌∷◌, map}
use native.Mathlib.Nat.{pow-suc}
use native.Mathlib.Omega.{arith}
use lib.Dec.{T, eqb, eqb→eq}
use lib.Bits.{bit_and, bit_xor}
use lib.Pow.{pow_pos}
use lib.ListN.{length, get_or}
use Rattle.kinds.specs.Limits.{fixed}
use Rattle.rules.specs.Lists.{All, every}
use Rattle.rules.specs.Sets.{has}
use Rattle.rules.specs.Preferred.{OfClass, of_class, is_same}
use Rattle.rules.proofs.Booleans.{T_of, T-not-in, T-not-out, bool_ext, eq_to_eqb, stable}
use Rattle.rules.proofs.Lists.{all_imp}
use Rattle.rules.proofs.MappedLists.{every_map}
use Rattle.rules.proofs.Preferred.{all_of_class}
use Rattle.rules.proofs.Rules.{all_in}
use Rattle.rules.proofs.Sets.{has_zero, has_suc}
use Rattle.places.specs.Places.{mirror, place}
use Rattle.places.proofs.Places.{place_atoms}
use Rattle.masks.specs.Masks.{place_mask}
use Rattle.masks.proofs.MaskBits.{has_and, has_xor, every_mask}
use Rattle.descent.specs.Search.{may_be}
use Rattle.descent.specs.Verdicts.{all_of, outs_of, ins_of}

-- all of n atoms are in
pub has_all : (n k : ℕ) → k < n → has (all_of n) k ≡ true
has_all zero k l = absurd (omega arith)
has_all (suc n) zero l = has_zero (all_of (suc n)) ∙ (let e : (2 ^ suc n - 1) % 2 ≡ 1 = omega (arith, pow-suc 2 n, pow_pos n) in ap (λ (x : ℕ). eqb x 1) e)
has_all (suc n) (suc k) l =
    let e : (2 ^ suc n - 1) / 2 ≡ 2 ^ n - 1 = omega (arith, pow-suc 2 n, pow_pos n) in
    has_suc (all_of (suc n)) k ∙ ap (λ (x : ℕ). has x k) e ∙ has_all n k (omega arith)

-- the atom at bit k is atom d
module _ (ws : List ℕ) (w d k : ℕ) (deep : suc d + k ≡ length ws) where
  abbrev n : ℕ
  n = length ws

  abbrev other : ℕ → Bool
  other i = not (eqb i k)

  here : mirror n d ≡ k
  here = omega arith

  -- no atom of the class stands there
  none_here : T (every other (map (mirror n) (of_class ws w))) ↔ ((a : ℕ) → OfClass ws w a → T (other (mirror n a)))
  none_here =
      let e = every_map (mirror n) other (λ a. other (mirror n a)) (of_class ws w) (all (of_class ws w)) in
      let r = all_of_class ws w (λ a. T (other (mirror n a))) in
      let q = all_in (λ a. other (mirror n a)) (of_class ws w) in
      (λ t. r.0 (q.0 (T_of e t)), λ h. T_of (sym e) (q.1 (r.1 h)))
    where
      all : (l : List ℕ) → All (λ a. other (mirror n a) ≡ other (mirror n a)) l
      all l = all_imp (λ (a : ℕ). Unit {0}) (λ a. other (mirror n a) ≡ other (mirror n a)) (λ a u. refl) l (any l)
        where
          any : (l : List ℕ) → All (λ (a : ℕ). Unit {0}) l
          any [] = tt
          any (x ∷ l) = (tt, any l)

  pub has_class : has (place_mask n (of_class ws w)) k ≡ eqb (get_or ws d 0) w
  has_class = bool_ext (has (place_mask n (of_class ws w)) k) (eqb (get_or ws d 0) w)
      (λ t. stable (eqb (get_or ws d 0) w) (λ f. T-not-out (eqb k k) ((every_mask other (map (mirror n) (of_class ws w))).0 (none_here.1 (λ a c. T-not-in (eqb (mirror n a) k) (λ q.
      let i : mirror n a ≡ k = eqb→eq (mirror n a) k q in
      let s : a ≡ d = (let l = c.0 in omega arith) in
      f (eq_to_eqb (get_or ws d 0) w (ap (λ (j : ℕ). get_or ws j 0) (sym s) ∙ c.1))))) k t) (eq_to_eqb k k refl)))
      (λ t. stable (has (place_mask n (of_class ws w)) k) (λ f. T-not-out (eqb (mirror n d) k) (none_here.0 ((every_mask other (map (mirror n) (of_class ws w))).1 (λ i h. T-not-in (eqb i k) (λ q. f (subst (λ (j : ℕ). T (has (place_mask n (of_class ws w)) j)) (eqb→eq i k q) h)))) d (omega arith, eqb→eq (get_or ws d 0) w t)) (eq_to_eqb (mirror n d) k here)))

module _ (ws : List ℕ) (m : ℕ) where
  abbrev held : ℕ
  held = place_mask (length ws) (of_class ws fixed)

  abbrev q : ℕ
  q = place (length ws) m

  pub fixed_values : (d k : ℕ) (v : Bool) → suc d + k ≡ length ws
      → has (may_be (outs_of (length ws) held q) (ins_of (length ws) held q) v) k ≡ (not (eqb (get_or ws d 0) fixed) || is_same v (has m d))
  unfolding outs_of ins_of
  fixed_values d k v deep = step v
    where
      atom : has q k ≡ has m d
      atom = let e : mirror (length ws) d ≡ k = omega arith in ap (has q) (sym e) ∙ place_atoms (length ws) m d (omega arith)

      class : has held k ≡ eqb (get_or ws d 0) fixed
      class = has_class ws fixed d k deep

      both : has (bit_and held q) k ≡ (eqb (get_or ws d 0) fixed && has m d)
      both = has_and held q k ∙ ap₂ ◌&&◌ class atom

      all : has (all_of (length ws)) k ≡ true
      all = has_all (length ws) k (omega arith)

      out : (f b : Bool) → not (f && b) ≡ (not f || not b)
      out true b = refl
      out false b = refl

      into : (f b : Bool) → not (cond f (not (f && b)) (f && b)) ≡ (not f || b)
      into true true = refl
      into true false = refl
      into false b = refl

      step : (v : Bool) → has (may_be (bit_xor (all_of (length ws)) (bit_and held q)) (bit_xor (all_of (length ws)) (bit_xor held (bit_and held q))) v) k ≡ (not (eqb (get_or ws d 0) fixed) || is_same v (has m d))
      step false = has_xor (all_of (length ws)) (bit_and held q) k ∙ ap₂ (λ (a b : Bool). cond a (not b) b) all both ∙ out (eqb (get_or ws d 0) fixed) (has m d)
      step true =
          has_xor (all_of (length ws)) (bit_xor held (bit_and held q)) k
          ∙ ap₂ (λ (a b : Bool). cond a (not b) b) all (has_xor held (bit_and held q) k ∙ ap₂ (λ (a b : Bool). cond a (not b) b) class both)
          ∙ into (eqb (get_or ws d 0) fixed) (has m d)

-- atoms outside m are only out
pub subset_values : (n m d k : ℕ) (v : Bool) → suc d + k ≡ n → has (may_be (all_of n) (place n m) v) k ≡ (not v || has m d)
subset_values n m d k false deep = has_all n k (omega arith)
subset_values n m d k true deep = let e : mirror n d ≡ k = omega arith in ap (has (place n m)) (sym e) ∙ place_atoms n m d (omega arith)
