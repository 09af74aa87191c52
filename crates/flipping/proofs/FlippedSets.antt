-- A set below 2^60 with an atom flipped, and sets of n atoms.
use Prim.Native.Nat.{ℕ, ◌+◌, ◌-◌, ◌*◌, ◌/◌, ◌%◌, ◌^◌, ◌≤◌, ◌<◌}
use native.Mathlib.Nat.{one-mul}
use native.Mathlib.Omega.{arith}
use mathlib.Core.Path.{◌≡◌, sym, ap, ◌∙◌, subst}
use mathlib.Core.Bool.{Bool, true, false, ◌&&◌, cond}
use lib.Dec.{ltb}
use lib.Pow.{pow-lt, shl_exact}
use borrow.Author.Tests.{eq-eqb, ne_eqb, le-ltb, lt-ltb}
use Rattle.kinds.specs.Limits.{walk_atoms}
use Rattle.rules.specs.Sets.{has}
use Rattle.rules.proofs.Sets.{has_above}
use Rattle.stores.proofs.RuleTests.{T-is}
use Rattle.rule_index.specs.Flip.{flipped}

-- 1 << n in a u64
abbrev one : ℕ → ℕ
one n = (1 * 2 ^ n) % 2 ^ 64

one_is : (n : ℕ) → n ≤ walk_atoms → one n ≡ 2 ^ n
one_is n h = shl_exact {a = 1} 1 n 64 (omega arith) (omega arith) ∙ one-mul (2 ^ n)

module _ {set atom : ℕ} (h : (set < 2 ^ walk_atoms) × (atom < walk_atoms)) where
  is_one : one atom ≡ 2 ^ atom
  is_one = one_is atom (omega arith)

  pub sum_fits : set + one atom < 2 ^ 64
  sum_fits = let l : 2 ^ atom < 2 ^ 60 = pow-lt h.1 in omega (arith, is_one, h.0)

  module _ (e : set / 2 ^ atom % 2 ≡ 1) where
    is_in_lem : has set atom ≡ true
    is_in_lem = eq-eqb (set / 2 ^ atom % 2) 1 e

    pub one_below : one atom ≤ set
    one_below = subst (λ (x : ℕ). x ≤ set) (sym is_one) (has_above set atom (T-is is_in_lem))

    pub taken_out : set - one atom ≡ flipped set atom
    unfolding flipped
    taken_out = ap (λ (x : ℕ). set - x) is_one ∙ sym (ap (λ (b : Bool). cond b (set - 2 ^ atom) (set + 2 ^ atom)) is_in_lem)

  pub put_in : (set / 2 ^ atom % 2 ≡ 1 → ⊥) → set + one atom ≡ flipped set atom
  unfolding flipped
  put_in e = ap (λ (x : ℕ). set + x) is_one ∙ sym (ap (λ (b : Bool). cond b (set - 2 ^ atom) (set + 2 ^ atom)) (ne_eqb (set / 2 ^ atom % 2) 1 e))

-- a set of n atoms, and one of them
module _ (set atom : ℕ) {n : ℕ} (few : n ≤ walk_atoms) where
  pub no_set : one n ≤ set → false ≡ (ltb set (2 ^ n) && ltb atom n)
  no_set l = ap (λ (b : Bool). b && ltb atom n) (sym (le-ltb set (2 ^ n) (subst (λ (x : ℕ). x ≤ set) (one_is n few) l)))

  pub a_set : set < one n → ltb atom n ≡ (ltb set (2 ^ n) && ltb atom n)
  a_set l = ap (λ (b : Bool). b && ltb atom n) (sym (lt-ltb set (2 ^ n) (subst (λ (x : ℕ). set < x) (one_is n few) l)))
