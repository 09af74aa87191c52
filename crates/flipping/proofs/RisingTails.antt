-- What is left of a rising list of rule numbers, by the rule that comes next.
use Prim.Native.Nat.{ℕ, suc, ◌+◌, ◌-◌, ◌≤◌, ◌<◌}
use native.Mathlib.Decide.{ℕ_discrete}
use native.Mathlib.Nat.{add-zero}
use native.Mathlib.Omega.{arith}
use mathlib.Core.Path.{◌≡◌, refl, sym, ap, ◌∙◌, subst}
use mathlib.Core.Bool.{Bool, true, false, ◌&&◌, ◌||◌, cond}
use mathlib.Core.List.{List, [], ◌∷◌}
use lib.Dec.{eqb, leb, ltb}
use lib.ListN.{length, get_or, drop, length-drop}
use lib.Seq.{drop-drop, get_or-drop}
use borrow.Author.Tests.{leb-true, ltb-true, lt-ltb, le-leb, eq-eqb, ne_eqb}
use Rattle.rules.proofs.Booleans.{T_of, both_true, or-false}
use Rattle.restriction.specs.Atoms.{is_member}
use Rattle.rule_index.specs.Flip.{is_rising}
use Rattle.flipping.specs.Joined.{is_leading, behind}

-- the tests of a place

pub first_left : (l : List ℕ) (i r : ℕ) → get_or l i r ≡ get_or (drop i l) 0 r
first_left l i r = sym (get_or-drop i l 0 r ∙ ap (λ (k : ℕ). get_or l k r) (add-zero i))

module _ (l : List ℕ) (i m : ℕ) {b : Bool} (e : b ≡ is_leading m (drop i l)) where
  pub led_inside : b ≡ true → i < length l
  led_inside q = go (drop i l) (sym e ∙ q) (length-drop i l)
    where
      go : (xs : List ℕ) → is_leading m xs ≡ true → length xs ≡ length l - i → i < length l
      go [] f n = absurd (T_of (sym f) tt)
      go (x ∷ xs) f n = omega arith

  pub goes_on : b ≡ true → drop (i + 1) l ≡ behind m (drop i l)
  goes_on q = sym (drop-drop 1 i l) ∙ go (drop i l) (sym e ∙ q)
    where
      go : (xs : List ℕ) → is_leading m xs ≡ true → drop 1 xs ≡ behind m xs
      go [] f = absurd (T_of (sym f) tt)
      go (x ∷ xs) f = ap (λ (t : Bool). cond t xs (x ∷ xs)) (sym f)

  pub stays : b ≡ false → drop i l ≡ behind m (drop i l)
  stays q = go (drop i l) (sym e ∙ q)
    where
      go : (xs : List ℕ) → is_leading m xs ≡ false → xs ≡ behind m xs
      go [] f = refl
      go (x ∷ xs) f = ap (λ (t : Bool). cond t xs (x ∷ xs)) (sym f)

-- a rising list from b on, below r

rising_parts : (b r x : ℕ) (xs : List ℕ) → is_rising b r (x ∷ xs) ≡ true → (b ≤ x) × (x < r) × (is_rising (suc x) r xs ≡ true)
unfolding is_rising
rising_parts b r x xs e =
    let p = both_true (leb b x) (ltb x r && is_rising (suc x) r xs) e in
    let q = both_true (ltb x r) (is_rising (suc x) r xs) p.1 in
    (leb-true b x p.0, ltb-true x r q.0, q.1)

none_below : (b r : ℕ) (xs : List ℕ) → is_rising b r xs ≡ true → (k : ℕ) → k < b → is_member xs k ≡ false
none_below b r [] e k l = refl
none_below b r (x ∷ xs) e k l =
    let p = rising_parts b r x xs e in
    let n : eqb k x ≡ false = ne_eqb k x (λ q. omega (arith, p.0)) in
    simp n (none_below (suc x) r xs p.2 k (omega (arith, p.0)))

first_low : (b r : ℕ) (xs : List ℕ) → is_rising b r xs ≡ true → b ≤ r → b ≤ get_or xs 0 r
first_low b r [] e l = l
first_low b r (x ∷ xs) e l = (rising_parts b r x xs e).0

first_high : (b r : ℕ) (xs : List ℕ) → is_rising b r xs ≡ true → get_or xs 0 r ≤ r
first_high b r [] e = omega arith
first_high b r (x ∷ xs) e = omega (arith, (rising_parts b r x xs e).1)

from_first : (b r c : ℕ) (xs : List ℕ) → is_rising b r xs ≡ true → c ≤ get_or xs 0 r → is_rising c r xs ≡ true
unfolding is_rising
from_first b r c [] e l = refl
from_first b r c (x ∷ xs) e l = let p = rising_parts b r x xs e in simp (le-leb c x l, lt-ltb x r p.1, p.2)

leads_member : (m r : ℕ) (xs : List ℕ) → is_rising m r xs ≡ true → is_member xs m ≡ is_leading m xs
leads_member m r [] e = refl
leads_member m r (x ∷ xs) e =
    let p = rising_parts m r x xs e in
    ap (λ (t : Bool). eqb m x || t) (none_below (suc x) r xs p.2 m (omega (arith, p.0))) ∙ or-false (eqb m x)

behind_rises : (m r : ℕ) (xs : List ℕ) → is_rising m r xs ≡ true → is_rising (suc m) r (behind m xs) ≡ true
unfolding is_rising
behind_rises m r [] e = refl
behind_rises m r (x ∷ xs) e = step (ℕ_discrete m x)
  where
    p : (m ≤ x) × (x < r) × (is_rising (suc x) r xs ≡ true)
    p = rising_parts m r x xs e

    step : Dec (m ≡ x) → is_rising (suc m) r (behind m (x ∷ xs)) ≡ true
    step (yes q) = simp (eq-eqb m x q) (subst (λ (k : ℕ). is_rising (suc k) r xs ≡ true) (sym q) p.2)
    step (no q) = simp (ne_eqb m x q) (from_first m r (suc m) (x ∷ xs) e (omega (arith, p.0)))

behind_same : (m : ℕ) (xs : List ℕ) (k : ℕ) → suc m ≤ k → is_member (behind m xs) k ≡ is_member xs k
behind_same m [] k l = refl
behind_same m (x ∷ xs) k l = step (ℕ_discrete m x)
  where
    step : Dec (m ≡ x) → is_member (behind m (x ∷ xs)) k ≡ is_member (x ∷ xs) k
    step (yes q) = simp (eq-eqb m x q, ne_eqb k x (λ (e : k ≡ x). omega arith))
    step (no q) = simp (ne_eqb m x q)

-- what is left of a list from b on
pub record Tail (r b : ℕ) (whole left : List ℕ) : Type 0 where
  pub rises : is_rising b r left ≡ true
  pub same : (k : ℕ) → b ≤ k → is_member left k ≡ is_member whole k

pub whole_tail : {r : ℕ} {l : List ℕ} → is_rising 0 r l ≡ true → Tail r 0 l l
whole_tail e = record { rises = e; same = λ k h. refl }

module _ {r b : ℕ} {whole left : List ℕ} (t : Tail r b whole left) where
  pub tail_low : b ≤ r → b ≤ get_or left 0 r
  tail_low l = first_low b r left t.rises l

  pub tail_high : get_or left 0 r ≤ r
  tail_high = first_high b r left t.rises

  pub tail_none : (k : ℕ) → b ≤ k → k < get_or left 0 r → is_member whole k ≡ false
  tail_none k l u = sym (t.same k l) ∙ none_below (suc k) r left (from_first b r (suc k) left t.rises u) k (omega arith)

  pub tail_from : (m : ℕ) → b ≤ m → m ≤ get_or left 0 r → Tail r m whole left
  tail_from m l u = record { rises = from_first b r m left t.rises u; same = λ k h. t.same k (omega arith) }

  pub tail_leads : is_member whole b ≡ is_leading b left
  tail_leads = sym (t.same b (omega arith)) ∙ leads_member b r left t.rises

  pub tail_behind : {left' : List ℕ} → left' ≡ behind b left → Tail r (suc b) whole left'
  tail_behind e =
      subst (Tail r (suc b) whole) (sym e)
      (record { rises = behind_rises b r left t.rises; same = λ k h. behind_same b left k h ∙ t.same k (omega arith) })

pub first_leads : (m r : ℕ) (xs : List ℕ) → m < r → m ≡ get_or xs 0 r → is_leading m xs ≡ true
first_leads m r [] l e = absurd (omega arith)
first_leads m r (x ∷ xs) l e = eq-eqb m x e

pub not_first : (m r : ℕ) (xs : List ℕ) → m < r → is_leading m xs ≡ false → m ≡ get_or xs 0 r → ⊥
not_first m r xs l f e = T_of (sym (sym f ∙ first_leads m r xs l e)) tt
