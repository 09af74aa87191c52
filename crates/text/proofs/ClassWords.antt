-- For class words that never fall, the atoms of a class word are the run between two counts.
use Prim.Native.Nat.{ℕ, zero, suc, ◌+◌, ◌-◌, ◌≤◌, ◌<◌}
use native.Mathlib.Omega.{arith}
use mathlib.Core.Path.{◌≡◌, refl, sym, ap, ap₂, ◌∙◌}
use mathlib.Core.Bool.{Bool, true, false, cond}
use mathlib.Core.List.{List, [], ◌∷◌, ◌++◌, append-nil}
use lib.Dec.{leb, eqb}
use lib.ListN.{length, get_or, drop}
use borrow.Author.Tests.{le-leb, leb-true, leb-false, eq-eqb, ne_eqb}
use Rattle.std.specs.List.{prefix_len}
use Rattle.rules.specs.Lists.{keep, filter, from}
use Rattle.rules.specs.Rules.{count_if}
use Rattle.rules.specs.Preferred.{of_class}
use Rattle.rules.proofs.Lists.{from_append}
use Rattle.rules.proofs.Filtered.{filter_app}
use Rattle.stores.specs.Program.{NeverFalling}
use Rattle.stores.proofs.RuleTests.{rising_from}
use Rattle.text.specs.ClassRuns.{up_to}

module _ (p : ℕ → Bool) where
  filter_none : (s c : ℕ) → ((a : ℕ) → s ≤ a → a < s + c → p a ≡ false) → filter p (from s c) ≡ []
  filter_none s zero h = refl
  filter_none s (suc c) h =
      ap (λ (b : Bool). keep b s (filter p (from (suc s) c))) (h s (omega arith) (omega arith)) ∙ filter_none (suc s) c (λ a l u. h a (omega arith) (omega arith))

  filter_every : (s c : ℕ) → ((a : ℕ) → s ≤ a → a < s + c → p a ≡ true) → filter p (from s c) ≡ from s c
  filter_every s zero h = refl
  filter_every s (suc c) h =
      ap (λ (b : Bool). keep b s (filter p (from (suc s) c))) (h s (omega arith) (omega arith))
      ∙ ap (λ (l : List ℕ). s ∷ l) (filter_every (suc s) c (λ a l u. h a (omega arith) (omega arith)))

  -- a test that holds from a to b only
  filter_run : (n a b : ℕ) → a ≤ b → b ≤ n
      → ((i : ℕ) → i < a → p i ≡ false)
      → ((i : ℕ) → a ≤ i → i < b → p i ≡ true)
      → ((i : ℕ) → b ≤ i → i < n → p i ≡ false)
      → filter p (from 0 n) ≡ from a (b - a)
  filter_run n a b l u before inside after =
      let e : n ≡ a + (b - a + (n - b)) = omega arith in
      let z : 0 + a ≡ a = omega arith in
      let y : a + (b - a) ≡ b = omega arith in
      ap (λ (k : ℕ). filter p (from 0 k)) e
      ∙ ap (filter p) (sym (from_append 0 a (b - a + (n - b))) ∙ ap (λ (k : ℕ). from 0 a ++ from k (b - a + (n - b))) z)
      ∙ filter_app p (from 0 a) (from a (b - a + (n - b)))
      ∙ ap₂ (λ (x : List ℕ) (q : List ℕ). x ++ filter p q) (filter_none 0 a (λ i k m. before i (omega arith))) (sym (from_append a (b - a) (n - b)) ∙ ap (λ (k : ℕ). from a (b - a) ++ from k (n - b)) y)
      ∙ filter_app p (from a (b - a)) (from b (n - b))
      ∙ ap₂ (λ (x z : List ℕ). x ++ z) (filter_every a (b - a) (λ i k m. inside i k (omega arith))) (filter_none b (n - b) (λ i k m. after i k (omega arith)))
      ∙ append-nil (from a (b - a))

-- what the count says of each word

pub up_to_le : (w : ℕ) (ws : List ℕ) → up_to w ws ≤ length ws
unfolding up_to
up_to_le w [] = omega arith
up_to_le w (x ∷ ws) = go (leb x w) (up_to_le w ws)
  where
    go : (b : Bool) → up_to w ws ≤ length ws → count_if b (up_to w ws) ≤ suc (length ws)
    go true h = omega arith
    go false h = omega arith

pub up_to_rises : (v w : ℕ) → v ≤ w → (ws : List ℕ) → up_to v ws ≤ up_to w ws
unfolding up_to
up_to_rises v w l [] = omega arith
up_to_rises v w l (x ∷ ws) = go (leb x v) refl (up_to_rises v w l ws)
  where
    go : (b : Bool) → leb x v ≡ b → up_to v ws ≤ up_to w ws → count_if b (up_to v ws) ≤ count_if (leb x w) (up_to w ws)
    go true e h = let k : leb x w ≡ true = le-leb x w (omega (arith, leb-true x v e)) in rw k (omega arith)
    go false e h = omega arith

pub within : (w : ℕ) (ws : List ℕ) (i : ℕ) → i < up_to w ws → get_or ws i 0 ≤ w
unfolding up_to
within w [] i l = absurd (omega arith)
within w (x ∷ ws) zero l = go (leb x w) refl l
  where
    go : (b : Bool) → leb x w ≡ b → 0 < count_if b (up_to w ws) → x ≤ w
    go true e h = leb-true x w e
    go false e h = absurd (omega arith)
within w (x ∷ ws) (suc i) l = go (leb x w) (within w ws i) l
  where
    go : (b : Bool) → (i < up_to w ws → get_or ws i 0 ≤ w) → suc i < count_if b (up_to w ws) → get_or ws i 0 ≤ w
    go true f h = f (omega arith)
    go false f h = absurd (omega arith)

past : (w b : ℕ) (ws : List ℕ) → NeverFalling b ws → (i : ℕ) → up_to w ws ≤ i → i < length ws → w < get_or ws i 0
unfolding up_to
past w b [] r i l u = absurd (omega arith)
past w b (x ∷ ws) r zero l u = go (leb x w) refl l
  where
    go : (c : Bool) → leb x w ≡ c → count_if c (up_to w ws) ≤ 0 → w < x
    go true e h = absurd (omega arith)
    go false e h = leb-false x w e
past w b (x ∷ ws) r (suc i) l u = go (leb x w) refl (past w x ws r.1 i) l
  where
    go : (c : Bool) → leb x w ≡ c → (up_to w ws ≤ i → i < length ws → w < get_or ws i 0) → count_if c (up_to w ws) ≤ suc i → w < get_or ws i 0
    go true e f h = f (omega arith) (omega arith)
    go false e f h = omega (arith, leb-false x w e, rising_from x ws r.1 i (omega arith))

-- the atoms of class word w, of which none is between v and w
pub class_run : (v w : ℕ) (ws : List ℕ) → NeverFalling 0 ws → v < w → ((i : ℕ) → i < length ws → v < get_or ws i 0 → w ≤ get_or ws i 0)
    → of_class ws w ≡ from (up_to v ws) (up_to w ws - up_to v ws)
class_run v w ws r l gap =
    filter_run (λ a. eqb (get_or ws a 0) w) (length ws) (up_to v ws) (up_to w ws) (up_to_rises v w (omega arith) ws) (up_to_le w ws)
    (λ i h. ne_eqb (get_or ws i 0) w (λ e. omega (arith, within v ws i h, e)))
    (λ i h k.
    let fits : i < length ws = omega (arith, up_to_le w ws) in
    eq-eqb (get_or ws i 0) w (omega (arith, within w ws i k, gap i fits (past v 0 ws r i h fits))))
    (λ i h k. ne_eqb (get_or ws i 0) w (λ e. omega (arith, past w 0 ws r i h k, e)))

pub stops : (w : ℕ) (ws : List ℕ) → up_to w ws < length ws → w < get_or ws (up_to w ws) 0
unfolding up_to
stops w [] l = absurd (omega arith)
stops w (x ∷ ws) l = go (leb x w) refl (stops w ws) l
  where
    go : (b : Bool) → leb x w ≡ b → (up_to w ws < length ws → w < get_or ws (up_to w ws) 0) → count_if b (up_to w ws) < suc (length ws) → w < get_or (x ∷ ws) (count_if b (up_to w ws)) 0
    go true e f h = f (omega arith)
    go false e f h = leb-false x w e

-- the count, from a word before its end on
pub up_to_from : (w : ℕ) (ws : List ℕ) (first : ℕ) → first ≤ up_to w ws → first + prefix_len (λ x. leb x w) (drop first ws) ≡ up_to w ws
unfolding up_to
up_to_from w [] zero l = refl
up_to_from w [] (suc first) l = absurd (omega arith)
up_to_from w (x ∷ ws) zero l = go (leb x w) (up_to_from w ws zero (omega arith))
  where
    go : (b : Bool) → 0 + prefix_len (λ x. leb x w) ws ≡ up_to w ws → 0 + cond b (1 + prefix_len (λ x. leb x w) ws) 0 ≡ count_if b (up_to w ws)
    go true e = omega arith
    go false e = refl
up_to_from w (x ∷ ws) (suc first) l = go (leb x w) (up_to_from w ws first) l
  where
    go : (b : Bool) → (first ≤ up_to w ws → first + prefix_len (λ x. leb x w) (drop first ws) ≡ up_to w ws) → suc first ≤ count_if b (up_to w ws) → suc first + prefix_len (λ x. leb x w) (drop first ws) ≡ count_if b (up_to w ws)
    go true f h = omega (arith, f (omega arith))
    go false f h = absurd (omega arith)
