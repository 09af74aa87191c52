-- Lines, runs and gaps by their places.
use Prim.Native.Nat.{ℕ, zero, suc, ◌+◌, ◌-◌, ◌<◌, ◌≤◌, zero-le}
use native.Mathlib.Numerals.{add-one}
use native.Mathlib.Omega.{arith}
use mathlib.Core.Path.{◌≡◌, refl, sym, ap, ◌∙◌, subst}
use mathlib.Core.List.{List, [], ◌∷◌}
use mathlib.Core.Bool.{Bool, true, false, cond, ◌||◌}
use lib.Dec.{eqb}
use lib.ListN.{length, get_or, take, drop, length-drop, drop_of_length-le}
use lib.Seq.{drop-cons, take_all}
use borrow.Author.Tests.{eq-eqb, ne_eqb}
use Rattle.std.specs.Prelude.{Option, Some, None, MatchOption}
use Rattle.std.specs.List.{AllWithin, HoldsAt}
use Rattle.kinds.specs.Words.{space, line_end_lem, comment_mark}
use Rattle.lines.specs.Lines.{line_length, is_ended}
use Rattle.lines.specs.Tokens.{is_ending, is_delimiter, run}
use Rattle.lines.specs.Shapes.{gap}

-- what stands from a place on, as the code takes it
pub rest_is : (s : List ℕ) (at : ℕ) → take (length s - at) (drop at s) ≡ drop at s
rest_is s at = take_all (length s - at) (drop at s) (omega (arith, length-drop at s))

-- the line whose end is the first byte 10, or all bytes
line_none : (s : List ℕ) → ((k : ℕ) → k < length s → eqb (get_or s k 0) line_end_lem ≡ false) → line_length s ≡ length s
unfolding line_length
line_none [] h = refl
line_none (b ∷ s) h = rw (h 0 (omega arith)) (ap suc (line_none s (λ k l. h (suc k) (omega arith))))

line_some : (s : List ℕ) (i : ℕ) → i < length s → eqb (get_or s i 0) line_end_lem ≡ true → ((k : ℕ) → k < i → eqb (get_or s k 0) line_end_lem ≡ false) → line_length s ≡ suc i
unfolding line_length
line_some [] i l e h = absurd (omega arith)
line_some (b ∷ s) zero l e h = rw e
line_some (b ∷ s) (suc i) l e h = rw (h 0 (omega arith)) (ap suc (line_some s i (omega arith) e (λ k m. h (suc k) (omega arith))))

pub line_place : (s : List ℕ) (r : Option ℕ) {n : ℕ} → MatchOption r (AllWithin (λ b. eqb b line_end_lem ≡ false) s 0 (length s)) (λ i. (i < length s) × HoldsAt (λ b. eqb b line_end_lem ≡ true) s i × AllWithin (λ b. eqb b line_end_lem ≡ false) s 0 i) → MatchOption r (n ≡ length s) (λ i. n ≡ i + 1) → n ≡ line_length s
line_place s None h e = e ∙ sym (line_none s (λ k l. h k 0 zero-le l))
line_place s (Some i) h e = e ∙ add-one i ∙ sym (line_some s i h.0 (h.1 0) (λ k l. h.2 k 0 zero-le l))

-- a run
module _ (s : List ℕ) (i : ℕ) where
  pub run_goes_on : i < length s → is_delimiter (get_or s i 0) ≡ false → run (drop i s) ≡ suc (run (drop (i + 1) s))
  unfolding run
  run_goes_on h e = rw (add-one, drop-cons s i 0, e)

  pub run_ends : i < length s → is_delimiter (get_or s i 0) ≡ true → run (drop i s) ≡ 0
  unfolding run
  run_ends h e = rw (drop-cons s i 0, e)

  pub run_out : length s ≤ i → run (drop i s) ≡ 0
  unfolding run
  run_out h = rw (drop_of_length-le s h)

pub run_le : (s : List ℕ) → run s ≤ length s
unfolding run
run_le [] = zero-le
run_le (b ∷ s) = go (is_delimiter b) (run_le s)
  where
    go : (x : Bool) → run s ≤ length s → cond x 0 (suc (run s)) ≤ suc (length s)
    go true h = zero-le
    go false h = omega arith

-- a gap
module _ (s : List ℕ) (i : ℕ) where
  pub gap_goes_on : i < length s → get_or s i 0 ≡ space → gap (drop i s) ≡ suc (gap (drop (i + 1) s))
  unfolding gap
  gap_goes_on h e = rw (add-one, drop-cons s i 0, eq-eqb _ _ e)

  pub gap_ends : i < length s → (get_or s i 0 ≡ space → ⊥) → gap (drop i s) ≡ 0
  unfolding gap
  gap_ends h e = rw (drop-cons s i 0, ne_eqb _ _ e)

  pub gap_out : length s ≤ i → gap (drop i s) ≡ 0
  unfolding gap
  gap_out h = rw (drop_of_length-le s h)

pub gap_le : (s : List ℕ) → gap s ≤ length s
unfolding gap
gap_le [] = zero-le
gap_le (b ∷ s) = go (eqb b space) (gap_le s)
  where
    go : (x : Bool) → gap s ≤ length s → cond x (suc (gap s)) 0 ≤ suc (length s)
    go true h = omega arith
    go false h = zero-le

-- a line's last byte
pub last_byte : (l : List ℕ) (i : ℕ) → length l ≡ suc i → is_ended l ≡ eqb (get_or l i 0) line_end_lem
last_byte [] i e = absurd (omega arith)
last_byte (b ∷ []) zero e = refl
last_byte (b ∷ []) (suc i) e = absurd (omega arith)
last_byte (b ∷ (c ∷ l)) zero e = absurd (omega arith)
last_byte (b ∷ (c ∷ l)) (suc i) e = last_byte (c ∷ l) i (omega arith)

pub empty_unended : (l : List ℕ) → length l ≡ 0 → false ≡ is_ended l
empty_unended [] e = refl
empty_unended (b ∷ l) e = absurd (omega arith)

pub ended_is : (l : List ℕ) {A : Type 0} (f : A → ℕ) (q : Option A) {r : Bool} → MatchOption q (length l ≡ 0) (λ x. (0 < length l) × (f x ≡ get_or l (length l - 1) 0)) → MatchOption q (r ≡ false) (λ x. r ≡ eqb (f x) line_end_lem) → r ≡ is_ended l
ended_is l f None m n = n ∙ empty_unended l m
ended_is l f (Some x) m n = n ∙ ap (λ b. eqb b line_end_lem) m.1 ∙ sym (last_byte l (length l - 1) (omega (arith, m.0)))

-- a byte behind which nothing counts

pub mark_ends : (b : ℕ) → b ≡ comment_mark → eqb b comment_mark ≡ is_ending b
mark_ends b e = subst (λ c. eqb c comment_mark ≡ is_ending c) (sym e) refl

pub others_end : (b : ℕ) → (b ≡ comment_mark → ⊥) → eqb b line_end_lem ≡ is_ending b
others_end b n = sym (ap (λ (t : Bool). t || eqb b line_end_lem) (ne_eqb b comment_mark n))
