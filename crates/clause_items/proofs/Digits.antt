-- A number by its digits, one after another.
use Prim.Native.Nat.{ℕ, ◌+◌, ◌-◌, ◌*◌, ◌<◌, ◌≤◌}
use native.Mathlib.Nat.{add-zero}
use native.Mathlib.Omega.{arith}
use mathlib.Core.Path.{◌≡◌, refl, sym, ap, ◌∙◌}
use mathlib.Core.List.{List, [], ◌∷◌}
use mathlib.Core.Bool.{Bool, true, false, not, ◌||◌, or-true}
use lib.Dec.{eqb}
use lib.ListN.{length, get_or, take, drop}
use lib.Seq.{length-take-le, get_or-take, get_or-drop}
use borrow.Author.Tests.{eq-eqb, ne_eqb}
use Rattle.rules.specs.Lists.{every}
use Rattle.rules.proofs.Booleans.{and-false}
use Rattle.names.specs.Numerals.{is_digit, is_numeral, value_from, value}
use Rattle.names.proofs.Numerals.{digit_range}
use Rattle.clauses.specs.Items.{is_separator, run}
use Rattle.std.specs.Prelude.{None}
use Rattle.clause_items.specs.Found.{largest, capped, front, found, number_at}
use Rattle.clause_items.proofs.CappedLaws.{capped_le, capped_small, capped_digits}
use Rattle.clause_items.proofs.Gaps.{run_le, run_out, run_ends, run_goes_on, front_goes_on}

digit_inside : (b : ℕ) → is_digit b ≡ true → is_separator b ≡ false
digit_inside b e = let r = digit_range b e in simp (ne_eqb b 32 (λ q. omega arith), ne_eqb b 10 (λ q. omega arith))

-- what stands from `at` to `to` is all digits, up to a separator or the end, and says v
record DigitsTo (line : List ℕ) (at to v : ℕ) : Type 0 where
  place : to ≡ at + run (drop at line)
  digits : every is_digit (front (drop at line)) ≡ true
  says : v ≡ capped (value (front (drop at line)))

-- the digits from `at` to i are passed, and say v
pub record Digits (line : List ℕ) (at i v : ℕ) : Type 0 where
  pub inside : i ≤ length line
  pub small : v ≤ largest
  pub place : i + run (drop i line) ≡ at + run (drop at line)
  pub left : every is_digit (front (drop i line)) ≡ every is_digit (front (drop at line))
  pub says : capped (value_from v (front (drop i line))) ≡ capped (value (front (drop at line)))

pub digits_begin : (line : List ℕ) (at : ℕ) → at ≤ length line → Digits line at at 0
unfolding value
digits_begin line at h = record { inside = h; small = omega arith; place = refl; left = refl; says = refl }

module _ {line : List ℕ} {at i v : ℕ} (d : Digits line at i v) where
  digits_end : run (drop i line) ≡ 0 → DigitsTo line at i v
  digits_end e =
      let f : front (drop i line) ≡ [] = ap (λ (n : ℕ). take n (drop i line)) e in
      record {
        place = omega (arith, d.place);
        digits = sym d.left ∙ ap (every is_digit) f;
        says = sym (capped_small v d.small) ∙ ap (λ (x : List ℕ). capped (value_from v x)) (sym f) ∙ d.says;
      }

  module _ (l : i < length line) where
    pub digits_again : is_digit (get_or line i 0) ≡ true → {w : ℕ} → w ≡ capped (10 * v + (get_or line i 0 - 48)) → Digits line at (i + 1) w
    digits_again e {w} q =
        let b = get_or line i 0 in
        let n : is_separator b ≡ false = digit_inside b e in
        let f = front_goes_on line i l n in
        record {
          inside = omega arith;
          small = rw q (capped_le (10 * v + (b - 48)));
          place = omega (arith, d.place, run_goes_on line i l n);
          left = sym (ap (every is_digit) f ∙ rw e) ∙ d.left;
          says = ap (λ (n : ℕ). capped (value_from n (front (drop (i + 1) line)))) q
              ∙ capped_digits (10 * v + (b - 48)) (front (drop (i + 1) line))
              ∙ ap (λ (x : List ℕ). capped (value_from v x)) (sym f)
              ∙ d.says;
        }

    pub digits_broken : is_digit (get_or line i 0) ≡ false → is_separator (get_or line i 0) ≡ false → None ≡ number_at at (drop at line)
    unfolding number_at
    digits_broken e n =
        let f = front_goes_on line i l n in
        let k : every is_digit (front (drop at line)) ≡ false = sym d.left ∙ ap (every is_digit) f ∙ rw e in
        simp (no_numeral (front (drop at line)) k)
      where
        no_numeral : (x : List ℕ) → every is_digit x ≡ false → is_numeral x ≡ false
        no_numeral [] e = refl
        no_numeral (b ∷ x) e = simp e

-- digits that have ended
leading : (x : List ℕ) → every is_digit x ≡ true → (length x ≡ 0 → ⊥) → is_numeral x ≡ not (eqb (get_or x 0 0) 48) || eqb (length x) 1
leading [] e n = absurd (n refl)
leading (b ∷ []) e n = simp e
leading (b ∷ c ∷ x) e n = simp (e, ne_eqb (length (b ∷ c ∷ x)) 1 (λ q. omega arith))

module _ {line : List ℕ} {at to v : ℕ} (d : DigitsTo line at to v) where
  number_none : to ≡ at → None ≡ number_at at (drop at line)
  unfolding number_at
  number_none e =
      let r : run (drop at line) ≡ 0 = omega (arith, d.place) in
      simp r

  module _ (some : to ≡ at → ⊥) where
    numeral_is : is_numeral (front (drop at line)) ≡ not (eqb (get_or line at 0) 48) || eqb (to - at) 1
    numeral_is =
        let n : length (front (drop at line)) ≡ to - at = length-take-le (run (drop at line)) (drop at line) (run_le (drop at line)) ∙ omega (arith, d.place) in
        let r : 0 < run (drop at line) = omega (arith, d.place) in
        let g : get_or (front (drop at line)) 0 0 ≡ get_or line at 0 = get_or-take (run (drop at line)) (drop at line) 0 0 r ∙ get_or-drop at line 0 0 ∙ ap (λ (n : ℕ). get_or line n 0) (add-zero at) in
        leading (front (drop at line)) d.digits (λ q. omega arith) ∙ simp (n, g)

    number_found : is_numeral (front (drop at line)) ≡ true → found v to ≡ number_at at (drop at line)
    unfolding number_at
    number_found e = simp (e, d.says, d.place)

    number_plain : (get_or line at 0 ≡ 48 → ⊥) → found v to ≡ number_at at (drop at line)
    number_plain e = number_found (numeral_is ∙ simp (ne_eqb _ _ e))

    number_zero : to - at ≡ 1 → found v to ≡ number_at at (drop at line)
    number_zero e = number_found (numeral_is ∙ simp (eq-eqb _ _ e, or-true))

-- by the first byte
module _ (line : List ℕ) (at : ℕ) where
  pub number_absent : length line ≤ at → at ≤ length line → None ≡ number_at at (drop at line)
  number_absent o h = number_none (digits_end (digits_begin line at h) (run_out line at o)) refl

  module _ (l : at < length line) where
    pub number_wrong : is_digit (get_or line at 0) ≡ false → None ≡ number_at at (drop at line)
    number_wrong e = go (is_separator (get_or line at 0)) refl
      where
        go : (s : Bool) → is_separator (get_or line at 0) ≡ s → None ≡ number_at at (drop at line)
        go true q = number_none (digits_end (digits_begin line at (omega arith)) (run_ends line at l q)) refl
        go false q = digits_broken (digits_begin line at (omega arith)) l e q

    -- 0 first
    module _ (z : get_or line at 0 ≡ 48) where
      zero_passed : Digits line at (at + 1) 0
      zero_passed = digits_again (digits_begin line at (omega arith)) l (rw z) (rw z)

      pub zero_alone : run (drop (at + 1) line) ≡ 0 → found 0 (at + 1) ≡ number_at at (drop at line)
      zero_alone r = number_zero (digits_end zero_passed r) (λ q. omega arith) (omega arith)

      pub zero_led : at + 1 < length line → is_separator (get_or line (at + 1) 0) ≡ false → None ≡ number_at at (drop at line)
      unfolding number_at
      zero_led m n =
          let f : front (drop at line) ≡ get_or line at 0 ∷ (get_or line (at + 1) 0 ∷ front (drop (at + 1 + 1) line)) = front_goes_on line at l (digit_inside (get_or line at 0) (rw z)) ∙ ap (λ x. get_or line at 0 ∷ x) (front_goes_on line (at + 1) m n) in
          let k : is_numeral (front (drop at line)) ≡ false = ap is_numeral f ∙ not_led (get_or line at 0) (get_or line (at + 1) 0) (front (drop (at + 1 + 1) line)) z in
          simp k
        where
          not_led : (b c : ℕ) (x : List ℕ) → b ≡ 48 → is_numeral (b ∷ c ∷ x) ≡ false
          not_led b c x e = rw e (and-false (every is_digit (c ∷ x)))

    -- another digit first
    pub number_ended : is_digit (get_or line at 0) ≡ true → (get_or line at 0 ≡ 48 → ⊥) → {i v : ℕ} → Digits line at i v → run (drop i line) ≡ 0 → found v i ≡ number_at at (drop at line)
    number_ended e z {i} {v} d r =
        let n = run_goes_on line at l (digit_inside (get_or line at 0) e) in number_plain (digits_end d r) (λ q. omega (arith, d.place)) z
