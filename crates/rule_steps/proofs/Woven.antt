-- The lists of a rule that two splits write: each stands where its step wants it.
use Prim.Native.Nat.{ℕ, ◌+◌, ◌-◌, ◌≤◌}
use native.Mathlib.Omega.{arith}
use mathlib.Core.Path.{◌≡◌, sym, ap, ◌∙◌}
use mathlib.Core.List.{List, [], ◌∷◌, ◌++◌, append_assoc}
use lib.ListN.{length, length-append}
use lib.Seq.{sets}
use Rattle.output.specs.Emitted.{Emitted, InRange}
use Rattle.output.proofs.Emitting.{Ahead, then, renamed, sets_append, sets_front}
use Rattle.atom_lists.specs.Split.{count_below, lows, highs, split_into, SplitFits}
use Rattle.atom_lists.specs.declared.split.Split.{Split}
use Rattle.atom_lists.proofs.Splitting.{lows_length, highs_length, few_below}
use Rattle.steps.specs.RuleLists.{RuleLists}
use Rattle.steps.specs.StepWords.{split_from, lists2, lists3}

-- a and c, then b between them and e behind
woven2 : (d : List ℕ) (p : ℕ) (a b c e : List ℕ) {q r s : ℕ} → q ≡ p + length a → r ≡ q + length b → s ≡ r + length c
    → sets (sets (sets (sets d p a) r c) q b) s e ≡ sets d p (a ++ (b ++ (c ++ e)))
woven2 d p a b c e {q} {r} {s} i j k =
    ap (λ (x : List ℕ). sets x s e) (sets_front (sets d p a) q b r c j ∙ ap (λ (o : ℕ). sets (sets d p a) o (b ++ c)) i ∙ sets_append d p a (b ++ c))
    ∙ ap (λ (o : ℕ). sets (sets d p (a ++ (b ++ c))) o e) (omega (arith, i, j, k, length-append a (b ++ c), length-append b c))
    ∙ sets_append d p (a ++ (b ++ c)) e
    ∙ ap (sets d p) (append_assoc a (b ++ c) e ∙ ap (λ (x : List ℕ). a ++ x) (append_assoc b c e))

-- u, b and c, then a in front of them and e behind
woven3 : (d : List ℕ) (p : ℕ) (a : List ℕ) (u : ℕ) (b c e : List ℕ) {o q r s : ℕ} → o ≡ p + length a → q ≡ o + 1 → r ≡ q + length b → s ≡ r + length c
    → sets (sets (sets (sets (sets d o (u ∷ [])) q b) r c) p a) s e ≡ sets d p (a ++ (u ∷ (b ++ (c ++ e))))
woven3 d p a u b c e {o} {q} {r} {s} h i j k =
    ap (λ (x : List ℕ). sets (sets x p a) s e) middle
    ∙ ap (λ (x : List ℕ). sets x s e) (sets_front d p a o (u ∷ (b ++ c)) h)
    ∙ ap (λ (l : ℕ). sets (sets d p (a ++ (u ∷ (b ++ c)))) l e) (omega (arith, h, i, j, k, length-append a (u ∷ (b ++ c)), length-append b c))
    ∙ sets_append d p (a ++ (u ∷ (b ++ c))) e
    ∙ ap (sets d p) (append_assoc a (u ∷ (b ++ c)) e ∙ ap (λ (x : List ℕ). a ++ (u ∷ x)) (append_assoc b c e))
  where
    middle : sets (sets (sets d o (u ∷ [])) q b) r c ≡ sets d o (u ∷ (b ++ c))
    middle =
        ap (λ (l : ℕ). sets (sets (sets d o (u ∷ [])) l b) r c) i
        ∙ ap (λ (x : List ℕ). sets x r c) (sets_append d o (u ∷ []) b)
        ∙ ap (λ (l : ℕ). sets (sets d o (u ∷ b)) l c) (omega (arith, i, j))
        ∙ sets_append d o (u ∷ b) c

-- step 2
module _ (m n : ℕ) (h b : List ℕ) where
  abbrev rest2 : List ℕ
  rest2 = lows (split_from m 0 0) h ++ (lows (split_from m 0 n) b ++ (highs (split_from m 0 0) h ++ highs (split_from m 0 n) b))

  abbrev pub counts2 : ℕ → ℕ → List ℕ
  counts2 i j = i ∷ j ∷ (length h - i + (length b - j)) ∷ []

  long2 : length (lists2 m n h b) ≡ 3 + (length h + length b)
  unfolding lists2
  long2 = omega (
    arith,
    length-append (lows (split_from m 0 0) h) (lows (split_from m 0 n) b ++ (highs (split_from m 0 0) h ++ highs (split_from m 0 n) b)),
    length-append (lows (split_from m 0 n) b) (highs (split_from m 0 0) h ++ highs (split_from m 0 n) b),
    length-append (highs (split_from m 0 0) h) (highs (split_from m 0 n) b),
    lows_length (split_from m 0 0) h,
    lows_length (split_from m 0 n) b,
    highs_length (split_from m 0 0) h,
    highs_length (split_from m 0 n) b,
  )

  module _ {i j : ℕ} (i-is : i ≡ count_below m h) (j-is : j ≡ count_below m b) where
    pub counted2 : Ahead (lists2 m n h b) (counts2 i j) rest2
    unfolding lists2
    counted2 = record { is = rw (← i-is, ← j-is) }

    module _ (fit : RuleLists h b) (small : n ≤ 256) {at : ℕ} (range : InRange at (lists2 m n h b)) {d d₀ : List ℕ} {first : ℕ} (e : Emitted d at (counts2 i j) d₀ first) where
      pub heads_fit2 : SplitFits (split_from m 0 0) h first (first + i + j)
      heads_fit2 = record {
        atoms = fit.heads_below;
        shifts = (omega arith, omega arith);
        apart = omega (arith, i-is, lows_length (split_from m 0 0) h);
        range = record { below = omega (arith, i-is, j-is, e.place, range.below, long2, highs_length (split_from m 0 0) h, few_below m b) };
      }

      pub bodies_fit2 : SplitFits (split_from m 0 n) b (first + i) (first + i + j + (length h - i))
      bodies_fit2 = record {
        atoms = fit.bodies_below;
        shifts = (omega arith, omega arith);
        apart = omega (arith, j-is, lows_length (split_from m 0 n) b);
        range = record { below = omega (arith, i-is, j-is, e.place, range.below, long2, highs_length (split_from m 0 n) b, few_below m h) };
      }

      pub split2 : {d₁ d₂ : List ℕ} → d₁ ≡ split_into (split_from m 0 0) d₀ h first (first + i + j) → d₂ ≡ split_into (split_from m 0 n) d₁ b (first + i) (first + i + j + (length h - i))
          → Emitted d at (lists2 m n h b) d₂ (first + i + j + (length h - i) + (length b - j))
      unfolding split_into
      split2 {d₁} {d₂} f g = renamed (then e (record {
        place = omega (arith, i-is, j-is, ap length counted2.is, long2, few_below m h, few_below m b);
        bytes =
            g ∙ ap (λ (x : List ℕ). sets (sets x (first + i) (lows (split_from m 0 n) b)) (first + i + j + (length h - i)) (highs (split_from m 0 n) b)) f
            ∙ woven2 d₀ first (lows (split_from m 0 0) h) (lows (split_from m 0 n) b) (highs (split_from m 0 0) h) (highs (split_from m 0 n) b)
            (omega (arith, i-is, lows_length (split_from m 0 0) h)) (omega (arith, j-is, lows_length (split_from m 0 n) b)) (omega (arith, i-is, highs_length (split_from m 0 0) h));
      })) (sym counted2.is)

-- step 3
module _ (q s u : ℕ) (h b : List ℕ) where
  abbrev copied : Split
  copied = split_from q s 0

  abbrev rest3 : List ℕ
  rest3 = lows copied h ++ (u ∷ (lows copied b ++ (highs copied b ++ highs copied h)))

  abbrev pub counts3 : ℕ → List ℕ
  counts3 i = (i + 1) ∷ length b ∷ (length h - i) ∷ []

  long3 : length (lists3 q s u h b) ≡ 4 + (length h + length b)
  unfolding lists3
  long3 = omega (
    arith,
    length-append (lows copied h) (u ∷ (lows copied b ++ (highs copied b ++ highs copied h))),
    length-append (lows copied b) (highs copied b ++ highs copied h),
    length-append (highs copied b) (highs copied h),
    lows_length copied h,
    lows_length copied b,
    highs_length copied h,
    highs_length copied b,
  )

  module _ {i j : ℕ} (i-is : i ≡ count_below q h) (j-is : j ≡ count_below q b) where
    pub counted3 : Ahead (lists3 q s u h b) (counts3 i) rest3
    unfolding lists3
    counted3 = record { is = rw (← i-is) }

    module _ (fit : RuleLists h b) (small : s ≤ 1100) {at : ℕ} (range : InRange at (lists3 q s u h b)) {d d₀ : List ℕ} {first : ℕ} (e : Emitted d at (counts3 i) d₀ first) where
      pub push_fits3 : InRange (first + i) (u ∷ [])
      push_fits3 = record { below = omega (arith, i-is, e.place, range.below, long3, few_below q h) }

      module _ {d₁ : List ℕ} {second : ℕ} (p : Emitted d₀ (first + i) (u ∷ []) d₁ second) where
        pub bodies_fit3 : SplitFits copied b second (second + j)
        bodies_fit3 = record {
          atoms = fit.bodies_below;
          shifts = (small, omega arith);
          apart = omega (arith, j-is, lows_length copied b);
          range = record { below = omega (arith, i-is, j-is, e.place, p.place, range.below, long3, highs_length copied b, few_below q h) };
        }

        pub heads_fit3 : SplitFits copied h first (second + j + (length b - j))
        heads_fit3 = record {
          atoms = fit.heads_below;
          shifts = (small, omega arith);
          apart = omega (arith, i-is, p.place, lows_length copied h);
          range = record { below = omega (arith, i-is, j-is, e.place, p.place, range.below, long3, highs_length copied h, few_below q b) };
        }

        pub split3 : {d₂ d₃ : List ℕ} → d₂ ≡ split_into copied d₁ b second (second + j) → d₃ ≡ split_into copied d₂ h first (second + j + (length b - j))
            → Emitted d at (lists3 q s u h b) d₃ (second + j + (length b - j) + (length h - i))
        unfolding split_into
        split3 {d₂} {d₃} f g = renamed (then e (record {
          place = omega (arith, i-is, j-is, p.place, ap length counted3.is, long3, few_below q h, few_below q b);
          bytes =
              g ∙ ap (λ (x : List ℕ). sets (sets x first (lows copied h)) (second + j + (length b - j)) (highs copied h)) (f ∙ ap (λ (x : List ℕ). sets (sets x second (lows copied b)) (second + j) (highs copied b)) p.bytes)
              ∙ woven3 d₀ first (lows copied h) u (lows copied b) (highs copied b) (highs copied h)
              (omega (arith, i-is, lows_length copied h)) p.place (omega (arith, j-is, lows_length copied b)) (omega (arith, j-is, highs_length copied b));
        })) (sym counted3.is)
