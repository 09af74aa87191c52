-- Splitting a list: what stands written after some of its atoms.
use Prim.Native.Nat.{ℕ, ◌+◌, ◌^◌, ◌≤◌, ◌<◌}
use native.Mathlib.Omega.{arith}
use native.Mathlib.Nat.{add-zero}
use mathlib.Core.Path.{◌≡◌, refl, sym, ap, ap₂, ◌∙◌}
use mathlib.Core.Bool.{Bool, true, false, not, cond}
use mathlib.Core.List.{List, [], ◌∷◌, ◌++◌, append_assoc, append-nil}
use lib.ListN.{length, get_or, drop, length-append, length-map}
use lib.Seq.{sets, length-sets}
use Rattle.rules.specs.Lists.{keep, filter}
use Rattle.pairing.specs.Loops.{below, beyond}
use Rattle.pairing.proofs.SumLaws.{length_parts}
use Rattle.output.proofs.Emitting.{sets_append, sets_comm}
use Rattle.atom_lists.specs.ListWords.{raised}
use Rattle.atom_lists.specs.Split.{count_below, lows, highs, split_into, SplitFits}
use Rattle.atom_lists.specs.declared.split.Split.{Split}
use Rattle.atom_lists.proofs.ListLaws.{list_next, list_ends, each_raised}

pub cond_le : (b : Bool) {x y k : ℕ} → x ≤ k → y ≤ k → cond b x y ≤ k
cond_le true l u = l
cond_le false l u = u

-- how long the two parts are
module _ (split : Split) (xs : List ℕ) where
  pub lows_length : length (lows split xs) ≡ count_below split.end xs
  unfolding lows count_below
  lows_length = ap length (each_raised (below split.end) split.low xs) ∙ length-map (filter (below split.end) xs) (λ a. split.low + a)

  pub highs_length : length (highs split xs) + count_below split.end xs ≡ length xs
  unfolding highs count_below
  highs_length = omega (arith, ap length (each_raised (beyond split.end) split.high xs), length-map (filter (beyond split.end) xs) (λ a. split.high + a), length_parts (below split.end) xs)

pub few_below : (end : ℕ) (xs : List ℕ) → count_below end xs ≤ length xs
unfolding count_below
few_below end xs = omega (arith, length_parts (below end) xs)

module _ (split : Split) (xs before : List ℕ) (at behind : ℕ) where
  -- after i atoms
  pub record Splitting (i : ℕ) (now : List ℕ) (low high : ℕ) : Type 0 where
    pub passed : i ≤ length xs
    pub fits : SplitFits split xs at behind
    pub low_written : List ℕ
    pub high_written : List ℕ
    pub low_all : low_written ++ lows split (drop i xs) ≡ lows split xs
    pub high_all : high_written ++ highs split (drop i xs) ≡ highs split xs
    pub low_is : low ≡ at + length low_written
    pub high_is : high ≡ behind + length high_written
    pub so : now ≡ sets (sets before at low_written) behind high_written

  pub split_begins : SplitFits split xs at behind → Splitting 0 before at behind
  split_begins f = record {
    passed = omega arith;
    fits = f;
    low_written = [];
    high_written = [];
    low_all = refl;
    high_all = refl;
    low_is = sym (add-zero at);
    high_is = sym (add-zero behind);
    so = refl;
  }

module _ {split : Split} {xs before : List ℕ} {at behind i : ℕ} {now : List ℕ} {low high : ℕ} (h : Splitting split xs before at behind i now low high) (l : i < length xs) where
  abbrev a : ℕ
  a = get_or xs i 0

  abbrev lower : ℕ
  lower = split.low + a

  abbrev higher : ℕ
  higher = split.high + a

  lows_next : {t : Bool} → below split.end a ≡ t → lows split (drop i xs) ≡ keep t lower [] ++ lows split (drop (i + 1) xs)
  unfolding lows raised
  lows_next e = (list_next (raised (below split.end) split.low) xs l).is ∙ ap (λ (t : Bool). keep t lower [] ++ lows split (drop (i + 1) xs)) e

  highs_next : {t : Bool} → below split.end a ≡ t → highs split (drop i xs) ≡ keep (not t) higher [] ++ highs split (drop (i + 1) xs)
  unfolding highs raised
  highs_next e = (list_next (raised (beyond split.end) split.high) xs l).is ∙ ap (λ (t : Bool). keep (not t) higher [] ++ highs split (drop (i + 1) xs)) e

  low_room : below split.end a ≡ true → low + 1 ≤ behind
  low_room e = omega (arith, h.low_is, h.fits.apart, ap length h.low_all, length-append h.low_written (lows split (drop i xs)), ap length (lows_next e))

  high_room : below split.end a ≡ false → high + 1 < 2 ^ 63
  high_room e = omega (arith, h.high_is, h.fits.range.below, ap length h.high_all, length-append h.high_written (highs split (drop i xs)), ap length (highs_next e))

  -- the place is a number that the code can hold
  pub place_range : cond (below split.end a) low high + 1 < 2 ^ 63
  place_range = step (below split.end a) refl
    where
      step : (t : Bool) → below split.end a ≡ t → cond t low high + 1 < 2 ^ 63
      step true e = omega (arith, low_room e, h.fits.range.below)
      step false e = high_room e

  pub split_again : {now' : List ℕ} {low' high' : ℕ} {t : Bool} → t ≡ below split.end a
      → now' ≡ sets now (cond (below split.end a) low high) ((cond (below split.end a) split.low split.high + a) ∷ [])
      → low' ≡ cond t (low + 1) low → high' ≡ cond t high (high + 1) → Splitting split xs before at behind (i + 1) now' low' high'
  split_again {now'} {low'} {high'} {t} is = go t (sym is)
    where
      go : (t : Bool) → below split.end a ≡ t
          → now' ≡ sets now (cond (below split.end a) low high) ((cond (below split.end a) split.low split.high + a) ∷ [])
          → low' ≡ cond t (low + 1) low → high' ≡ cond t high (high + 1) → Splitting split xs before at behind (i + 1) now' low' high'
      go true e n f g = record {
        passed = omega arith;
        fits = h.fits;
        low_written = h.low_written ++ (lower ∷ []);
        high_written = h.high_written;
        low_all = append_assoc h.low_written (lower ∷ []) _ ∙ ap (λ (r : List ℕ). h.low_written ++ r) (sym (lows_next e)) ∙ h.low_all;
        high_all = ap (λ (r : List ℕ). h.high_written ++ r) (sym (highs_next e)) ∙ h.high_all;
        low_is = omega (arith, f, h.low_is, length-append h.low_written (lower ∷ []));
        high_is = g ∙ h.high_is;
        so =
            n ∙ ap (λ (t : Bool). sets now (cond t low high) ((cond t split.low split.high + a) ∷ [])) e
            ∙ ap (λ (d : List ℕ). sets d low (lower ∷ [])) h.so
            ∙ sets_comm (sets before at h.low_written) low (lower ∷ []) behind h.high_written (low_room e)
            ∙ ap (λ (d : List ℕ). sets d behind h.high_written) (ap (λ (k : ℕ). sets (sets before at h.low_written) k (lower ∷ [])) h.low_is ∙ sets_append before at h.low_written (lower ∷ []));
      }
      go false e n f g = record {
        passed = omega arith;
        fits = h.fits;
        low_written = h.low_written;
        high_written = h.high_written ++ (higher ∷ []);
        low_all = ap (λ (r : List ℕ). h.low_written ++ r) (sym (lows_next e)) ∙ h.low_all;
        high_all = append_assoc h.high_written (higher ∷ []) _ ∙ ap (λ (r : List ℕ). h.high_written ++ r) (sym (highs_next e)) ∙ h.high_all;
        low_is = f ∙ h.low_is;
        high_is = omega (arith, g, h.high_is, length-append h.high_written (higher ∷ []));
        so =
            n ∙ ap (λ (t : Bool). sets now (cond t low high) ((cond t split.low split.high + a) ∷ [])) e
            ∙ ap (λ (d : List ℕ). sets d high (higher ∷ [])) h.so
            ∙ ap (λ (k : ℕ). sets (sets (sets before at h.low_written) behind h.high_written) k (higher ∷ [])) h.high_is
            ∙ sets_append (sets before at h.low_written) behind h.high_written (higher ∷ []);
      }

module _ {split : Split} {xs before : List ℕ} {at behind i : ℕ} {now : List ℕ} {low high : ℕ} (h : Splitting split xs before at behind i now low high) where
  none_low : length xs ≤ i → lows split (drop i xs) ≡ []
  unfolding lows
  none_low l = list_ends (raised (below split.end) split.low) xs l

  none_high : length xs ≤ i → highs split (drop i xs) ≡ []
  unfolding highs
  none_high l = list_ends (raised (beyond split.end) split.high) xs l

  pub split_ends : length xs ≤ i → now ≡ split_into split before xs at behind
  unfolding split_into
  split_ends l =
      let low-whole : h.low_written ≡ lows split xs = sym (append-nil h.low_written) ∙ ap (λ (r : List ℕ). h.low_written ++ r) (sym (none_low l)) ∙ h.low_all in
      let high-whole : h.high_written ≡ highs split xs = sym (append-nil h.high_written) ∙ ap (λ (r : List ℕ). h.high_written ++ r) (sym (none_high l)) ∙ h.high_all in
      h.so ∙ ap₂ (λ (u v : List ℕ). sets (sets before at u) behind v) low-whole high-whole

  pub low_small : low < 2 ^ 63
  low_small = omega (arith, h.low_is, h.fits.apart, h.fits.range.below, ap length h.low_all, length-append h.low_written (lows split (drop i xs)))

  pub high_small : high < 2 ^ 63
  high_small = omega (arith, h.high_is, h.fits.range.below, ap length h.high_all, length-append h.high_written (highs split (drop i xs)))

  pub split_length : length now ≡ length before
  split_length = ap length h.so ∙ length-sets (sets before at h.low_written) behind h.high_written ∙ length-sets before at h.low_written
