-- The table of each atom's place among the marked ones.
use Prim.Native.Nat.{ℕ, suc, ◌+◌, ◌≤◌, ◌<◌}
use native.Mathlib.Numerals.{add-one}
use native.Mathlib.Decide.{ℕ_discrete}
use native.Mathlib.Omega.{arith}
use mathlib.Core.Path.{◌≡◌, refl, sym, ap, ◌∙◌}
use mathlib.Core.Bool.{Bool, true, false, cond}
use mathlib.Core.List.{List, []}
use lib.ListN.{length, get_or, set, length-set, length-append}
use lib.Seq.{get_or-set_same, get_or-set_other}
use Rattle.rules.specs.Lists.{keep, filter, from}
use Rattle.restriction.proofs.Places.{filter_last}
use Rattle.used_atoms.specs.Marks.{marked}

one_more : (marks : List Bool) (i : ℕ) → length (marked (i + 1) marks) ≡ length (marked i marks) + cond (get_or marks i false) 1 0
unfolding marked
one_more marks i =
    let t : ℕ → Bool = λ a. get_or marks a false in
    let e : i + 1 ≡ suc i = add-one i in
    ap (λ (k : ℕ). length (filter t (from 0 k))) e ∙ ap length (filter_last t i)
    ∙ length-append (filter t (from 0 i)) (keep (t i) i []) ∙ ap (λ (k : ℕ). length (filter t (from 0 i)) + k) (kept (t i))
  where
    kept : (b : Bool) → length (keep b i []) ≡ cond b 1 0
    kept true = refl
    kept false = refl

pub record Numbering (marks : List Bool) (n : ℕ) (before numbers : List ℕ) (left i : ℕ) : Type 0 where
  pub rooms : (n ≤ length marks) × (n ≤ length before) × (n < 65536)
  pub low : i ≤ n
  pub long : length numbers ≡ length before
  pub counted : left ≡ length (marked i marks)
  pub few : left ≤ i
  pub filled : (a : ℕ) → a < i → get_or numbers a 0 ≡ length (marked a marks)

pub numbers_begin : {marks : List Bool} {n : ℕ} {before : List ℕ} → (n ≤ length marks) × (n ≤ length before) × (n < 65536) → Numbering marks n before before 0 0
unfolding marked
numbers_begin r = record { rooms = r; low = omega arith; long = refl; counted = refl; few = omega arith; filled = λ a l. absurd (omega arith) }

module _ {marks : List Bool} {n : ℕ} {before numbers : List ℕ} {left i : ℕ} (h : Numbering marks n before numbers left i) where
  pub all_counted : n ≤ i → left ≡ length (marked n marks)
  all_counted l = let e : i ≡ n = omega (arith, h.low) in h.counted ∙ ap (λ (k : ℕ). length (marked k marks)) e

  pub all_numbered : n ≤ i → (a : ℕ) → a < n → get_or numbers a 0 ≡ length (marked a marks)
  all_numbered l a u = h.filled a (omega arith)

  module _ (l : i < n) where
    entered : (a : ℕ) → a < i + 1 → get_or (set numbers i left) a 0 ≡ length (marked a marks)
    entered a u = go (ℕ_discrete a i)
      where
        go : Dec (a ≡ i) → get_or (set numbers i left) a 0 ≡ length (marked a marks)
        go (yes e) =
            ap (λ (k : ℕ). get_or (set numbers i left) k 0) e ∙ get_or-set_same numbers i left 0 (omega (arith, h.long, h.rooms.1)) ∙ h.counted ∙ ap (λ (k : ℕ). length (marked k marks)) (sym e)
        go (no e) = get_or-set_other numbers i a left 0 e ∙ h.filled a (omega arith)

    further : {left' : ℕ} → left' ≡ left + cond (get_or marks i false) 1 0 → left' ≤ i + 1 → Numbering marks n before (set numbers i left) left' (i + 1)
    further e f = record {
      rooms = h.rooms;
      low = omega arith;
      long = length-set numbers i left ∙ h.long;
      counted = omega (arith, one_more marks i, h.counted, e);
      few = f;
      filled = entered;
    }

    pub with_mark : {left' : ℕ} → get_or marks i false ≡ true → left' ≡ left + 1 → Numbering marks n before (set numbers i left) left' (i + 1)
    with_mark e f = further (f ∙ ap (λ (b : Bool). left + cond b 1 0) (sym e)) (omega (arith, h.few, f))

    pub without_mark : {left' : ℕ} → get_or marks i false ≡ false → left' ≡ left → Numbering marks n before (set numbers i left) left' (i + 1)
    without_mark e f = let z : left ≡ left + 0 = omega arith in further (f ∙ z ∙ ap (λ (b : Bool). left + cond b 1 0) (sym e)) (omega (arith, h.few, f))
