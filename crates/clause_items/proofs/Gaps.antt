-- Where items stand: the separators before one, its bytes, and what follows it.
use Prim.Native.Nat.{ℕ, zero, suc, ◌+◌, ◌-◌, ◌<◌, ◌≤◌, zero-le}
use native.Mathlib.Numerals.{add-one, one-add}
use native.Mathlib.Omega.{arith}
use mathlib.Core.Path.{◌≡◌, refl, sym, ap, ◌∙◌}
use mathlib.Core.List.{List, [], ◌∷◌}
use mathlib.Core.Bool.{Bool, true, false, cond}
use lib.ListN.{length, get_or, take, drop, length-drop, drop_of_length-le}
use lib.Seq.{drop-cons, drop-drop, take-length}
use Rattle.std.proofs.lemmas.List.Sums.{prefix_len-le-length}
use Rattle.clauses.specs.Items.{is_separator, run, items_from, items}
use Rattle.clause_items.specs.Found.{gap, front}

-- a line's rest, as a slice of it
pub rest_is : (line : List ℕ) (at : ℕ) → take (length line - at) (drop at line) ≡ drop at line
rest_is line at = ap (λ (n : ℕ). take n (drop at line)) (sym (length-drop at line)) ∙ take-length (drop at line)

-- step by step
module _ (line : List ℕ) (i : ℕ) where
  pub run_out : length line ≤ i → run (drop i line) ≡ 0
  unfolding run
  run_out h = rw (drop_of_length-le line h)

  module _ (h : i < length line) where
    pub run_ends : is_separator (get_or line i 0) ≡ true → run (drop i line) ≡ 0
    unfolding run
    run_ends e = rw (drop-cons line i 0, e)

    pub run_goes_on : is_separator (get_or line i 0) ≡ false → run (drop i line) ≡ suc (run (drop (i + 1) line))
    unfolding run
    run_goes_on e = rw (add-one, drop-cons line i 0, e)

    pub front_goes_on : is_separator (get_or line i 0) ≡ false → front (drop i line) ≡ get_or line i 0 ∷ front (drop (i + 1) line)
    unfolding run
    front_goes_on e = rw (add-one, drop-cons line i 0, e)

pub run_le : (s : List ℕ) → run s ≤ length s
unfolding run
run_le [] = zero-le
run_le (b ∷ s) = go (is_separator b) (run_le s)
  where
    go : (x : Bool) → run s ≤ length s → cond x 0 (suc (run s)) ≤ suc (length s)
    go true h = zero-le
    go false h = omega arith

-- behind the gap stands no separator
no_separator : (s : List ℕ) {b : ℕ} {t : List ℕ} → drop (gap s) s ≡ b ∷ t → is_separator b ≡ false
no_separator [] {b} {t} e = absurd (let z : ◌≡◌ {A = ℕ} 0 1 = cc in omega arith)
no_separator (x ∷ s) {b} {t} e = go (is_separator x) refl e (no_separator s {b = b} {t = t})
  where
    go : (y : Bool) → is_separator x ≡ y → drop (cond y (1 + gap s) 0) (x ∷ s) ≡ b ∷ t → (drop (gap s) s ≡ b ∷ t → is_separator b ≡ false) → is_separator b ≡ false
    go true p e f = f (sym (ap (λ (n : ℕ). drop n (x ∷ s)) (one-add (gap s))) ∙ e)
    go false p e f = let q : x ≡ b = cc in ap is_separator (sym q) ∙ p

-- at a place of a line
module _ (line : List ℕ) (at : ℕ) {from : ℕ} (q : from ≡ at + gap (drop at line)) where
  pub from_inside : at ≤ length line → from ≤ length line
  from_inside h = omega (arith, prefix_len-le-length is_separator (drop at line), length-drop at line)

  pub behind_gap : drop (gap (drop at line)) (drop at line) ≡ drop from line
  behind_gap = drop-drop (gap (drop at line)) at line ∙ ap (λ (n : ℕ). drop n line) (sym q)

  pub item_byte : from < length line → is_separator (get_or line from 0) ≡ false
  item_byte l = no_separator (drop at line) {t = drop (suc from) line} (behind_gap ∙ drop-cons line from 0 l)

items_skip : (k : ℕ) (s : List ℕ) → items_from k s ≡ items (drop k s)
unfolding items items_from
items_skip zero [] = refl
items_skip (suc k) [] = refl
items_skip zero (b ∷ s) = refl
items_skip (suc k) (b ∷ s) = items_skip k s

pub items_gap : (s : List ℕ) → items s ≡ items (drop (gap s) s)
unfolding items items_from
items_gap [] = refl
items_gap (b ∷ s) = go (is_separator b) refl (items_gap s)
  where
    go : (y : Bool) → is_separator b ≡ y → items s ≡ items (drop (gap s) s) → items (b ∷ s) ≡ items (drop (cond y (1 + gap s) 0) (b ∷ s))
    go true p h = rw (p, one-add) h
    go false p h = refl

pub items_first : (b : ℕ) (s : List ℕ) → is_separator b ≡ false → items (b ∷ s) ≡ front (b ∷ s) ∷ items (drop (run (b ∷ s)) (b ∷ s))
unfolding items items_from run
items_first b s e = rw e (ap (λ (l : List (List ℕ)). (b ∷ take (run s) s) ∷ l) (items_skip (run s) s))
