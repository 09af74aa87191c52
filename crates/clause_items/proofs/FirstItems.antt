-- The first item from a place on, and those behind it.
use Prim.Native.Nat.{ℕ, zero, suc, ◌+◌, ◌<◌, ◌≤◌}
use native.Mathlib.Omega.{arith}
use native.Mathlib.Decide.{dec_lt}
use mathlib.Core.Path.{◌≡◌, refl, sym, ap, ◌∙◌, subst}
use mathlib.Core.List.{List, [], ◌∷◌}
use mathlib.Core.Bool.{Bool, true, false, not}
use lib.Dec.{eqb}
use lib.ListN.{length, get_or, take, drop, length-drop, drop_of_length-le}
use lib.Seq.{drop-cons, drop-drop, length-take-le}
use borrow.Author.Tests.{eqb-true, eqb-false, not-true}
use Rattle.rules.specs.Lists.{every}
use Rattle.rules.proofs.Booleans.{T_of, both_true}
use Rattle.name_store.specs.NameStore.{same_bytes}
use Rattle.name_store.proofs.NameStores.{same_equal}
use Rattle.name_store.proofs.ByteLoops.{other_length}
use Rattle.lines.specs.Shapes.{begins}
use Rattle.names.specs.Numerals.{is_numeral}
use Rattle.clauses.specs.Items.{is_separator, run, items_from, items}
use Rattle.clause_items.specs.Found.{gap, front}
use Rattle.clause_items.proofs.Gaps.{run_le, run_out, run_ends, run_goes_on, behind_gap, item_byte, items_gap, items_first}
use Rattle.clause_items.proofs.FoundNumbers.{NumberAt}

-- no item, or a first one that fails the test
abbrev pub Fails : (List ℕ → Bool) → List (List ℕ) → Type 0
Fails p [] = Unit {0}
Fails p (x ∷ xs) = p x ≡ false

-- the item x stands first from `at` on, and ends before `to`
pub record First (line : List ℕ) (at : ℕ) (x : List ℕ) (to : ℕ) : Type 0 where
  pub items_are : items (drop at line) ≡ x ∷ items (drop to line)
  pub further : at < to
  pub inside : to ≤ length line

module _ (line : List ℕ) (at : ℕ) {from : ℕ} (q : from ≡ at + gap (drop at line)) where
  items_from_lem : items (drop at line) ≡ items (drop from line)
  items_from_lem = items_gap (drop at line) ∙ ap items (behind_gap line at q)

  pub items_none : length line ≤ from → items (drop at line) ≡ []
  unfolding items items_from
  items_none l = items_from_lem ∙ ap items (drop_of_length-le line l)

  items_some : from < length line → items (drop at line) ≡ front (drop from line) ∷ items (drop (from + run (drop from line)) line)
  items_some l =
      let e = drop-cons line from 0 l in
      items_from_lem
      ∙ ap items e
      ∙ items_first (get_or line from 0) (drop (suc from) line) (item_byte line at q l)
      ∙ ap (λ (s : List ℕ). front s ∷ items (drop (run s) s)) (sym e)
      ∙ ap (λ (s : List ℕ). front (drop from line) ∷ items s) (drop-drop (run (drop from line)) from line)

  pub first_is : from < length line → First line at (front (drop from line)) (from + run (drop from line))
  first_is l = record {
    items_are = items_some l;
    further = omega (arith, run_goes_on line from l (item_byte line at q l));
    inside = omega (arith, run_le (drop from line), length-drop from line);
  }

  pub first_fails : (p : List ℕ → Bool) → p (front (drop from line)) ≡ false → Fails p (items (drop at line))
  first_fails p e = go (dec_lt from (length line))
    where
      go : Dec (from < length line) → Fails p (items (drop at line))
      go (yes l) = subst (Fails p) (sym (first_is l).items_are) e
      go (no l) = subst (Fails p) (sym (items_none (omega arith))) tt

  some_run : 0 < run (drop from line) → from < length line
  some_run h = omega (arith, run_le (drop from line), length-drop from line)

  pub first_word : (w : List ℕ) → 0 < length w → {r : Bool} → r ≡ same_bytes (front (drop from line)) w → r ≡ true → First line at w (from + length w)
  first_word w l e t =
      let s = same_equal (front (drop from line)) w (T_of (sym t ∙ e) tt) in
      let n : run (drop from line) ≡ length w = sym (length-take-le (run (drop from line)) (drop from line) (run_le (drop from line))) ∙ ap length s in
      rw (← n, ← s) (first_is (some_run (omega arith)))

  pub first_number : {v to : ℕ} → NumberAt (drop from line) from v to → First line at (front (drop from line)) to
  first_number {v} {to} n = rw n.place (first_is (some_run (some_bytes (run (drop from line)) n.numeral)))
    where
      some_bytes : (k : ℕ) → is_numeral (take k (drop from line)) ≡ true → 0 < k
      some_bytes zero e = absurd (let z : ◌≡◌ {A = ℕ} 0 1 = cc in omega arith)
      some_bytes (suc k) e = omega arith

-- a word
module _ (s w : List ℕ) where
  other_word : (run s ≡ length w → ⊥) → false ≡ same_bytes (front s) w
  other_word h = other_length (front s) w (λ q. h (sym (length-take-le (run s) s (run_le s)) ∙ q))

  same_word : run s ≡ length w → {r : Bool} → r ≡ begins w s → r ≡ same_bytes (front s) w
  same_word h q = q ∙ ap (λ (k : ℕ). same_bytes (take k s) w) (sym h)

-- a word without a separator, by what stands behind it

word_run : (w : List ℕ) → every (λ b. not (is_separator b)) w ≡ true → (s : List ℕ) → begins w s ≡ true → run s ≡ length w + run (drop (length w) s)
unfolding run same_bytes
word_run [] p s e = omega arith
word_run (b ∷ w) p [] e = absurd (T_of (sym e) tt)
word_run (b ∷ w) p (c ∷ s) e =
    let a = both_true (not (is_separator b)) (every (λ x. not (is_separator x)) w) p in
    let d = both_true (eqb c b) (same_bytes (take (length w) s) w) e in
    let n : is_separator c ≡ false = ap is_separator (eqb-true c b d.0) ∙ not-true (is_separator b) a.0 in
    rw n (omega (arith, word_run w a.1 s d.1))

module _ (line : List ℕ) (at : ℕ) (w : List ℕ) where
  abbrev rest : List ℕ
  rest = drop at line

  pub word_absent : begins w rest ≡ false → false ≡ same_bytes (front rest) w
  word_absent e = go (eqb (run rest) (length w)) refl
    where
      go : (b : Bool) → eqb (run rest) (length w) ≡ b → false ≡ same_bytes (front rest) w
      go true q = same_word rest w (eqb-true (run rest) (length w) q) (sym e)
      go false q = other_word rest w (eqb-false (run rest) (length w) q)

  module _ (plain : every (λ b. not (is_separator b)) w ≡ true) (e : begins w rest ≡ true) where
    run_is : run rest ≡ length w + run (drop (at + length w) line)
    run_is = word_run w plain rest e ∙ ap (λ (s : List ℕ). length w + run s) (drop-drop (length w) at line)

    pub word_last : length line ≤ at + length w → true ≡ same_bytes (front rest) w
    word_last l = same_word rest w (omega (arith, run_is, run_out line (at + length w) l)) (sym e)

    pub word_parted : at + length w < length line → {b : Bool} → b ≡ is_separator (get_or line (at + length w) 0) → b ≡ same_bytes (front rest) w
    word_parted l q = q ∙ go (is_separator (get_or line (at + length w) 0)) refl
      where
        go : (b : Bool) → is_separator (get_or line (at + length w) 0) ≡ b → b ≡ same_bytes (front rest) w
        go true k = same_word rest w (omega (arith, run_is, run_ends line (at + length w) l k)) (sym e)
        go false k = other_word rest w (λ n. omega (arith, run_is, run_goes_on line (at + length w) l k))
