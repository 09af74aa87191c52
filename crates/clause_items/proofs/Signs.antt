-- The item whose number and sign are known.
use Prim.Native.Nat.{ℕ, zero, suc, ◌+◌, ◌<◌, ◌≤◌}
use native.Mathlib.Omega.{arith}
use mathlib.Core.Path.{◌≡◌, refl, sym, ap, ap₂, ◌∙◌}
use mathlib.Core.List.{List, ◌∷◌}
use mathlib.Core.Bool.{Bool, true, false, cond, not}
use lib.Dec.{eqb}
use lib.ListN.{length, get_or, drop, drop_of_length-le}
use lib.Seq.{drop-cons}
use borrow.Author.Tests.{eq-eqb, ne_eqb, eqb-true, eqb-false}
use Rattle.names.specs.Numerals.{is_numeral, value}
use Rattle.clauses.specs.Items.{run}
use Rattle.clauses.specs.Literals.{signed}
use Rattle.clauses.specs.Tokens.{Token, ends, wrong, valued, numbered, token_of}
use Rattle.clause_items.specs.Found.{capped, gap, front, token_item, item_here, item_at}
use Rattle.clause_items.specs.declared.items.Item.{Item}
use Rattle.clause_items.proofs.CappedLaws.{capped_same}
use Rattle.clause_items.proofs.FoundNumbers.{NumberAt}
use Rattle.clause_items.proofs.Gaps.{run_goes_on, front_goes_on, behind_gap, item_byte}

abbrev signed_item : Bool → List ℕ → ℕ → Item
signed_item p s at = token_item (numbered (cond p ends wrong) (signed p) (front s)) (at + run s)

pub signed_broken : (p : Bool) (s : List ℕ) (at : ℕ) → is_numeral (front s) ≡ false → Item.Broken ≡ signed_item p s at
signed_broken p s at e = simp e

module _ {s : List ℕ} {at v to : ℕ} (n : NumberAt s at v to) where
  pub signed_literal : (p : Bool) → (v ≡ 0 → ⊥) → Item.Literal p v to ≡ signed_item p s at
  signed_literal p h = simp (n.numeral, n.place, n.says) (go (value (front s)) p (λ q. h (n.says ∙ q)))
    where
      go : (x : ℕ) (p : Bool) → (capped x ≡ 0 → ⊥) → Item.Literal p (capped x) (at + run s) ≡ token_item (valued (cond p ends wrong) (signed p) x) (at + run s)
      go zero p h = absurd (h refl)
      go (suc a) true h = refl
      go (suc a) false h = refl

  no_value : v ≡ 0 → value (front s) ≡ 0
  no_value e = capped_none (value (front s)) (sym n.says ∙ e)
    where
      capped_none : (x : ℕ) → capped x ≡ 0 → x ≡ 0
      capped_none x q = omega (arith, capped_same x (omega arith))

  pub signed_end : {p : Bool} → v ≡ 0 → p ≡ true → Item.Ends to ≡ signed_item p s at
  signed_end e q = simp (n.numeral, n.place, no_value e, q)

  pub signed_none : {p : Bool} → v ≡ 0 → p ≡ false → Item.Broken ≡ signed_item p s at
  signed_none e q = simp (n.numeral, no_value e, q)

-- the item at a place
module _ (line : List ℕ) (at : ℕ) {from : ℕ} (q : from ≡ at + gap (drop at line)) where
  item_from : item_at at (drop at line) ≡ item_here from (drop from line)
  unfolding item_at
  item_from = rw (← q, behind_gap line at q)

  pub item_stop : length line ≤ from → Item.Stop ≡ item_at at (drop at line)
  item_stop l = sym (item_from ∙ ap (item_here from) (drop_of_length-le line l))

  module _ (l : from < length line) where
    pub item_token : item_at at (drop at line) ≡ token_item (token_of (front (drop from line))) (from + run (drop from line))
    item_token = item_from ∙ rw (drop-cons line from 0)

    abbrev rest : List ℕ
    rest = drop (from + 1) line

    minus_token : get_or line from 0 ≡ 45 → token_of (front (drop from line)) ≡ numbered wrong (signed false) (front rest)
    unfolding token_of
    minus_token e = ap token_of (front_goes_on line from l (item_byte line at q l)) ∙ simp (eq-eqb _ _ e)

    plain_token : (get_or line from 0 ≡ 45 → ⊥) → token_of (front (drop from line)) ≡ numbered ends (signed true) (front (drop from line))
    unfolding token_of
    plain_token e =
        let f = front_goes_on line from l (item_byte line at q l) in
        let g : token_of (get_or line from 0 ∷ front rest) ≡ numbered ends (signed true) (get_or line from 0 ∷ front rest) = simp (ne_eqb _ _ e) in
        ap token_of f ∙ g ∙ ap (numbered ends (signed true)) (sym f)

    item_minus : get_or line from 0 ≡ 45 → {r : Item} → r ≡ signed_item false rest (from + 1) → r ≡ item_at at (drop at line)
    item_minus e p =
        let n : from + 1 + run rest ≡ from + run (drop from line) = omega (arith, run_goes_on line from l (item_byte line at q l)) in
        p ∙ ap₂ token_item (sym (minus_token e)) n ∙ sym item_token

    item_plain : (get_or line from 0 ≡ 45 → ⊥) → {r : Item} → r ≡ signed_item true (drop from line) from → r ≡ item_at at (drop at line)
    item_plain e p =
        p ∙ ap (λ (k : Token). token_item k (from + run (drop from line))) (sym (plain_token e)) ∙ sym item_token

    -- by the place behind a sign
    pub item_signed : (b : Bool) → eqb (get_or line from 0) 45 ≡ b → {k : ℕ} → k ≡ cond (not b) from (from + 1) → {r : Item} → r ≡ signed_item (not b) (drop k line) k → r ≡ item_at at (drop at line)
    item_signed true e f p = item_minus (eqb-true (get_or line from 0) 45 e) (p ∙ ap (λ (x : ℕ). signed_item false (drop x line) x) f)
    item_signed false e f p = item_plain (eqb-false (get_or line from 0) 45 e) (p ∙ ap (λ (x : ℕ). signed_item true (drop x line) x) f)
