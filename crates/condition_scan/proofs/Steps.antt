-- The token at a place.
use Prim.Native.Nat.{ℕ, ◌+◌, ◌≤◌}
use native.Mathlib.Omega.{arith}
use mathlib.Core.Path.{◌≡◌, refl, sym, ap, ◌∙◌, subst}
use mathlib.Core.Logic.{◌⊎◌, inl, inr}
use mathlib.Core.Bool.{Bool, cond}
use mathlib.Core.List.{List}
use lib.ListN.{length, drop}
use Rattle.std.specs.Prelude.{Option, Some, None}
use Rattle.kinds.specs.Words.{open_bracket, close_bracket}
use Rattle.name_store.specs.NameStore.{among}
use Rattle.name_store.specs.NameIndex.{found}
use Rattle.lines.specs.declared.scan.Bracket.{Bracket}
use Rattle.lines.specs.Tokens.{opening, closing, word}
use Rattle.lines.specs.Conditions.{WordSort, sort_of}
use Rattle.lines.specs.Shapes.{spaced, item_of, ByteBehind, BracketSays, BracketIs}
use Rattle.lines.proofs.TokenPlaces.{item_fits, item_long, item, word_is}
use Rattle.lines.proofs.TokenCuts.{opening_is, closing_is, nothing_left}
use Rattle.numbering.specs.declared.hashed_items.HashedItem.{HashedItem}
use Rattle.numbering.specs.HashedItems.{hashed_item}
use Rattle.numbering.proofs.HashedNames.{hashed_as, hashed_end, hashed_item_lem}
use Rattle.numbering.proofs.NameNumbers.{named, unnamed}
use Rattle.condition_scan.specs.declared.sorts.Sort.{Sort}
use Rattle.condition_scan.specs.declared.scan.Symbol.{Symbol}
use Rattle.condition_scan.specs.Sorts.{word_sort}
use Rattle.condition_scan.specs.Scans.{symbol_by, word_symbol, StepIs}

-- a word by its sort
module _ (names : List (List ℕ)) (x : List ℕ) {y : Sort} (k : word_sort y ≡ sort_of x) where
  symbol_is : {z : Sort} → y ≡ z → symbol_by (word_sort z) (among names x) ≡ word_symbol names x
  symbol_is f = ap (λ (z : WordSort). symbol_by z (among names x)) (sym (ap word_sort f) ∙ k)

  pub not_symbol : y ≡ Sort.Not → Symbol.Negation ≡ word_symbol names x
  not_symbol f = symbol_is f

  pub joint_symbol : (y ≡ Sort.And) ⊎ (y ≡ Sort.Or) → Symbol.Joint ≡ word_symbol names x
  joint_symbol (inl f) = symbol_is f
  joint_symbol (inr f) = symbol_is f

  module _ (f : y ≡ Sort.Name) {q : Option ℕ} (l : q ≡ found x names) where
    pub declared_symbol : {j : ℕ} → q ≡ Some j → Symbol.Declared ≡ word_symbol names x
    declared_symbol m = ap (λ (b : Bool). cond b Symbol.Declared Symbol.Undeclared) (sym (named x names l m).declared) ∙ symbol_is f

    pub undeclared_symbol : q ≡ None → Symbol.Undeclared ≡ word_symbol names x
    undeclared_symbol m = ap (λ (b : Bool). cond b Symbol.Declared Symbol.Undeclared) (sym (unnamed x names l m)) ∙ symbol_is f

-- a bracket
module _ (s : List ℕ) (at : ℕ) {q : Bracket} (c : BracketIs s at q) {p : ℕ} where
  pub opening_inside : q ≡ Bracket.Opening p → p + 1 ≤ length s
  opening_inside f = let h : ByteBehind s at open_bracket p = subst (BracketSays s at) f c.says in omega (arith, h.inside)

  pub closing_inside : q ≡ Bracket.Closing p → p + 1 ≤ length s
  closing_inside f = let h : ByteBehind s at close_bracket p = subst (BracketSays s at) f c.says in omega (arith, h.inside)

module _ (names : List (List ℕ)) (s : List ℕ) (at : ℕ) {r : Option HashedItem} (e : r ≡ hashed_item (drop at s)) where
  module _ (d : r ≡ None) {q : Bracket} (c : BracketIs s at q) where
    pub opening_step : {p : ℕ} → q ≡ Bracket.Opening p → StepIs names s at (Some (record { to = (p + 1); symbol = Symbol.Opening }))
    opening_step {p} f =
        let h : ByteBehind s at open_bracket p = subst (BracketSays s at) f c.says in
        record { says = record { token = opening; onward = omega (arith, h.place); inside = omega (arith, h.inside); is = opening_is h refl; is_symbol = refl } }

    pub closing_step : {p : ℕ} → q ≡ Bracket.Closing p → StepIs names s at (Some (record { to = (p + 1); symbol = Symbol.Closing }))
    closing_step {p} f =
        let h : ByteBehind s at close_bracket p = subst (BracketSays s at) f c.says in
        record { says = record { token = closing; onward = omega (arith, h.place); inside = omega (arith, h.inside); is = closing_is h refl; is_symbol = refl } }

    pub end_step : q ≡ Bracket.Absent → StepIs names s at None
    end_step f = record { says = nothing_left s at refl (hashed_end s at e d) c f }

  module _ {g n h : ℕ} (d : r ≡ Some (hashed_as g n h)) where
    pub is_item : item_of (drop at s) ≡ spaced g n
    is_item = hashed_item_lem s at e d

    pub step_inside : at + g + n ≤ length s
    step_inside = item_fits s at refl is_item

    abbrev x : List ℕ
    x = item s at refl is_item

    pub word_step : {y : Symbol} → y ≡ word_symbol names x → StepIs names s at (Some (record { to = (at + g + n); symbol = y }))
    word_step f =
        record { says = record { token = word x; onward = omega (arith, item_long s at refl is_item); inside = step_inside; is = word_is s at refl is_item; is_symbol = f } }
