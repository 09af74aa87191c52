-- Brackets and words of a condition, by their places.
use Prim.Native.Nat.{ℕ, ◌+◌}
use native.Mathlib.Omega.{arith}
use mathlib.Core.Path.{◌≡◌, refl, sym, ap, ◌∙◌, subst}
use mathlib.Core.Logic.{◌⊎◌, inl, inr}
use mathlib.Core.Bool.{Bool, true, false}
use mathlib.Core.List.{List, [], ◌∷◌}
use lib.Dec.{T}
use lib.ListN.{drop}
use Rattle.kinds.specs.Words.{open_bracket, close_bracket}
use Rattle.name_store.specs.NameStore.{same_bytes}
use Rattle.name_store.proofs.NameStores.{same_law}
use Rattle.lines.specs.declared.scan.Bracket.{Bracket}
use Rattle.lines.specs.declared.scan.Item.{Item}
use Rattle.std.specs.Prelude.{Option, Some, None}
use Rattle.std.specs.Bool.{then_some}
use Rattle.lines.specs.Tokens.{Token, opening, closing, word, tokens, leading, items}
use Rattle.lines.specs.Shapes.{spaced, item_of, ByteBehind, is_bracket, BracketSays, BracketIs}
use Rattle.lines.proofs.TokenPlaces.{items_end, item_fits, item_long, item, word_is}
use Rattle.lines.proofs.TokenCuts.{opening_is, closing_is}
use Rattle.condition_parts.specs.Places.{Past, is_opening, is_leading, OpeningIs, WordIs}

-- an opening bracket
module _ (s : List ℕ) (at : ℕ) {q : Bracket} (c : BracketIs s at q) where
  pub opening_here : {p : ℕ} → q ≡ Bracket.Opening p → OpeningIs s at (Some (p + 1))
  opening_here {p} f =
      let h : ByteBehind s at open_bracket p = subst (BracketSays s at) f c.says in
      record { says = (record { inside = omega (arith, h.inside); onward = omega (arith, h.place) }, opening_is h refl) }

  closing_here : {p : ℕ} → q ≡ Bracket.Closing p → OpeningIs s at None
  closing_here {p} f =
      let h : ByteBehind s at close_bracket p = subst (BracketSays s at) f c.says in
      record { says = ap is_opening (closing_is h refl) }

  no_bracket : q ≡ Bracket.Absent → OpeningIs s at None
  no_bracket f = record { says = go (tokens (drop at s)) (subst (BracketSays s at) f c.says) }
    where
      go : (ts : List Token) → is_bracket ts ≡ false → is_opening ts ≡ false
      go [] p = refl
      go (opening ∷ ts) p = p
      go (closing ∷ ts) p = refl
      go (word x ∷ ts) p = refl

  pub no_opening : ((p : ℕ) × (q ≡ Bracket.Closing p)) ⊎ (q ≡ Bracket.Absent) → OpeningIs s at None
  no_opening (inl f) = closing_here f.1
  no_opening (inr f) = no_bracket f

-- a word
module _ (s : List ℕ) (at : ℕ) (w : List ℕ) {r : Option Item} (e : r ≡ item_of (drop at s)) where
  pub no_word : r ≡ None → WordIs s at w None
  unfolding items
  no_word d = record { says = go (tokens (drop at s)) (items_end s at e d) }
    where
      go : (ts : List Token) → leading ts ≡ [] → is_leading w ts ≡ false
      go [] p = refl
      go (opening ∷ ts) p = refl
      go (closing ∷ ts) p = refl
      go (word x ∷ ts) p = absurd (let z : ◌≡◌ {A = ℕ} 0 1 = cc in omega arith)

  module _ {g n : ℕ} (d : r ≡ spaced g n) {q : Bool} (f : q ≡ same_bytes (item s at e d) w) where
    this_word : q ≡ true → WordIs s at w (Some (at + g + n))
    this_word t =
        let same : item s at e d ≡ w = (same_law (item s at e d) w).0 (subst T (sym t ∙ f) tt) in
        record {
          says = (
            record { inside = item_fits s at e d; onward = omega (arith, item_long s at e d) },
            word_is s at e d ∙ ap (λ x. word x ∷ tokens (drop (at + g + n) s)) same,
          );
        }

    other_word : q ≡ false → WordIs s at w None
    other_word t = record { says = ap (is_leading w) (word_is s at e d) ∙ sym f ∙ t }

    pub word_here : WordIs s at w (then_some q (at + g + n))
    word_here = go q refl
      where
        go : (b : Bool) → q ≡ b → WordIs s at w (then_some b (at + g + n))
        go true t = this_word t
        go false t = other_word t

-- what the answers say

module _ {s : List ℕ} {at : ℕ} where
  pub opening_past : {p : ℕ} → OpeningIs s at (Some p) → Past s at p
  opening_past h = h.says.0

  pub word_past : {w : List ℕ} {p : ℕ} → WordIs s at w (Some p) → Past s at p
  word_past h = h.says.0
