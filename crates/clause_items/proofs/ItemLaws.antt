-- What the item at a place says of the line's tokens.
use Prim.Native.Nat.{ℕ, ◌+◌, ◌<◌, ◌≤◌}
use native.Mathlib.Omega.{arith}
use native.Mathlib.Decide.{dec_lt}
use mathlib.Core.Path.{◌≡◌, refl, sym, ap, ◌∙◌, subst}
use mathlib.Core.List.{List, ◌∷◌, map}
use lib.ListN.{length, drop}
use Rattle.rules.specs.Lists.{some}
use Rattle.clauses.specs.Items.{run}
use Rattle.clauses.specs.Literals.{positive, negative}
use Rattle.clauses.specs.Tokens.{Token, literal, ends, wrong, token_of, is_wrong, line_tokens}
use Rattle.clause_items.specs.Found.{gap, front, token_item, item_at, TokenAt, ItemSays}
use Rattle.clause_items.proofs.FirstItems.{items_none, first_is}
use Rattle.clause_items.proofs.Signs.{item_stop, item_token}

module _ (line : List ℕ) (at : ℕ) where
  abbrev from : ℕ
  from = at + gap (drop at line)

  abbrev to : ℕ
  to = from + run (drop from line)

  abbrev first : Token
  first = token_of (front (drop from line))

  module _ (l : from < length line) where
    held : (k : Token) → first ≡ k → TokenAt line at k to
    held k q =
        let f = first_is line at refl l in
        record {
          tokens = ap (map token_of) f.items_are ∙ ap (λ (x : Token). x ∷ line_tokens (drop to line)) q;
          further = f.further;
          inside = f.inside;
        }

    told : (k : Token) → first ≡ k → ItemSays line at (token_item k to)
    told (literal (positive a)) q = (a, refl, held (literal (positive a)) q)
    told (literal (negative a)) q = (a, refl, held (literal (negative a)) q)
    told ends q = held ends q
    told wrong q = ap (some is_wrong) (held wrong q).tokens

  pub item_says : at ≤ length line → ItemSays line at (item_at at (drop at line))
  item_says h = go (dec_lt from (length line))
    where
      go : Dec (from < length line) → ItemSays line at (item_at at (drop at line))
      go (yes l) = subst (ItemSays line at) (sym (item_token line at refl l)) (told l first refl)
      go (no l) = let e : length line ≤ from = omega arith in subst (ItemSays line at) (item_stop line at refl e) (ap (map token_of) (items_none line at refl e))
