-- The class words one after another.
use Prim.Native.Nat.{ℕ, ◌+◌, ◌-◌, ◌≤◌, ◌<◌}
use mathlib.Core.Path.{◌≡◌, sym, ap, ◌∙◌}
use mathlib.Core.Bool.{Bool, true, false, not}
use mathlib.Core.List.{List, ◌∷◌}
use native.Mathlib.Omega.{arith}
use lib.ListN.{length, get_or, drop, drop_of_length-le}
use lib.Seq.{drop-cons}
use native.Mathlib.Numerals.{add-one}
use borrow.Author.Tests.{not-true, not-false, le-leb, lt-leb}
use Rattle.stores.specs.Program.{role_of}
use Rattle.stores.specs.RuleStore.{is_role, are_words}
use Rattle.stores.specs.declared.roles.Role.{Role}

-- the words are passed up to `i`, and `before` is the last of them
pub record Climbing (words : List ℕ) (classes before i : ℕ) : Type 0 where
  pub rest : are_words classes before (drop i words) ≡ are_words classes 0 words

module _ {words : List ℕ} {classes before i : ℕ} (m : Climbing words classes before i) where
  pub ended : length words ≤ i → true ≡ are_words classes 0 words
  unfolding are_words
  ended h = ap (are_words classes before) (sym (drop_of_length-le words h)) ∙ m.rest

  module _ (h : i < length words) {role : Role} (r : role ≡ role_of (get_or words i 0)) {x : Bool} (q : x ≡ is_role classes role) where
    next : are_words classes before (get_or words i 0 ∷ drop (i + 1) words) ≡ are_words classes 0 words
    next = let e : drop i words ≡ get_or words i 0 ∷ drop (i + 1) words = rw (add-one, drop-cons words i 0) in ap (are_words classes before) (sym e) ∙ m.rest

    has_role : (b : Bool) → x ≡ b → is_role classes (role_of (get_or words i 0)) ≡ b
    has_role b e = ap (is_role classes) (sym r) ∙ sym q ∙ e

    pub wrong_role : x ≡ false → false ≡ are_words classes 0 words
    unfolding are_words
    wrong_role f = simp (has_role false f) at next

    module _ (f : x ≡ true) where
      pub falls : get_or words i 0 < before → false ≡ are_words classes 0 words
      unfolding are_words
      falls l = simp (has_role true f, lt-leb before (get_or words i 0) l) at next

      pub climbs : before ≤ get_or words i 0 → Climbing words classes (get_or words i 0) (i + 1)
      unfolding are_words
      climbs l = record { rest = simp (has_role true f, le-leb before (get_or words i 0) l) at next }
