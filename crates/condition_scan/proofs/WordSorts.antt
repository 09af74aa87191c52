-- A word compared with each connective in turn.
use Prim.Native.Nat.{ℕ}
use mathlib.Core.Path.{◌≡◌, sym, ◌∙◌}
use mathlib.Core.Bool.{Bool, true, false}
use mathlib.Core.List.{List}
use Rattle.kinds.specs.Words.{not_word, and_word, or_word}
use Rattle.name_store.specs.NameStore.{same_bytes}
use Rattle.lines.specs.Conditions.{negation, conjunction, disjunction, called, sort_of}

module _ (x : List ℕ) {a : Bool} (e : a ≡ same_bytes x not_word) where
  pub sort_not : a ≡ true → negation ≡ sort_of x
  unfolding sort_of
  sort_not t = let n : same_bytes x not_word ≡ true = sym e ∙ t in rw n

  module _ (t : a ≡ false) {b : Bool} (f : b ≡ same_bytes x and_word) where
    pub sort_and : b ≡ true → conjunction ≡ sort_of x
    unfolding sort_of
    sort_and u = let n : same_bytes x not_word ≡ false = sym e ∙ t in let m : same_bytes x and_word ≡ true = sym f ∙ u in rw (n, m)

    module _ (u : b ≡ false) {c : Bool} (g : c ≡ same_bytes x or_word) where
      pub sort_or : c ≡ true → disjunction ≡ sort_of x
      unfolding sort_of
      sort_or v = let n : same_bytes x not_word ≡ false = sym e ∙ t in let m : same_bytes x and_word ≡ false = sym f ∙ u in let k : same_bytes x or_word ≡ true = sym g ∙ v in rw (n, m, k)

      pub sort_name : c ≡ false → called ≡ sort_of x
      unfolding sort_of
      sort_name v = let n : same_bytes x not_word ≡ false = sym e ∙ t in let m : same_bytes x and_word ≡ false = sym f ∙ u in let k : same_bytes x or_word ≡ false = sym g ∙ v in rw (n, m, k)
