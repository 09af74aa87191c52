-- How the words of a step follow one another.
use Prim.Native.Nat.{ℕ, ◌+◌, ◌-◌, ◌≤◌, ◌<◌}
use native.Mathlib.Omega.{arith}
use native.Mathlib.Nat.{add-zero}
use mathlib.Core.Path.{◌≡◌, refl, sym, ap, ◌∙◌}
use mathlib.Core.List.{List, [], ◌∷◌, ◌++◌}
use lib.ListN.{get_or}
use borrow.Author.Tests.{lt-ltb, le-ltb}
use Rattle.output.proofs.Emitting.{Ahead}
use Rattle.steps.specs.StepWords.{words1, words4, class_words6, words6}
use Rattle.steps.specs.declared.offsets.Offsets.{Offsets}
use Rattle.atom_lists.specs.Roles.{class_of, FirstMinimised}
use Rattle.atom_lists.proofs.Roles.{minimised_class}

pub ends_words : (e u : ℕ) → words4 e u ≡ 2 ∷ 0 ∷ 0 ∷ e ∷ u ∷ []
unfolding words4
ends_words e u = ap (λ (x : ℕ). 2 ∷ 0 ∷ 0 ∷ x ∷ u ∷ []) (add-zero e)

-- the rules of step 1
module _ (m n a : ℕ) where
  pub second_alone : a < m → words1 m n a ≡ 1 ∷ 0 ∷ 1 ∷ (n + a) ∷ a ∷ []
  unfolding words1
  second_alone l = rw (lt-ltb a m l)

  pub both_rules : m ≤ a → words1 m n a ≡ 1 ∷ 0 ∷ 1 ∷ a ∷ (n + a) ∷ 1 ∷ 0 ∷ 1 ∷ (n + a) ∷ a ∷ []
  unfolding words1
  both_rules l = rw (le-ltb a m l)

-- the four rules of step 6, one after the other
module _ (o : Offsets) (i a : ℕ) where
  abbrev fourth6 : List ℕ
  fourth6 = 2 ∷ 1 ∷ 1 ∷ (o.s + a) ∷ o.u ∷ (o.e + i) ∷ (o.n + a) ∷ []

  abbrev third6 : List ℕ
  third6 = 1 ∷ 2 ∷ 1 ∷ o.u ∷ (o.e + (i - 1)) ∷ (o.s + a) ∷ a ∷ []

  abbrev second6 : List ℕ
  second6 = 1 ∷ 2 ∷ 0 ∷ o.u ∷ (o.d + a) ∷ (o.s + a) ∷ []

  pub first_ahead : Ahead (class_words6 o i a) (1 ∷ 1 ∷ 1 ∷ o.u ∷ (o.d + a) ∷ a ∷ []) (second6 ++ (third6 ++ fourth6))
  unfolding class_words6
  first_ahead = record { is = refl }

  pub second_ahead : Ahead (second6 ++ (third6 ++ fourth6)) second6 (third6 ++ fourth6)
  second_ahead = record { is = refl }

  pub third_ahead : Ahead (third6 ++ fourth6) third6 fourth6
  third_ahead = record { is = refl }

-- the class of a minimised atom is its class word
module _ {m : ℕ} {ws : List ℕ} (h : FirstMinimised m ws) {a : ℕ} (l : a < m) {class : ℕ} (e : class ≡ class_of ws a) where
  own : get_or ws a 0 ≡ class
  own = sym (e ∙ minimised_class ws a (h.class a l))

  pub own_low : 1 ≤ class
  own_low = omega (arith, own, h.low.word a (omega (arith, h.inside)))

  pub own_small : class ≤ 16
  own_small = omega (arith, own, h.class a l)

  pub own_words : (o : Offsets) → words6 ws o a ≡ class_words6 o class a
  unfolding words6
  own_words o = ap (λ (i : ℕ). class_words6 o i a) own
