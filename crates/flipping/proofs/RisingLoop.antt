-- The test of a list of rule numbers, one after the other.
use Prim.Native.Nat.{ℕ, ◌+◌, ◌≤◌, ◌<◌}
use native.Mathlib.Numerals.{add-one}
use mathlib.Core.Path.{◌≡◌, refl, sym, ap, ◌∙◌}
use mathlib.Core.Bool.{true, false}
use mathlib.Core.List.{List, ◌∷◌}
use lib.ListN.{length, get_or, drop, drop_of_length-le}
use borrow.Author.Tests.{lt-ltb, le-ltb, le-leb, lt-leb}
use Rattle.output.proofs.Emitting.{byte_next}
use Rattle.rule_index.specs.Flip.{is_rising}

-- the numbers before i rise, and the next is to be at least the bound
pub record Rises (list : List ℕ) (rules bound i : ℕ) : Type 0 where
  pub rest : is_rising bound rules (drop i list) ≡ is_rising 0 rules list

pub begins : (list : List ℕ) (rules : ℕ) → Rises list rules 0 0
begins list rules = record { rest = refl }

module _ {list : List ℕ} {rules bound i : ℕ} (h : Rises list rules bound i) where
  pub ended : length list ≤ i → true ≡ is_rising 0 rules list
  unfolding is_rising
  ended l = ap (is_rising bound rules) (sym (drop_of_length-le list l)) ∙ h.rest

  module _ (l : i < length list) where
    next : is_rising bound rules (get_or list i 0 ∷ drop (i + 1) list) ≡ is_rising 0 rules list
    next = ap (is_rising bound rules) (sym (byte_next list i l).is) ∙ h.rest

    pub falls : get_or list i 0 < bound → false ≡ is_rising 0 rules list
    unfolding is_rising
    falls k = simp (lt-leb bound (get_or list i 0) k) at next

    pub beyond : bound ≤ get_or list i 0 → rules ≤ get_or list i 0 → false ≡ is_rising 0 rules list
    unfolding is_rising
    beyond k g = simp (le-leb bound (get_or list i 0) k, le-ltb (get_or list i 0) rules g) at next

    pub again : bound ≤ get_or list i 0 → get_or list i 0 < rules → Rises list rules (get_or list i 0 + 1) (i + 1)
    unfolding is_rising
    again k g = record { rest = ap (λ (b : ℕ). is_rising b rules (drop (i + 1) list)) (add-one (get_or list i 0)) ∙ simp (le-leb bound (get_or list i 0) k, lt-ltb (get_or list i 0) rules g) at next }
