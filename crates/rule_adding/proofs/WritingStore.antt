-- The grown store's words, written part by part.
use Prim.Native.Nat.{ℕ, suc, ◌+◌, ◌-◌, ◌≤◌}
use native.Mathlib.Numerals.{add-one}
use native.Mathlib.Omega.{arith}
use mathlib.Core.Path.{◌≡◌, ap}
use mathlib.Core.List.{List, [], ◌∷◌, ◌++◌}
use lib.ListN.{length, get_or, take, drop, length-append, length-drop}
use lib.Seq.{length-take-le}
use Rattle.rules.proofs.Lists.{part_rest}
use Rattle.output.specs.Emitted.{Emitted, InRange}
use Rattle.output.proofs.Emitting.{then, renamed}
use Rattle.rule_index.specs.Growth.{grown_store}

module _ (ws rule : List ℕ) (header : 4 ≤ length ws) where
  front_length : length (take 3 ws) ≡ 3
  front_length = length-take-le 3 ws (omega arith)

  pub grown_size : length (grown_store ws rule) ≡ length ws + length rule
  unfolding grown_store
  grown_size = omega (arith, length-append (take 3 ws) (suc (get_or ws 3 0) ∷ (drop 4 ws ++ rule)), front_length, length-append (drop 4 ws) rule, length-drop 4 ws)

  -- the rules that are there, as the code takes them
  abbrev others : List ℕ
  others = take (length ws - 4) (drop 4 ws)

  others_length : length others ≡ length ws - 4
  others_length = omega (arith, ap length (part_rest 4 ws), length-drop 4 ws)

  module _ (range : InRange 0 (grown_store ws rule)) where
    pub header_range : InRange 0 (take 3 ws)
    header_range = record { below = omega (arith, front_length) }

    module _ {d d₁ : List ℕ} {third : ℕ} (p : Emitted d 0 (take 3 ws) d₁ third) where
      pub count_range : {k : ℕ} → InRange third (k ∷ [])
      count_range = record { below = omega (arith, p.place, front_length) }

      module _ {k : ℕ} {d₂ : List ℕ} {fourth : ℕ} (q : Emitted d₁ third (k ∷ []) d₂ fourth) where
        pub others_range : InRange fourth others
        others_range = record { below = omega (arith, p.place, front_length, q.place, others_length, grown_size, range.below) }

        pub rule_range : {d₃ : List ℕ} {behind : ℕ} → Emitted d₂ fourth others d₃ behind → InRange behind rule
        rule_range r = record { below = omega (arith, p.place, front_length, q.place, r.place, others_length, grown_size, range.below) }

  pub store_written : {d d₁ d₂ d₃ d₄ : List ℕ} {third fourth behind end : ℕ} → Emitted d 0 (take 3 ws) d₁ third → Emitted d₁ third ((get_or ws 3 0 + 1) ∷ []) d₂ fourth
      → Emitted d₂ fourth others d₃ behind → Emitted d₃ behind rule d₄ end → Emitted d 0 (grown_store ws rule) d₄ end
  unfolding grown_store
  store_written p q r s = renamed (then p (then q (then r s))) (λ i. take 3 ws ++ (add-one (get_or ws 3 0) i ∷ (part_rest 4 ws i ++ rule)))
