-- One list of an index, written with the new rule's number behind it or as it was.
use Prim.Native.Nat.{ℕ, suc, ◌+◌, ◌-◌, ◌≤◌}
use native.Mathlib.Omega.{arith}
use mathlib.Core.Path.{◌≡◌, sym, ap, ◌∙◌}
use mathlib.Core.Bool.{Bool, true, false}
use mathlib.Core.List.{List, [], ◌∷◌, ◌++◌, append-nil}
use lib.ListN.{length, get_or, take, drop, length-append, length-drop}
use lib.Seq.{length-take-le}
use Rattle.rules.proofs.Lists.{part_sized}
use Rattle.output.specs.Emitted.{Emitted, InRange}
use Rattle.output.proofs.Emitting.{range_renamed, then, renamed}
use Rattle.rule_adding.specs.GrownLists.{grown_list, FrontList}

kept_list : (words : List ℕ) → 1 + get_or words 0 0 ≤ length words → (number : ℕ) → grown_list number false words ≡ take (1 + get_or words 0 0) words
unfolding grown_list
kept_list [] h number = absurd (omega arith)
kept_list (k ∷ words) h number =
    let list : List ℕ = take k words in
    let size : length (list ++ []) ≡ k = ap length (append-nil list) ∙ length-take-le k words (omega arith) in
    let one : suc k ≡ 1 + k = omega arith in
    (λ i. size i ∷ append-nil list i) ∙ ap (λ (n : ℕ). take n (k ∷ words)) one

module _ {number : ℕ} {mark : Bool} {words : List ℕ} {at : ℕ} (front : FrontList number mark words at) where
  module _ (e : mark ≡ false) where
    kept : grown_list number mark words ≡ take (1 + get_or words 0 0) words
    kept = ap (λ (b : Bool). grown_list number b words) e ∙ kept_list words front.inside number

    pub kept_range : InRange at (take (1 + get_or words 0 0) words)
    kept_range = range_renamed front.range kept

    pub list_kept : {d d' : List ℕ} {next : ℕ} → Emitted d at (take (1 + get_or words 0 0) words) d' next → Emitted d at (grown_list number mark words) d' next
    list_kept p = renamed p (sym kept)

  module _ (e : mark ≡ true) where
    -- as the code takes it
    abbrev list : List ℕ
    list = take (1 + get_or words 0 0 - 1) (drop 1 words)

    list_length : length list ≡ get_or words 0 0
    list_length = ap length (part_sized 1 (get_or words 0 0) (drop 1 words)) ∙ length-take-le (get_or words 0 0) (drop 1 words) (omega (arith, length-drop 1 words, front.inside))

    grown : (get_or words 0 0 + 1) ∷ (list ++ (number ∷ [])) ≡ grown_list number mark words
    unfolding grown_list
    grown =
        let own : list ≡ take (get_or words 0 0) (drop 1 words) = part_sized 1 (get_or words 0 0) (drop 1 words) in
        let size : get_or words 0 0 + 1 ≡ length (list ++ (number ∷ [])) = omega (arith, length-append list (number ∷ []), list_length) in
        ap (λ (n : ℕ). n ∷ (list ++ (number ∷ []))) size
        ∙ ap (λ (l : List ℕ). length (l ++ (number ∷ [])) ∷ (l ++ (number ∷ []))) own
        ∙ ap (λ (b : Bool). grown_list number b words) (sym e)

    size_grown : length (grown_list number mark words) ≡ get_or words 0 0 + 2
    size_grown = omega (arith, ap length grown, length-append list (number ∷ []), list_length)

    pub count_range : {k : ℕ} → InRange at (k ∷ [])
    count_range = record { below = omega (arith, front.range.below, size_grown) }

    module _ {k : ℕ} {d d₁ : List ℕ} {first : ℕ} (p : Emitted d at (k ∷ []) d₁ first) where
      pub list_range : InRange first list
      list_range = record { below = omega (arith, front.range.below, size_grown, p.place, list_length) }

      pub number_range : {d₂ : List ℕ} {last : ℕ} → Emitted d₁ first list d₂ last → {i : ℕ} → InRange last (i ∷ [])
      number_range q = record { below = omega (arith, front.range.below, size_grown, p.place, q.place, list_length) }

    pub list_grown : {d d₁ d₂ d₃ : List ℕ} {first last next : ℕ} → Emitted d at ((get_or words 0 0 + 1) ∷ []) d₁ first → Emitted d₁ first list d₂ last → Emitted d₂ last (number ∷ []) d₃ next
        → Emitted d at (grown_list number mark words) d₃ next
    list_grown p q r = renamed (then p (then q r)) grown
