-- The words of all steps are those of the translated rules.
use Prim.Native.Nat.{ℕ, suc, ◌+◌, ◌-◌}
use native.Mathlib.Omega.{arith}
use mathlib.Core.Path.{◌≡◌, refl, sym, ap, ap₂, ◌∙◌}
use mathlib.Core.List.{List, [], ◌∷◌, ◌++◌, map, append_assoc}
use lib.ListN.{get_or}
use Rattle.rules.specs.Lists.{flat, from}
use Rattle.rules.specs.Rules.{Rule}
use Rattle.stores.specs.RuleStore.{rule_words}
use Rattle.pairing.specs.Loops.{loop1, loop2, loop3, loop4, loop5, loop6, loop789, loop10}
use Rattle.rules.proofs.ListLaws.{shifted, flat_map, flat_append}
use Rattle.output.proofs.Emitting.{Ahead}
use Rattle.steps.specs.declared.offsets.Offsets.{Offsets}
use Rattle.atom_lists.specs.ListWords.{each}
use Rattle.steps.specs.StepWords.{words1, words2, words3, words4, words5, class_words6, words6, words789, words10, file_words, class_words, last_words, step_words}

flat_flat : {A B C : Type 0} (f : B → List C) (g : A → List B) (xs : List A) → flat f (flat g xs) ≡ flat (λ a. flat f (g a)) xs
flat_flat f g [] = refl
flat_flat {C} f g (x ∷ xs) = flat_append f (g x) (flat g xs) ∙ ap (λ (l : List C). flat f (g x) ++ l) (flat_flat f g xs)

module _ (ws : List ℕ) (rs : List (Rule ℕ)) (k m q : ℕ) (o : Offsets) (d-is : o.d ≡ o.s + q) (e-is : o.e ≡ o.d + m) (u-is : o.u ≡ o.e + suc k) where
  part1 : flat rule_words (flat (loop1 m o.n) (from 0 o.n)) ≡ each (words1 m o.n) (from 0 (o.n - 0))
  unfolding each words1
  part1 =
      let z : o.n ≡ o.n - 0 = omega arith in
      flat_flat rule_words (loop1 m o.n) (from 0 o.n) ∙ ap (λ (c : ℕ). flat (λ a. flat rule_words (loop1 m o.n a)) (from 0 c)) z

  part2 : flat rule_words (map (loop2 m o.n) rs) ≡ each (words2 m o.n) rs
  unfolding each words2
  part2 = flat_map rule_words (loop2 m o.n) rs

  part3 : flat rule_words (map (loop3 q o.s o.u) rs) ≡ each (words3 q o.s o.u) rs
  unfolding each words3
  part3 = flat_map rule_words (loop3 q o.s o.u) rs

  part4 : flat rule_words (loop4 o.e o.u ∷ []) ≡ words4 o.e o.u
  unfolding words4
  part4 = refl

  part5 : flat rule_words (map (loop5 ws o.d o.e o.u) (from 1 k)) ≡ each (words5 ws o) (from 1 (k + 1 - 1))
  unfolding each words5
  part5 =
      let z : k ≡ k + 1 - 1 = omega arith in
      flat_map rule_words (loop5 ws o.d o.e o.u) (from 1 k) ∙ ap (λ (c : ℕ). flat (words5 ws o) (from 1 c)) z

  part6 : flat rule_words (flat (λ a. loop6 o.n o.s o.d o.e o.u (get_or ws a 0) a) (from 0 m)) ≡ each (words6 ws o) (from 0 (m - 0))
  unfolding each words6 class_words6
  part6 =
      let z : m ≡ m - 0 = omega arith in
      flat_flat rule_words (λ a. loop6 o.n o.s o.d o.e o.u (get_or ws a 0) a) (from 0 m) ∙ ap (λ (c : ℕ). flat (words6 ws o) (from 0 c)) z

  part789 : (first end c : ℕ) → end ≡ first + c → flat rule_words (map (λ a. loop789 o.u (first + a)) (from 0 c)) ≡ each (words789 o.u) (from first (end - first))
  unfolding each words789
  part789 first end c e =
      let z : first + 0 ≡ first = omega arith in
      let y : c ≡ end - first = omega arith in
      flat_map rule_words (λ a. loop789 o.u (first + a)) (from 0 c)
      ∙ sym (flat_map (words789 o.u) (λ a. first + a) (from 0 c))
      ∙ ap (flat (words789 o.u)) (shifted first 0 c ∙ ap₂ from z y)

  part10 : flat rule_words (loop10 o.e o.u k) ≡ words10 o.e o.u k
  unfolding words10
  part10 = refl

  both : (xs ys : List (Rule ℕ)) (v w : List ℕ) → flat rule_words xs ≡ v → flat rule_words ys ≡ w → flat rule_words (xs ++ ys) ≡ v ++ w
  both xs ys v w f g = flat_append rule_words xs ys ∙ ap₂ (λ (x y : List ℕ). x ++ y) f g

  regrouped : step_words ws rs k m q o
      ≡ each (words1 m o.n) (from 0 (o.n - 0))
      ++ (each (words2 m o.n) rs
      ++ (each (words3 q o.s o.u) rs
      ++ (words4 o.e o.u
      ++ (each (words5 ws o) (from 1 (k + 1 - 1))
      ++ (each (words6 ws o) (from 0 (m - 0))
      ++ last_words k o)))))
  unfolding step_words
  regrouped = simp append_assoc

  -- the rules from each step on
  abbrev from9 : List (Rule ℕ)
  from9 = map (λ j. loop789 o.u (o.e + j)) (from 0 (suc k)) ++ loop10 o.e o.u k

  abbrev from8 : List (Rule ℕ)
  from8 = map (λ a. loop789 o.u (o.d + a)) (from 0 m) ++ from9

  abbrev from7 : List (Rule ℕ)
  from7 = map (λ a. loop789 o.u (o.s + a)) (from 0 q) ++ from8

  abbrev from6 : List (Rule ℕ)
  from6 = flat (λ a. loop6 o.n o.s o.d o.e o.u (get_or ws a 0) a) (from 0 m) ++ from7

  abbrev from5 : List (Rule ℕ)
  from5 = map (loop5 ws o.d o.e o.u) (from 1 k) ++ from6

  abbrev from4 : List (Rule ℕ)
  from4 = (loop4 o.e o.u ∷ []) ++ from5

  abbrev from3 : List (Rule ℕ)
  from3 = map (loop3 q o.s o.u) rs ++ from4

  abbrev from2 : List (Rule ℕ)
  from2 = map (loop2 m o.n) rs ++ from3

  pub all_steps : flat rule_words (flat (loop1 m o.n) (from 0 o.n) ++ from2) ≡ step_words ws rs k m q o
  all_steps =
      both (flat (loop1 m o.n) (from 0 o.n)) from2 _ _ part1
      (both (map (loop2 m o.n) rs) from3 _ _ part2
      (both (map (loop3 q o.s o.u) rs) from4 _ _ part3
      (both (loop4 o.e o.u ∷ []) from5 _ _ part4
      (both (map (loop5 ws o.d o.e o.u) (from 1 k)) from6 _ _ part5
      (both (flat (λ a. loop6 o.n o.s o.d o.e o.u (get_or ws a 0) a) (from 0 m)) from7 _ _ part6
      (both (map (λ a. loop789 o.u (o.s + a)) (from 0 q)) from8 _ _ (part789 o.s o.d q d-is)
      (both (map (λ a. loop789 o.u (o.d + a)) (from 0 m)) from9 _ _ (part789 o.d o.e m e-is)
      (both (map (λ j. loop789 o.u (o.e + j)) (from 0 (suc k))) (loop10 o.e o.u k) _ _ (part789 o.e o.u (suc k) u-is) part10))))))))
      ∙ sym regrouped

pub steps_open : (ws : List ℕ) (rs : List (Rule ℕ)) (k m q : ℕ) (o : Offsets) → Ahead (step_words ws rs k m q o) (file_words rs m q o) (class_words ws k m o ++ last_words k o)
unfolding step_words
steps_open ws rs k m q o = record { is = refl }
