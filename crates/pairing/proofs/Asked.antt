-- What the reduct of a translation by m asks of x, step by step: the pairing is proved from this record and not from the rules.
use Prim.Native.Nat.{ℕ, suc, ◌-◌, ◌≤◌, ◌<◌}
use mathlib.Core.List.{List, [], ◌∷◌, ◌++◌, map}
use mathlib.Core.Bool.{Bool}
use mathlib.Core.Logic.Iff
use mathlib.Core.Logic.{◌⊎◌, ◌↔◌}
use lib.Dec.{T}
use Rattle.rules.specs.Lists.{All, Any, filter}
use Rattle.rules.specs.Sets.{In, Out}
use Rattle.rules.specs.Rules.{Rule}
use Rattle.rules.specs.Preferred.{OfClass, of_class}
use Rattle.rules.proofs.Lists.{app_iff, map_iff, filter_iff, any_map, map_any}
use Rattle.rules.proofs.Rules.{Asks}
use Rattle.rules.proofs.Preferred.{any_of_class}
use Rattle.stores.specs.Program.{Program}
use Rattle.pairing.specs.Atoms.{Atom, original, N, S, D, E, U, class_word, is_minimised, is_unminimised, is_fixed, is_unfixed}
use Rattle.pairing.specs.Steps.{step1, step2, step3, step4, step5, step6, step7, step8, step9, step10, translation}
use Rattle.pairing.proofs.Fit.{Minimised}
use Rattle.pairing.proofs.Quantified.{Each·simp, Asked·simp, or_iff, or_none, or_last, all_iff, any_app_iff, any_chosen_iff}

module _ (p : Program) (m x : Atom → Bool) where
  abbrev pub Asked1 : Type 0
  Asked1 = (a : ℕ) → a < p.atoms → (T (is_unminimised p a) → Out m (N a) → In x (original a)) × (Out m (original a) → In x (N a))

  abbrev pub Kept : Rule ℕ → Type 0
  Kept r =
      All (λ a. T (is_unminimised p a) → Out m (original a)) r.head
      → All (λ a. T (is_unminimised p a) → Out m (N a)) r.body
      → All (λ a. T (is_minimised p a) → In x (original a)) r.body
      → Any (λ a. T (is_minimised p a) × In x (original a)) r.head

  abbrev pub Copied : Rule ℕ → Type 0
  Copied r =
      All (λ a. T (is_fixed p a) → Out m (original a)) r.head
      → All (λ a. T (is_unfixed p a) → In x (S a)) r.body
      → All (λ a. T (is_fixed p a) → In x (original a)) r.body
      → Any (λ a. T (is_unfixed p a) × In x (S a)) r.head ⊎ In x U

  abbrev pub Asked5 : Type 0
  Asked5 = (i : ℕ) → 1 ≤ i → i ≤ p.classes → In x (E (i - 1)) → ((a : ℕ) × OfClass p.words i a × In x (D a)) ⊎ (In x (E i) ⊎ In x U)

  abbrev pub Asked6 : Type 0
  Asked6 = (a : ℕ) → a < p.atoms → Minimised p a
      → (Out m (original a) → In x (D a) → In x U)
      × ((In x (D a) → In x (S a) → In x U)
      × ((Out m (original a) → In x (E (class_word p a - 1)) → In x (S a) → In x U)
      × (Out m (N a) → In x (E (class_word p a)) → In x (S a) ⊎ In x U)))

  pub record Steps : Type 0 where
    pub s1 : Asked1
    pub s2 : All Kept p.rules
    pub s3 : All Copied p.rules
    pub s4 : In x (E 0) ⊎ In x U
    pub s5 : Asked5
    pub s6 : Asked6
    pub s7 : (a : ℕ) → a < p.atoms → T (is_unfixed p a) → In x U → In x (S a)
    pub s8 : (a : ℕ) → a < p.atoms → Minimised p a → In x U → In x (D a)
    pub s9 : (j : ℕ) → j < suc p.classes → In x U → In x (E j)
    pub s10 : (In x (E p.classes) → In x U) × (Out m U → ⊥)

  asked1 : All (Asks m x) (step1 p) ↔ Asked1
  unfolding step1
  asked1 = simp (Each·simp, Asked·simp) Iff.rfl

  asked2 : All (Asks m x) (step2 p) ↔ All Kept p.rules
  unfolding step2
  asked2 = simp map_iff (all_iff _ Kept (λ r. simp (app_iff, map_iff, filter_iff, any_chosen_iff, Asked·simp) Iff.rfl) p.rules)

  copied : (l : List ℕ) → Any (In x) (map S (filter (is_unfixed p) l) ++ (U ∷ [])) ↔ (Any (λ a. T (is_unfixed p a) × In x (S a)) l ⊎ In x U)
  copied l = Iff.trans (any_app_iff (In x) (map S (filter (is_unfixed p) l)) (U ∷ [])) (or_iff (any_chosen_iff (In x) S (is_unfixed p) l) or_none)

  asked3 : All (Asks m x) (step3 p) ↔ All Copied p.rules
  unfolding step3
  asked3 = simp map_iff (all_iff _ Copied (λ r. simp (app_iff, map_iff, filter_iff, copied, Asked·simp) Iff.rfl) p.rules)

  asked4 : All (Asks m x) (step4 p) ↔ (In x (E 0) ⊎ In x U)
  unfolding step4
  asked4 = simp Asked·simp Iff.rfl

  of_class_lem : (i : ℕ) → Any (In x) (map D (of_class p.words i) ++ (E i ∷ U ∷ [])) ↔ (((a : ℕ) × OfClass p.words i a × In x (D a)) ⊎ (In x (E i) ⊎ In x U))
  of_class_lem i = Iff.trans (any_app_iff (In x) (map D (of_class p.words i)) (E i ∷ U ∷ []))
      (or_iff (Iff.trans (map_any (In x) D (of_class p.words i), any_map (In x) D (of_class p.words i)) (any_of_class p.words i (λ a. In x (D a)))) or_last)

  asked5 : All (Asks m x) (step5 p) ↔ Asked5
  unfolding step5
  asked5 = simp (Each·simp, of_class_lem, Asked·simp) Iff.rfl

  asked6 : All (Asks m x) (step6 p) ↔ Asked6
  unfolding step6
  asked6 = simp (Each·simp, Asked·simp) Iff.rfl

  asked7 : All (Asks m x) (step7 p) ↔ ((a : ℕ) → a < p.atoms → T (is_unfixed p a) → In x U → In x (S a))
  unfolding step7
  asked7 = simp (Each·simp, Asked·simp) Iff.rfl

  asked8 : All (Asks m x) (step8 p) ↔ ((a : ℕ) → a < p.atoms → Minimised p a → In x U → In x (D a))
  unfolding step8
  asked8 = simp (Each·simp, Asked·simp) Iff.rfl

  asked9 : All (Asks m x) (step9 p) ↔ ((j : ℕ) → j < suc p.classes → In x U → In x (E j))
  unfolding step9
  asked9 = simp (Each·simp, Asked·simp) Iff.rfl

  asked10 : All (Asks m x) (step10 p) ↔ ((In x (E p.classes) → In x U) × (Out m U → ⊥))
  unfolding step10
  asked10 = (λ h. simp Asked·simp at h, λ h. simp Asked·simp h)

  ruleset Step·simp = (app_iff, asked1, asked2, asked3, asked4, asked5, asked6, asked7, asked8, asked9, asked10)

  pub to_steps : All (Asks m x) (translation p) → Steps
  unfolding translation
  to_steps h =
      let q = simp Step·simp at h in
      record {
        s1 = q.0;
        s2 = q.1.0;
        s3 = q.1.1.0;
        s4 = q.1.1.1.0;
        s5 = q.1.1.1.1.0;
        s6 = q.1.1.1.1.1.0;
        s7 = q.1.1.1.1.1.1.0;
        s8 = q.1.1.1.1.1.1.1.0;
        s9 = q.1.1.1.1.1.1.1.1.0;
        s10 = q.1.1.1.1.1.1.1.1.1;
      }

  pub of_steps : Steps → All (Asks m x) (translation p)
  unfolding translation
  of_steps s = simp Step·simp (s.s1, (s.s2, (s.s3, (s.s4, (s.s5, (s.s6, (s.s7, (s.s8, (s.s9, s.s10)))))))))
