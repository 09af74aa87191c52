-- The ten steps of the translation, each its own definition, over the atoms as such: steps 1 and 2 in the words of document 02, W-214, the others in those of document 01.
use Rattle.std.specs.Prelude.{suc, ◌-◌, List, [], ◌∷◌, ◌++◌, map}
use Rattle.rules.specs.Lists.{keep, filter, flat, from}
use Rattle.rules.specs.Rules.{Rule, rule}
use Rattle.rules.specs.Preferred.{of_class}
use Rattle.stores.specs.Program.{Program}
use Rattle.pairing.specs.Atoms.{Atom, original, N, S, D, E, U, originals, class_word, is_minimised, is_unminimised, is_fixed, is_unfixed, minimised_atoms, unfixed_atoms}

module _ (p : Program) where
  -- Step 1: for each atom: a if not N.a, unless it is minimised; N.a if not a
  unfoldable pub step1 : List (Rule Atom)
  step1 = flat (λ a.
      keep (is_unminimised p a) (rule (original a ∷ []) [] (N a ∷ []))
      (rule (N a ∷ []) [] (original a ∷ []) ∷ [])) (originals p)

  -- Step 2: for each rule: its minimised head atoms; body its minimised body atoms; not its other head atoms, then not N. of its other body atoms
  unfoldable pub step2 : List (Rule Atom)
  step2 = map (λ r. rule
      (map original (filter (is_minimised p) r.head))
      (map original (filter (is_minimised p) r.body))
      (map original (filter (is_unminimised p) r.head) ++ map N (filter (is_unminimised p) r.body))) p.rules

  -- Step 3: for each rule: S. of its unfixed head atoms, U last; body S. of the unfixed, the fixed themselves; not its fixed head atoms
  unfoldable pub step3 : List (Rule Atom)
  step3 = map (λ r. rule
      (map S (filter (is_unfixed p) r.head) ++ (U ∷ []))
      (map S (filter (is_unfixed p) r.body) ++ map original (filter (is_fixed p) r.body))
      (map original (filter (is_fixed p) r.head))) p.rules

  -- Step 4: E.0 or U
  unfoldable pub step4 : List (Rule Atom)
  step4 = rule (E 0 ∷ U ∷ []) [] [] ∷ []

  -- Step 5: for each class i: the D. of its atoms, E.i or U, if E.(i−1)
  unfoldable pub step5 : List (Rule Atom)
  step5 = map (λ i. rule (map D (of_class p.words i) ++ (E i ∷ U ∷ [])) (E (i - 1) ∷ []) []) (from 1 p.classes)

  -- Step 6: for each minimised a of class i: U if D.a, not a; U if D.a and S.a; U if E.(i−1) and S.a, not a; S.a or U if E.i, not N.a
  unfoldable pub step6 : List (Rule Atom)
  step6 = flat (λ a.
      rule (U ∷ []) (D a ∷ []) (original a ∷ [])
      ∷ rule (U ∷ []) (D a ∷ S a ∷ []) []
      ∷ rule (U ∷ []) (E (class_word p a - 1) ∷ S a ∷ []) (original a ∷ [])
      ∷ rule (S a ∷ U ∷ []) (E (class_word p a) ∷ []) (N a ∷ [])
      ∷ []) (minimised_atoms p)

  -- Step 7: S.a if U, each unfixed
  unfoldable pub step7 : List (Rule Atom)
  step7 = map (λ a. rule (S a ∷ []) (U ∷ []) []) (unfixed_atoms p)

  -- Step 8: D.a if U, each minimised
  unfoldable pub step8 : List (Rule Atom)
  step8 = map (λ a. rule (D a ∷ []) (U ∷ []) []) (minimised_atoms p)

  -- Step 9: E.j if U, j from 0 to k
  unfoldable pub step9 : List (Rule Atom)
  step9 = map (λ j. rule (E j ∷ []) (U ∷ []) []) (from 0 (suc p.classes))

  -- Step 10: U if E.k; then no head, not U
  unfoldable pub step10 : List (Rule Atom)
  step10 = rule (U ∷ []) (E p.classes ∷ []) [] ∷ rule [] [] (U ∷ []) ∷ []

  -- rules in step order
  unfoldable pub translation : List (Rule Atom)
  translation = step1 ++ (step2 ++ (step3 ++ (step4 ++ (step5 ++ (step6 ++ (step7 ++ (step8 ++ (step9 ++ step10))))))))
