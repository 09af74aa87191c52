-- The counts tested say sentence 7.
use Prim.Native.Nat.{ℕ, suc, ◌+◌, ◌≤◌, ◌<◌}
use native.Mathlib.Omega.{arith}
use native.Mathlib.Decide.{dec_lt}
use mathlib.Core.Path.{◌≡◌, refl, sym, ap, ◌∙◌, subst}
use mathlib.Core.Logic.{◌⊎◌, inl, inr, ◌↔◌}
use mathlib.Core.Bool.{not, ◌&&◌}
use mathlib.Core.List.{List, [], ◌∷◌, ◌++◌}
use lib.Dec.{T, leb, leb→le, le→leb}
use lib.ListN.{length, length-append, length-map}
use Rattle.kinds.specs.Limits.{atom_limit, rule_limit, occurrence_limit, class_limit, within}
use Rattle.kinds.specs.declared.limits.Counts.{Counts}
use Rattle.kinds.specs.declared.limits.Kind.{Kind}
use Rattle.rules.specs.Lists.{sum}
use Rattle.rules.specs.Rules.{Rule, occurrences}
use Rattle.rules.proofs.Lists.{sum_app}
use Rattle.rules.proofs.Connectives.{not_law, not_and}
use Rattle.conditions.specs.Conditions.{Cond}
use Rattle.conditions.specs.Numbers.{condition_rules}
use Rattle.lines.specs.Tokens.{Token}
use Rattle.lines.specs.Conditions.{connectives_in, parsed}
use Rattle.lines.specs.Forms.{Word, atoms, min, vary, fix, LineForm, declares, rules, condition, blank}
use Rattle.lines.specs.Faults.{SoFar, counts_of, classes_after, name_number, declared, numbered, with_rule_lem, with_condition_lem, all_counts}
use Rattle.faults.specs.Sentences.{parsed_or, condition_of, added_rules, atoms_with, rules_with, occurrences_with, classes_with, PassesLimit, atoms_pass, rules_pass, occurrences_pass, classes_pass}

passes_law : (n limit : ℕ) → T (not (leb n limit)) ↔ (limit < n)
passes_law n limit = let law = not_law (leb n limit) (leb→le n limit, le→leb n limit) in (λ t. past (law.0 t) (dec_lt limit n), λ h. law.1 (λ k. omega arith))
  where
    past : (n ≤ limit → ⊥) → Dec (limit < n) → limit < n
    past h (yes l) = l
    past h (no l) = absurd (h (omega arith))

-- some of the three counts passes its limit
abbrev CountPasses : Kind → Counts → Type 0
CountPasses kind c = (atom_limit kind < c.atoms) ⊎ ((rule_limit kind < c.rules) ⊎ (occurrence_limit kind < c.occurrences))

within_law : (kind : Kind) (c : Counts) → T (not (within kind c)) ↔ CountPasses kind c
within_law kind c =
    not_and (leb c.atoms (atom_limit kind)) (leb c.rules (rule_limit kind) && leb c.occurrences (occurrence_limit kind)) (passes_law c.atoms (atom_limit kind))
    (not_and (leb c.rules (rule_limit kind)) (leb c.occurrences (occurrence_limit kind)) (passes_law c.rules (rule_limit kind)) (passes_law c.occurrences (occurrence_limit kind)))

-- the counts with the line's own
abbrev counts_with : SoFar → LineForm → Counts
counts_with st f = record { atoms = atoms_with st f; rules = rules_with st f; occurrences = occurrences_with st f }

limit_law : (st : SoFar) (f : LineForm) → (CountPasses st.kind (counts_with st f) ⊎ (class_limit < classes_with st f)) ↔ PassesLimit st f
limit_law st f = (there, back)
  where
    there : CountPasses st.kind (counts_with st f) ⊎ (class_limit < classes_with st f) → PassesLimit st f
    there (inl (inl h)) = atoms_pass (omega arith)
    there (inl (inr (inl h))) = rules_pass (omega arith)
    there (inl (inr (inr h))) = occurrences_pass (omega arith)
    there (inr h) = classes_pass (omega arith)

    back : PassesLimit st f → CountPasses st.kind (counts_with st f) ⊎ (class_limit < classes_with st f)
    back (atoms_pass h) = inl (inl (omega arith))
    back (rules_pass h) = inl (inr (inl (omega arith)))
    back (occurrences_pass h) = inl (inr (inr (omega arith)))
    back (classes_pass h) = inr (omega arith)

module _ (st : SoFar) where
  declared_counts : (w : Word) (xs : List (List ℕ)) → st.made ≡ 0 → counts_of (declared st w xs) ≡ counts_with st (declares w xs)
  declared_counts w xs none =
      let e : length (st.names ++ xs) ≡ length st.names + st.made + length xs = omega (arith, length-append st.names xs) in
      ap (λ n. record { atoms = n; rules = length st.program_rules; occurrences = sum occurrences st.program_rules }) e

  pub classes_counted : (w : Word) (xs : List (List ℕ)) → classes_after w st.classes ≡ classes_with st (declares w xs)
  classes_counted atoms xs = refl
  classes_counted min xs = refl
  classes_counted vary xs = refl
  classes_counted fix xs = refl

  pub declared_limit : (w : Word) (xs : List (List ℕ)) → st.made ≡ 0 → T (not (within st.kind (counts_of (declared st w xs)) && leb (classes_after w st.classes) class_limit)) ↔ PassesLimit st (declares w xs)
  declared_limit w xs none =
      let counts = subst (λ c. T (not (within st.kind c)) ↔ CountPasses st.kind (counts_with st (declares w xs))) (sym (declared_counts w xs none)) (within_law st.kind (counts_with st (declares w xs))) in
      let classes = subst (λ n. T (not (leb n class_limit)) ↔ (class_limit < classes_with st (declares w xs))) (sym (classes_counted w xs)) (passes_law (classes_with st (declares w xs)) class_limit) in
      let law = not_and (within st.kind (counts_of (declared st w xs))) (leb (classes_after w st.classes) class_limit) counts classes in
      let limit = limit_law st (declares w xs) in
      (λ t. limit.0 (law.0 t), λ h. law.1 (limit.1 h))

  -- with the line added
  pub declared_within : (w : Word) (xs : List (List ℕ)) → (PassesLimit st (declares w xs) → ⊥) → PassesLimit (declared st w xs) blank → ⊥
  declared_within w xs n (atoms_pass h) = n (atoms_pass (omega (arith, length-append st.names xs)))
  declared_within w xs n (rules_pass h) = n (rules_pass (omega arith))
  declared_within w xs n (occurrences_pass h) = n (occurrences_pass (omega arith))
  declared_within w xs n (classes_pass h) = n (classes_pass (omega (arith, classes_counted w xs)))

  module _ (hs bs ns : List (List ℕ)) where
    abbrev line_rule : Rule ℕ
    line_rule = numbered st.names hs bs ns

    one_more : length (st.program_rules ++ (line_rule ∷ [])) ≡ suc (length st.program_rules)
    one_more = omega (arith, length-append st.program_rules (line_rule ∷ []))

    places : sum occurrences (st.program_rules ++ (line_rule ∷ [])) ≡ occurrences_with st (rules hs bs ns)
    places = omega (arith, sum_app occurrences st.program_rules (line_rule ∷ []), length-map hs (name_number st.names), length-map bs (name_number st.names), length-map ns (name_number st.names))

    -- a rule declares no atom, so their count is not tested again with those that conditions made
    pub rule_limit_lem : (PassesLimit st blank → ⊥) → T (not (within st.kind (counts_of (with_rule_lem st line_rule)))) ↔ PassesLimit st (rules hs bs ns)
    rule_limit_lem fits = let law = within_law st.kind (counts_of (with_rule_lem st line_rule)) in (λ t. there (law.0 t), λ h. law.1 (back h))
      where
        there : CountPasses st.kind (counts_of (with_rule_lem st line_rule)) → PassesLimit st (rules hs bs ns)
        there (inl h) = atoms_pass (omega arith)
        there (inr (inl h)) = rules_pass (omega (arith, one_more))
        there (inr (inr h)) = occurrences_pass (omega (arith, places))

        back : PassesLimit st (rules hs bs ns) → CountPasses st.kind (counts_of (with_rule_lem st line_rule))
        back (atoms_pass h) = absurd (fits (atoms_pass h))
        back (rules_pass h) = inr (inl (omega (arith, one_more)))
        back (occurrences_pass h) = inr (inr (omega (arith, places)))
        back (classes_pass h) = absurd (fits (classes_pass h))

    pub rule_within : (PassesLimit st (rules hs bs ns) → ⊥) → PassesLimit (with_rule_lem st line_rule) blank → ⊥
    rule_within n (atoms_pass h) = n (atoms_pass (omega arith))
    rule_within n (rules_pass h) = n (rules_pass (omega (arith, one_more)))
    rule_within n (occurrences_pass h) = n (occurrences_pass (omega (arith, places)))
    rule_within n (classes_pass h) = n (classes_pass (omega arith))

  module _ (ts : List Token) (a : List ℕ) (c : Cond) (is : condition_of st ts ≡ parsed c) where
    abbrev line_rules : List (Rule ℕ)
    line_rules = condition_rules (length st.names) c (name_number st.names a)

    abbrev with_line : SoFar
    with_line = with_condition_lem st c (connectives_in ts) (name_number st.names a)

    line_adds : added_rules st ts a ≡ line_rules
    line_adds = ap (λ p. parsed_or p (λ d. condition_rules (length st.names) d (name_number st.names a)) []) is

    rules_added : length (st.program_rules ++ line_rules) ≡ rules_with st (condition ts a)
    rules_added = length-append st.program_rules line_rules ∙ ap (λ l. length st.program_rules + length l) (sym line_adds)

    occurrences_added : sum occurrences (st.program_rules ++ line_rules) ≡ occurrences_with st (condition ts a)
    occurrences_added = sum_app occurrences st.program_rules line_rules ∙ ap (λ l. sum occurrences st.program_rules + sum occurrences l) (sym line_adds)

    pub condition_limit : (PassesLimit st blank → ⊥) → T (not (within st.kind (all_counts with_line))) ↔ PassesLimit st (condition ts a)
    condition_limit fits = let law = within_law st.kind (all_counts with_line) in (λ t. there (law.0 t), λ h. law.1 (back h))
      where
        there : CountPasses st.kind (all_counts with_line) → PassesLimit st (condition ts a)
        there (inl h) = atoms_pass (omega arith)
        there (inr (inl h)) = rules_pass (omega (arith, rules_added))
        there (inr (inr h)) = occurrences_pass (omega (arith, occurrences_added))

        back : PassesLimit st (condition ts a) → CountPasses st.kind (all_counts with_line)
        back (atoms_pass h) = inl (omega arith)
        back (rules_pass h) = inr (inl (omega (arith, rules_added)))
        back (occurrences_pass h) = inr (inr (omega (arith, occurrences_added)))
        back (classes_pass h) = absurd (fits (classes_pass h))

    pub condition_within : (PassesLimit st (condition ts a) → ⊥) → PassesLimit with_line blank → ⊥
    condition_within n (atoms_pass h) = n (atoms_pass (omega arith))
    condition_within n (rules_pass h) = n (rules_pass (omega (arith, rules_added)))
    condition_within n (occurrences_pass h) = n (occurrences_pass (omega (arith, occurrences_added)))
    condition_within n (classes_pass h) = n (classes_pass (omega arith))
