-- Atoms by the numbers they have while the file is read, and put in place at its end.
use Prim.Native.Nat.{ℕ, suc, ◌+◌, ◌-◌, ◌*◌, ◌≤◌, ◌<◌}
use native.Mathlib.Omega.{arith}
use native.Mathlib.Decide.{dec_lt}
use mathlib.Core.Path.{◌≡◌, refl, sym, ap, subst, ◌∙◌}
use mathlib.Core.List.{List, [], ◌∷◌, ◌++◌, map, map-map}
use mathlib.Core.Bool.{Bool, cond}
use mathlib.Core.Logic.{◌⊎◌, inl, inr}
use lib.Dec.{ltb}
use lib.ListN.{length, length-append, length-map}
use borrow.Author.Tests.{lt-ltb, le-ltb}
use Rattle.kinds.specs.declared.limits.Kind.TheVariants.{Preference}
use Rattle.rules.specs.Lists.{All, Distinct, flat, from, sum}
use Rattle.rules.specs.Rules.{Rule, rule, occurrences, rename}
use Rattle.rules.specs.Renumbering.{Within}
use Rattle.rules.proofs.Lists.{all_imp, all_from, sum_app, distinct_from}
use Rattle.rules.proofs.ListLaws.{map_flat, map_itself, flat_same, all_each}
use Rattle.rules.proofs.Rules.{rename_occurrences}
use Rattle.rules.proofs.Renumbering.{within_imp, rename_same, rename_again}
use Rattle.stores.specs.Program.{RuleForm}
use Rattle.conditions.specs.Conditions.{Atom, planner, made, Cond, Statement, states, when, connectives, statement_names, made_atoms}
use Rattle.conditions.specs.Written.{connective_rules, then_rule, statement_rules, written}
use Rattle.conditions.specs.Rows.{rows, row_rules, row_occurrences}
use Rattle.conditions.specs.Numbers.{place, placed_rules, Taken, Declared, in_file, condition_rules, file_rules, placing}
use Rattle.conditions.proofs.Counts.{rules_of_connectives}
use Rattle.conditions.proofs.Rows.{rows_count, rows_occurrences}
use Rattle.conditions.proofs.Placed.{place_low}
use Rattle.conditions.proofs.Formed.{Formed, IsMade, rules_numbered, statement_formed, rules_placed}
use Rattle.conditions.proofs.Atoms.{written_within}

-- put in place, an atom has its number in the written program

module _ (q n k : ℕ) where
  pub placing_planner : (a : ℕ) → a < n → placing q n k (in_file n (planner a)) ≡ place q k (planner a)
  unfolding placing in_file
  placing_planner a l = ap (λ (b : Bool). cond (ltb a q) a (cond b (a + k) (q + (a - n)))) (lt-ltb a n l)

  module _ (fits : q ≤ n) where
    late : (a : ℕ) → n ≤ a → placing q n k a ≡ q + (a - n)
    unfolding placing
    late a l = ap (λ (b : Bool). cond b a (cond (ltb a n) (a + k) (q + (a - n)))) (le-ltb a q (omega arith)) ∙ ap (λ (b : Bool). cond b (a + k) (q + (a - n))) (le-ltb a n l)

    pub placing_made : (t : ℕ) → 1 ≤ t → placing q n k (in_file n (made t)) ≡ place q k (made t)
    unfolding in_file
    placing_made t l = let e : q + (n + (t - 1) - n) ≡ q + (t - 1) = omega arith in late (n + (t - 1)) (omega arith) ∙ e

    pub placing_in_file : (c : Atom) → Declared n k c → placing q n k (in_file n c) ≡ place q k c
    placing_in_file (planner a) h = placing_planner a h
    placing_in_file (made t) h = placing_made t h.0

    -- it goes up by k, or down to the place between
    way : (a : ℕ) → ((a < q) × (placing q n k a ≡ a)) ⊎ (((q ≤ a) × (a < n) × (placing q n k a ≡ a + k)) ⊎ ((n ≤ a) × (placing q n k a ≡ q + (a - n))))
    unfolding placing
    way a = step (dec_lt a q) (dec_lt a n)
      where
        at : ℕ
        at = cond (ltb a q) a (cond (ltb a n) (a + k) (q + (a - n)))

        step : Dec (a < q) → Dec (a < n) → ((a < q) × (at ≡ a)) ⊎ (((q ≤ a) × (a < n) × (at ≡ a + k)) ⊎ ((n ≤ a) × (at ≡ q + (a - n))))
        step (yes h) d = inl (h, ap (λ (b : Bool). cond b a (cond (ltb a n) (a + k) (q + (a - n)))) (lt-ltb a q h))
        step (no h) (yes g) = inr (inl (omega arith, g, ap (λ (b : Bool). cond b a (cond (ltb a n) (a + k) (q + (a - n)))) (le-ltb a q (omega arith)) ∙ ap (λ (b : Bool). cond b (a + k) (q + (a - n))) (lt-ltb a n g)))
        step (no h) (no g) = inr (inr (omega arith, late a (omega arith)))

    bound : (a : ℕ) → a < n + k → placing q n k a < n + k
    bound a l = step (way a)
      where
        step : ((a < q) × (placing q n k a ≡ a)) ⊎ (((q ≤ a) × (a < n) × (placing q n k a ≡ a + k)) ⊎ ((n ≤ a) × (placing q n k a ≡ q + (a - n)))) → placing q n k a < n + k
        step (inl h) = omega (arith, h.1)
        step (inr (inl h)) = omega (arith, h.1, h.2)
        step (inr (inr h)) = omega (arith, h.0, h.1)

    apart : (a b : ℕ) → a < n + k → b < n + k → placing q n k a ≡ placing q n k b → a ≡ b
    apart a b la lb e = step (way a) (way b)
      where
        step : ((a < q) × (placing q n k a ≡ a)) ⊎ (((q ≤ a) × (a < n) × (placing q n k a ≡ a + k)) ⊎ ((n ≤ a) × (placing q n k a ≡ q + (a - n))))
            → ((b < q) × (placing q n k b ≡ b)) ⊎ (((q ≤ b) × (b < n) × (placing q n k b ≡ b + k)) ⊎ ((n ≤ b) × (placing q n k b ≡ q + (b - n)))) → a ≡ b
        step (inl h) (inl g) = omega (arith, h.1, g.1)
        step (inl h) (inr (inl g)) = omega (arith, h.0, h.1, g.0, g.2)
        step (inl h) (inr (inr g)) = omega (arith, h.0, h.1, g.0, g.1)
        step (inr (inl h)) (inl g) = omega (arith, h.0, h.2, g.0, g.1)
        step (inr (inl h)) (inr (inl g)) = omega (arith, h.2, g.2)
        step (inr (inl h)) (inr (inr g)) = omega (arith, h.0, h.2, g.0, g.1)
        step (inr (inr h)) (inl g) = omega (arith, h.0, h.1, g.0, g.1)
        step (inr (inr h)) (inr (inl g)) = omega (arith, h.0, h.1, g.0, g.2)
        step (inr (inr h)) (inr (inr g)) = omega (arith, h.0, h.1, g.0, g.1)

    -- so rules of the form stay of the form
    pub placing_forms : (rs : List (Rule ℕ)) → All (RuleForm Preference (n + k)) rs → All (RuleForm Preference (n + k)) (map (rename (placing q n k)) rs)
    placing_forms rs h = rules_numbered (λ a. a < n + k) (n + k) (placing q n k) bound apart rs
        (all_imp (RuleForm Preference (n + k)) (Formed (λ a. a < n + k)) (λ r f. record { head = f.head_form.0; head_distinct = f.head_form.1; body = f.body_form.0; body_distinct = f.body_form.1; nots = f.no_nots }) rs h)

-- the rules of a condition

-- while the file is read, atoms have the numbers they would have if all T atoms stood last
in_place_lem : (n k : ℕ) (c : Atom) → Declared n k c → in_file n c ≡ place n k c
unfolding in_file
in_place_lem n k (planner a) h = sym (place_low n k a h)
in_place_lem n k (made t) h = refl

formed_within : {A : Type 0} (Q : A → Type 0) (r : Rule A) → Formed Q r → Within Q r
formed_within Q r f = record { head = f.head; body = f.body; nots = subst (All Q) (sym f.nots) tt }

module _ (n : ℕ) (c : Cond) (a : ℕ) where
  pub condition_forms : (k m j : ℕ) → All (λ b. b < n) (statement_names (when c a)) → connectives c ≡ from (suc m) j → m + j ≤ k → All (RuleForm Preference (n + k)) (condition_rules n c a)
  unfolding condition_rules
  condition_forms k m j names numbered room =
      let formed = statement_formed n k (when c a) names
      (subst (All (IsMade k)) (sym numbered) (all_from (IsMade k) (suc m) j (λ t l u. (omega arith, omega arith)))) (subst Distinct (sym numbered) (distinct_from (suc m) j)) in
      let same = rename_same (in_file n) (place n k) (statement_rules (when c a))
      (all_imp (Formed (Declared n k)) (Within (λ x. in_file n x ≡ place n k x)) (λ r f. let w = formed_within (Declared n k) r f in record { head = all_imp _ _ (in_place_lem n k) r.head w.head; body = all_imp _ _ (in_place_lem n k) r.body w.body; nots = all_imp _ _ (in_place_lem n k) r.nots w.nots }) (statement_rules (when c a)) formed) in
      subst (All (RuleForm Preference (n + k))) (sym same) (rules_placed n k n (omega arith) (statement_rules (when c a)) formed)

  -- two or three rules a connective, and the last one
  pub condition_length : length (condition_rules n c a) ≡ sum (λ r. length (row_rules r)) (rows c) + 1
  unfolding condition_rules
  condition_length = length-map (connective_rules c ++ (then_rule c a ∷ [])) (rename (in_file n)) ∙ length-append (connective_rules c) (then_rule c a ∷ []) ∙ ap (λ (i : ℕ). i + 1) (rows_count c)

  pub condition_few : length (condition_rules n c a) ≤ 3 * length (connectives c) + 1
  condition_few = omega (arith, condition_length, rows_count c, rules_of_connectives c)

  -- 4 occurrences a `not`, 6 or 7 an `and` or `or`, 2 the last rule
  pub condition_occurrences : sum occurrences (condition_rules n c a) ≡ sum row_occurrences (rows c) + 2
  unfolding condition_rules
  condition_occurrences = rename_occurrences (in_file n) (connective_rules c ++ (then_rule c a ∷ [])) ∙ sum_app occurrences (connective_rules c) (then_rule c a ∷ []) ∙ ap (λ (i : ℕ). i + 2) (rows_occurrences c)

-- the rules of a file

module _ (n : ℕ) where
  statement_rules_lem : (l : Statement) → file_rules n l ≡ map (rename (in_file n)) (statement_rules l)
  unfolding condition_rules in_file
  statement_rules_lem (states r) = λ i. rule (back r.head i) (back r.body i) (back r.nots i) ∷ []
    where
      back : (l : List ℕ) → l ≡ map (in_file n) (map planner l)
      back l = sym (map-map (in_file n) planner l ∙ map_itself (λ (a : ℕ). in_file n (planner a)) l (all_each _ (λ a. refl) l))
  statement_rules_lem (when c a) = refl

  pub file_rules_lem : (ls : List Statement) → flat (file_rules n) ls ≡ map (rename (in_file n)) (written ls)
  file_rules_lem ls = flat_same (file_rules n) (λ l. map (rename (in_file n)) (statement_rules l)) ls (all_each _ statement_rules_lem ls) ∙ sym (map_flat (rename (in_file n)) statement_rules ls)

-- the atoms of a file that is taken
pub written_declared : (ws : List ℕ) (ls : List Statement) → Taken ws ls → All (Within (Declared (length ws) (length (made_atoms ls)))) (written ls)
written_declared ws ls taken =
    let k = length (made_atoms ls) in
    (written_within (Declared (length ws) k) ls).1 (taken.declared, subst (All (IsMade k)) (sym taken.numbered) (all_from (IsMade k) 1 k (λ t l u. (l, omega arith))))

-- the rules gathered while the file is read, put in place, are the written ones
pub placing_rules : (ws : List ℕ) (ls : List Statement) → Taken ws ls → (q : ℕ) → q ≤ length ws
    → map (rename (placing q (length ws) (length (made_atoms ls)))) (flat (file_rules (length ws)) ls) ≡ placed_rules q (length (made_atoms ls)) ls
unfolding placed_rules
placing_rules ws ls taken q fits =
    let n = length ws in
    let k = length (made_atoms ls) in
    ap (map (rename (placing q n k))) (file_rules_lem n ls)
    ∙ rename_again (placing q n k) (in_file n) (written ls)
    ∙ rename_same (λ c. placing q n k (in_file n c)) (place q k) (written ls) (within_imp (Declared n k) _ (placing_in_file q n k fits) (written ls) (written_declared ws ls taken))
