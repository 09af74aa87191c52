-- What a connective's rules ask of a set: its T is the connective of its parts. So each T is its condition's truth.
use Prim.Native.Nat.{ℕ}
use mathlib.Core.Path.{◌≡◌, refl, sym, ap, ap₂, ◌∙◌, subst}
use mathlib.Core.List.{List, [], ◌∷◌, ◌++◌}
use mathlib.Core.Bool.{Bool, true, false, not, ◌&&◌, ◌||◌}
use mathlib.Core.Logic.{◌⊎◌, inl, inr, ◌↔◌, ◌≢◌}
use lib.Dec.{T, eqb→eq}
use Rattle.rules.specs.Lists.{All, Any, Distinct, keep, flat}
use Rattle.rules.specs.Sets.{In, Out}
use Rattle.rules.specs.Rules.{Rule, Holds, Model, rename}
use Rattle.rules.proofs.Booleans.{eq_to_eqb, decide, T_of, bool_ext, T_and, T-and-l, T-and-r, T-or, T-or-out, T-not-in, T-not-out}
use Rattle.rules.proofs.Lists.{all_app, all_app_l, all_app_r, all_keep, keep_any, all_map, map_all, any_map, map_any}
use Rattle.conditions.specs.Conditions.{Atom, planner, made, Cond, name, NOT, AND, OR, Statement, states, when, truth}
use Rattle.conditions.specs.Written.{is_same, once, part, and_rules, or_rules, not_rules, connective_rules, then_rule, statement_rules, written}
use Rattle.conditions.specs.Readings.{StatementHolds, DirectModel, cut_down}
use Rattle.conditions.proofs.Values.{values, statement_values, Has, Valued}

same_atom : (a b : Atom) → T (is_same a b) → a ≡ b
same_atom (planner a) (planner b) h = ap planner (eqb→eq a b h)
same_atom (planner a) (made b) h = absurd h
same_atom (made a) (planner b) h = absurd h
same_atom (made a) (made b) h = ap made (eqb→eq a b h)

same_refl : (a : Atom) → T (is_same a a)
same_refl (planner a) = eq_to_eqb a a refl
same_refl (made t) = eq_to_eqb t t refl

-- of two atoms, each once in a list

pub once_distinct : (l r : Atom) → Distinct (once l r)
unfolding once
once_distinct l r = (
  all_keep (λ y. l ≢ y) (not (is_same l r)) r [] (λ t e. T-not-out (is_same l r) t (subst (λ (c : Atom). T (is_same l c)) e (same_refl l))) tt,
  one (not (is_same l r)),
)
  where
    one : (b : Bool) → Distinct (keep b r [])
    one true = (tt, tt)
    one false = tt

module _ (P : Atom → Type 0) (l r : Atom) where
  pub once_all : All P (once l r) ↔ (P l × P r)
  unfolding once
  once_all = (λ h. (h.0, right (is_same l r) (same_atom l r) h.0 h.1), λ h. (h.0, all_keep P (not (is_same l r)) r [] (λ t. h.1) tt))
    where
      right : (b : Bool) → (T b → l ≡ r) → P l → All P (keep (not b) r []) → P r
      right true e p k = subst P (e tt) p
      right false e p k = k.0

  pub once_any : Any P (once l r) ↔ (P l ⊎ P r)
  unfolding once
  once_any = (there, back (is_same l r) (same_atom l r))
    where
      last : (T (not (is_same l r)) × P r) ⊎ ⊥ → P l ⊎ P r
      last (inl k) = inr k.1
      last (inr k) = absurd k

      there : P l ⊎ Any P (keep (not (is_same l r)) r []) → P l ⊎ P r
      there (inl p) = inl p
      there (inr k) = last (keep_any P (not (is_same l r)) r [] k)

      back : (b : Bool) → (T b → l ≡ r) → P l ⊎ P r → P l ⊎ Any P (keep (not b) r [])
      back true e (inl p) = inl p
      back true e (inr p) = inl (subst P (sym (e tt)) p)
      back false e (inl p) = inl p
      back false e (inr p) = inr (inl p)

sole : {P : Type 0} → P ⊎ ⊥ → P
sole (inl p) = p
sole (inr e) = absurd e

-- what the rules of one connective ask

module _ (x : Atom → Bool) (t l r : Atom) where
  and_law : Model (and_rules t l r) x ↔ (x t ≡ (x l && x r))
  and_law = (
    λ h. bool_ext (x t) (x l && x r)
        (λ k. T_and (x l) (x r) (sole (h.1.0 (k, tt) tt)) (sole (h.1.1.0 (k, tt) tt)))
        (λ k. sole (h.0 ((once_all (In x) l r).1 (T-and-l (x l) (x r) k, T-and-r (x l) (x r) k)) tt)),
    λ e. (
      λ b n. let q = (once_all (In x) l r).0 b in inl (T_of (sym e) (T_and (x l) (x r) q.0 q.1)),
      (λ b n. inl (T-and-l (x l) (x r) (T_of e b.0)), (λ b n. inl (T-and-r (x l) (x r) (T_of e b.0)), tt)),
    ),
  )

  or_law : Model (or_rules t l r) x ↔ (x t ≡ (x l || x r))
  or_law = (
    λ h. bool_ext (x t) (x l || x r)
        (λ k. T-or (x l) (x r) ((once_any (In x) l r).0 (h.0 (k, tt) tt)))
        (λ k. up h (T-or-out (x l) (x r) k)),
    λ e. (
      λ b n. (once_any (In x) l r).1 (T-or-out (x l) (x r) (T_of e b.0)),
      (λ b n. inl (T_of (sym e) (T-or (x l) (x r) (inl b.0))), (λ b n. inl (T_of (sym e) (T-or (x l) (x r) (inr b.0))), tt)),
    ),
  )
    where
      up : Model (or_rules t l r) x → T (x l) ⊎ T (x r) → T (x t)
      up h (inl k) = sole (h.1.0 (k, tt) tt)
      up h (inr k) = sole (h.1.1.0 (k, tt) tt)

module _ (x : Atom → Bool) (t c : Atom) where
  not_law : Model (not_rules t c) x ↔ (x t ≡ not (x c))
  not_law = (
    λ h. bool_ext (x t) (not (x c)) (λ k. T-not-in (x c) (λ q. h.1.0 (k, (q, tt)) tt)) (λ k. first k (h.0 tt tt)),
    λ e. (λ b n. either e (decide (x c)), (λ b n. T-not-out (x c) (T_of e b.0) b.1.0, tt)),
  )
    where
      first : T (not (x c)) → T (x t) ⊎ (T (x c) ⊎ ⊥) → T (x t)
      first k (inl h) = h
      first k (inr (inl h)) = absurd (T-not-out (x c) k h)
      first k (inr (inr h)) = absurd h

      either : x t ≡ not (x c) → T (x c) ⊎ (T (x c) → ⊥) → T (x t) ⊎ (T (x c) ⊎ ⊥)
      either e (inl h) = inr (inl h)
      either e (inr h) = inl (T_of (sym e) (T-not-in (x c) h))

-- each T is its condition's truth

module _ (x : Atom → Bool) where
  abbrev m : ℕ → Bool
  m = cut_down x

  -- so a part is true where its condition is
  pub part_value : (c : Cond) → All (Has x) (values m c) → x (part c) ≡ truth m c
  unfolding truth values
  part_value (name a) h = refl
  part_value (NOT t c) h = h.0
  part_value (AND l t r) h = (all_app_r (Has x) (values m l) ((t, truth m (AND l t r)) ∷ values m r) h).0
  part_value (OR l t r) h = (all_app_r (Has x) (values m l) ((t, truth m (OR l t r)) ∷ values m r) h).0

  joined : (l r : Cond) (t : ℕ) (rs : List (Rule Atom)) (f : Bool → Bool → Bool) → Model rs x ↔ (x (made t) ≡ f (x (part l)) (x (part r)))
      → Model (connective_rules l) x ↔ All (Has x) (values m l) → Model (connective_rules r) x ↔ All (Has x) (values m r)
      → Model (connective_rules l ++ (rs ++ connective_rules r)) x ↔ All (Has x) (values m l ++ ((t, f (truth m l) (truth m r)) ∷ values m r))
  joined l r t rs f own left right = (
    λ h.
        let rest = all_app_r (Holds x) (connective_rules l) (rs ++ connective_rules r) h in
        let hl = left.0 (all_app_l (Holds x) (connective_rules l) (rs ++ connective_rules r) h) in
        let hr = right.0 (all_app_r (Holds x) rs (connective_rules r) rest) in
        all_app (Has x) (values m l) ((t, f (truth m l) (truth m r)) ∷ values m r) hl
        (own.0 (all_app_l (Holds x) rs (connective_rules r) rest) ∙ ap₂ f (part_value l hl) (part_value r hr), hr),
    λ h.
        let hl = all_app_l (Has x) (values m l) ((t, f (truth m l) (truth m r)) ∷ values m r) h in
        let hr = all_app_r (Has x) (values m l) ((t, f (truth m l) (truth m r)) ∷ values m r) h in
        all_app (Holds x) (connective_rules l) (rs ++ connective_rules r) (left.1 hl)
        (all_app (Holds x) rs (connective_rules r) (own.1 (hr.0 ∙ sym (ap₂ f (part_value l hl) (part_value r hr.1)))) (right.1 hr.1)),
  )

  pub connectives_law : (c : Cond) → Model (connective_rules c) x ↔ All (Has x) (values m c)
  unfolding truth values connective_rules
  connectives_law (name a) = (λ h. tt, λ h. tt)
  connectives_law (NOT t c) =
      let q = connectives_law c in (
        λ h.
            let k = q.0 h.1.1 in
            ((not_law x (made t) (part c)).0 (h.0, (h.1.0, tt)) ∙ ap not (part_value c k), k),
        λ h. let w = (not_law x (made t) (part c)).1 (h.0 ∙ ap not (sym (part_value c h.1))) in (w.0, (w.1.0, q.1 h.1)),
      )
  connectives_law (AND l t r) =
      joined l r t (and_rules (made t) (part l) (part r)) (◌&&◌) (and_law x (made t) (part l) (part r)) (connectives_law l) (connectives_law r)
  connectives_law (OR l t r) =
      joined l r t (or_rules (made t) (part l) (part r)) (◌||◌) (or_law x (made t) (part l) (part r)) (connectives_law l) (connectives_law r)

  -- a planner's rule asks of x what it asks of the cut
  planner_law : (r : Rule ℕ) → Holds x (rename planner r) ↔ Holds m r
  planner_law r = (
    λ h b n. map_any (In x) planner r.head (h (all_map (In x) planner r.body b) (all_map (Out x) planner r.nots n)),
    λ h b n. any_map (In x) planner r.head (h (map_all (In x) planner r.body b) (map_all (Out x) planner r.nots n)),
  )

  -- where each T is its condition's truth, the last rule is the condition
  then_law : (c : Cond) (a : ℕ) → All (Has x) (values m c) → Holds x (then_rule c a) ↔ StatementHolds m (when c a)
  then_law c a v = (
    λ h k. sole (h (T_of (sym (part_value c v)) k, tt) tt),
    λ h b n. inl (h (T_of (part_value c v) b.0)),
  )

  pub statement_law : (l : Statement) → Model (statement_rules l) x ↔ (StatementHolds m l × All (Has x) (statement_values m l))
  statement_law (states r) = (λ h. ((planner_law r).0 h.0, tt), λ h. ((planner_law r).1 h.0, tt))
  statement_law (when c a) = (
    λ h.
        let v = (connectives_law c).0 (all_app_l (Holds x) (connective_rules c) (then_rule c a ∷ []) h) in
        ((then_law c a v).0 (all_app_r (Holds x) (connective_rules c) (then_rule c a ∷ []) h).0, v),
    λ h. all_app (Holds x) (connective_rules c) (then_rule c a ∷ []) ((connectives_law c).1 h.1) ((then_law c a h.1).1 h.0, tt),
  )

  -- a model of the written program is a set whose cut is a direct model and in which each T has its condition's value
  pub written_law : (ls : List Statement) → Model (written ls) x ↔ (DirectModel ls m × Valued x ls)
  written_law [] = (λ h. (tt, tt), λ h. tt)
  written_law (l ∷ ls) = let q = written_law ls in (
    λ h.
        let k = (statement_law l).0 (all_app_l (Holds x) (statement_rules l) (written ls) h) in
        let r = q.0 (all_app_r (Holds x) (statement_rules l) (written ls) h) in
        ((k.0, r.0), all_app (Has x) (statement_values m l) (flat (statement_values m) ls) k.1 r.1),
    λ h. all_app (Holds x) (statement_rules l) (written ls)
        ((statement_law l).1 (h.0.0, all_app_l (Has x) (statement_values m l) (flat (statement_values m) ls) h.1))
        (q.1 (h.0.1, all_app_r (Has x) (statement_values m l) (flat (statement_values m) ls) h.1)),
  )
