-- The written rules are of the form: declared atoms, none twice in a list, no `not` list.
use Prim.Native.Nat.{ℕ, ◌+◌, ◌≤◌, ◌<◌}
use native.Mathlib.Omega.{arith}
use mathlib.Core.Path.{◌≡◌, refl, sym, ap, subst, ◌∙◌}
use mathlib.Core.List.{List, [], ◌∷◌, ◌++◌, map}
use mathlib.Core.Logic.{◌≢◌}
use Rattle.kinds.specs.declared.limits.Kind.TheVariants.{Preference}
use Rattle.rules.specs.Lists.{All, Distinct}
use Rattle.rules.specs.Rules.{Rule, rule, rename}
use Rattle.rules.proofs.Lists.{all_imp, all_app, all_app_l, all_app_r, all_map, distinct_map}
use Rattle.stores.specs.Program.{ListForm, RuleForm}
use Rattle.conditions.specs.Conditions.{Atom, planner, made, Cond, name, NOT, AND, OR, Statement, states, when, names_of, connectives, statement_connectives, made_atoms}
use Rattle.conditions.specs.Written.{part, and_rules, or_rules, not_rules, connective_rules, then_rule, statement_rules, written}
use Rattle.conditions.specs.Numbers.{place, Declared}
use Rattle.conditions.specs.Programs.{StatementForm}
use Rattle.conditions.proofs.Connectives.{once_distinct, once_all}
use Rattle.conditions.proofs.Placed.{unplace, unplace_planner, unplace_made, place_lt}

-- entries that differ

distinct_l : {A : Type 0} (xs ys : List A) → Distinct (xs ++ ys) → Distinct xs
distinct_l [] ys h = tt
distinct_l (x ∷ xs) ys h = (all_app_l (λ y. x ≢ y) xs ys h.0, distinct_l xs ys h.1)

distinct_r : {A : Type 0} (xs ys : List A) → Distinct (xs ++ ys) → Distinct ys
distinct_r [] ys h = h
distinct_r (x ∷ xs) ys h = distinct_r xs ys h.1

-- rules of the form, by numbers that keep the atoms apart

-- no atom twice in a list, no `not` atom
pub record Formed {A : Type 0} (Q : A → Type 0) (r : Rule A) : Type 0 where
  pub head : All Q r.head
  pub head_distinct : Distinct r.head
  pub body : All Q r.body
  pub body_distinct : Distinct r.body
  pub nots : r.nots ≡ []

module _ {A : Type 0} (Q : A → Type 0) (n : ℕ) (f : A → ℕ) (bound : (c : A) → Q c → f c < n) (apart : (c d : A) → Q c → Q d → f c ≡ f d → c ≡ d) where
  list_numbered : (xs : List A) → All Q xs → Distinct xs → ListForm n (map f xs)
  list_numbered xs h d = (all_map (λ i. i < n) f xs (all_imp Q (λ c. f c < n) bound xs h), distinct_map f Q apart xs h d)

  rule_numbered : (r : Rule A) → Formed Q r → RuleForm Preference n (rename f r)
  rule_numbered r h =
      let e : map f r.nots ≡ [] = ap (map f) h.nots in
      record {
        head_form = list_numbered r.head h.head h.head_distinct;
        body_form = list_numbered r.body h.body h.body_distinct;
        nots_form = subst (ListForm n) (sym e) (tt, tt);
        no_nots = e;
      }

  pub rules_numbered : (rs : List (Rule A)) → All (Formed Q) rs → All (RuleForm Preference n) (map (rename f) rs)
  rules_numbered rs h = all_map (RuleForm Preference n) (rename f) rs (all_imp (Formed Q) (λ r. RuleForm Preference n (rename f r)) rule_numbered rs h)

-- the rules of conditions

-- one of k T atoms
abbrev pub IsMade : ℕ → ℕ → Type 0
IsMade k t = (1 ≤ t) × (t ≤ k)

-- n planner's atoms and k T atoms
module _ (n k : ℕ) where
  part_declared : (c : Cond) → All (λ a. a < n) (names_of c) → All (IsMade k) (connectives c) → Declared n k (part c)
  unfolding names_of connectives
  part_declared (name a) h m = h.0
  part_declared (NOT t c) h m = m.0
  part_declared (AND l t r) h m = (all_app_r (IsMade k) (connectives l) (t ∷ connectives r) m).0
  part_declared (OR l t r) h m = (all_app_r (IsMade k) (connectives l) (t ∷ connectives r) m).0

  -- a T is no part of a condition without it
  part_apart : (t : ℕ) (c : Cond) → All (λ u. t ≢ u) (connectives c) → made t ≢ part c
  unfolding connectives
  part_apart t (name a) h e = let z : ◌≡◌ {A = ℕ} 0 1 = cc in omega arith
  part_apart t (NOT u c) h e = h.0 (cc)
  part_apart t (AND l u r) h e = (all_app_r (λ u. t ≢ u) (connectives l) (u ∷ connectives r) h).0 (cc)
  part_apart t (OR l u r) h e = (all_app_r (λ u. t ≢ u) (connectives l) (u ∷ connectives r) h).0 (cc)

  one_if : (h b : Atom) → Declared n k h → Declared n k b → Formed (Declared n k) (rule (h ∷ []) (b ∷ []) [])
  one_if h b dh db = record { head = (dh, tt); head_distinct = (tt, tt); body = (db, tt); body_distinct = (tt, tt); nots = refl }

  and_formed : (t l r : Atom) → Declared n k t → Declared n k l → Declared n k r → All (Formed (Declared n k)) (and_rules t l r)
  and_formed t l r dt dl dr = (
    record { head = (dt, tt); head_distinct = (tt, tt); body = (once_all (Declared n k) l r).1 (dl, dr); body_distinct = once_distinct l r; nots = refl },
    (one_if l t dl dt, (one_if r t dr dt, tt)),
  )

  or_formed : (t l r : Atom) → Declared n k t → Declared n k l → Declared n k r → All (Formed (Declared n k)) (or_rules t l r)
  or_formed t l r dt dl dr = (
    record { head = (once_all (Declared n k) l r).1 (dl, dr); head_distinct = once_distinct l r; body = (dt, tt); body_distinct = (tt, tt); nots = refl },
    (one_if t l dt dl, (one_if t r dt dr, tt)),
  )

  not_formed : (t c : Atom) → Declared n k t → Declared n k c → t ≢ c → All (Formed (Declared n k)) (not_rules t c)
  not_formed t c dt dc e = (
    record { head = (dt, (dc, tt)); head_distinct = ((e, tt), (tt, tt)); body = tt; body_distinct = tt; nots = refl },
    (record { head = tt; head_distinct = tt; body = (dt, (dc, tt)); body_distinct = ((e, tt), (tt, tt)); nots = refl }, tt),
  )

  joined : (l r : Cond) (rs : List (Rule Atom)) → All (Formed (Declared n k)) rs → All (Formed (Declared n k)) (connective_rules l) → All (Formed (Declared n k)) (connective_rules r) → All (Formed (Declared n k)) (connective_rules l ++ (rs ++ connective_rules r))
  joined l r rs h hl hr = all_app (Formed (Declared n k)) (connective_rules l) (rs ++ connective_rules r) hl (all_app (Formed (Declared n k)) rs (connective_rules r) h hr)

  pub connectives_formed : (c : Cond) → All (λ a. a < n) (names_of c) → All (IsMade k) (connectives c) → Distinct (connectives c) → All (Formed (Declared n k)) (connective_rules c)
  unfolding names_of connectives connective_rules
  connectives_formed (name a) h m d = tt
  connectives_formed (NOT t c) h m d = all_app (Formed (Declared n k)) (not_rules (made t) (part c)) (connective_rules c)
      (not_formed (made t) (part c) m.0 (part_declared c h m.1) (part_apart t c d.0)) (connectives_formed c h m.1 d.1)
  connectives_formed (AND l t r) h m d =
      let hl = all_app_l (λ a. a < n) (names_of l) (names_of r) h in
      let hr = all_app_r (λ a. a < n) (names_of l) (names_of r) h in
      let ml = all_app_l (IsMade k) (connectives l) (t ∷ connectives r) m in
      let mr = all_app_r (IsMade k) (connectives l) (t ∷ connectives r) m in
      joined l r (and_rules (made t) (part l) (part r)) (and_formed (made t) (part l) (part r) mr.0 (part_declared l hl ml) (part_declared r hr mr.1))
      (connectives_formed l hl ml (distinct_l (connectives l) (t ∷ connectives r) d)) (connectives_formed r hr mr.1 (distinct_r (connectives l) (t ∷ connectives r) d).1)
  connectives_formed (OR l t r) h m d =
      let hl = all_app_l (λ a. a < n) (names_of l) (names_of r) h in
      let hr = all_app_r (λ a. a < n) (names_of l) (names_of r) h in
      let ml = all_app_l (IsMade k) (connectives l) (t ∷ connectives r) m in
      let mr = all_app_r (IsMade k) (connectives l) (t ∷ connectives r) m in
      joined l r (or_rules (made t) (part l) (part r)) (or_formed (made t) (part l) (part r) mr.0 (part_declared l hl ml) (part_declared r hr mr.1))
      (connectives_formed l hl ml (distinct_l (connectives l) (t ∷ connectives r) d)) (connectives_formed r hr mr.1 (distinct_r (connectives l) (t ∷ connectives r) d).1)

  planner_list : (xs : List ℕ) → All (λ a. a < n) xs → Distinct xs → All (Declared n k) (map planner xs) × Distinct (map planner xs)
  planner_list xs h d = (all_map (Declared n k) planner xs h, distinct_map planner (λ a. a < n) (λ a b p q e. cc) xs h d)

  pub statement_formed : (l : Statement) → StatementForm n l → All (IsMade k) (statement_connectives l) → Distinct (statement_connectives l) → All (Formed (Declared n k)) (statement_rules l)
  statement_formed (states r) f m d =
      let h = planner_list r.head f.head_form.0 f.head_form.1 in
      let b = planner_list r.body f.body_form.0 f.body_form.1 in
      (record { head = h.0; head_distinct = h.1; body = b.0; body_distinct = b.1; nots = ap (map planner) f.no_nots }, tt)
  statement_formed (when c a) f m d =
      let h = all_app_l (λ b. b < n) (names_of c) (a ∷ []) f in
      let g = all_app_r (λ b. b < n) (names_of c) (a ∷ []) f in
      all_app (Formed (Declared n k)) (connective_rules c) (then_rule c a ∷ []) (connectives_formed c h m d) (one_if (planner a) (part c) g.0 (part_declared c h m), tt)

  pub statements_formed : (ls : List Statement) → All (StatementForm n) ls → All (IsMade k) (made_atoms ls) → Distinct (made_atoms ls) → All (Formed (Declared n k)) (written ls)
  statements_formed [] f m d = tt
  statements_formed (l ∷ ls) f m d = all_app (Formed (Declared n k)) (statement_rules l) (written ls)
      (statement_formed l f.0 (all_app_l (IsMade k) (statement_connectives l) (made_atoms ls) m) (distinct_l (statement_connectives l) (made_atoms ls) d))
      (statements_formed ls f.1 (all_app_r (IsMade k) (statement_connectives l) (made_atoms ls) m) (distinct_r (statement_connectives l) (made_atoms ls) d))

  -- q planner's atoms before the T atoms
  module _ (q : ℕ) (fits : q ≤ n) where
    bound : (c : Atom) → Declared n k c → place q k c < n + k
    bound (planner a) h = place_lt q k n a h
    bound (made t) h = omega (arith, h.0, h.1)

    back : (c : Atom) → Declared n k c → unplace q k (place q k c) ≡ c
    back (planner a) h = unplace_planner q k a
    back (made t) h = unplace_made q k t h.0 (omega (arith, h.1))

    pub apart : (c d : Atom) → Declared n k c → Declared n k d → place q k c ≡ place q k d → c ≡ d
    apart c d hc hd e = sym (back c hc) ∙ (ap (unplace q k) e ∙ back d hd)

    pub rules_placed : (rs : List (Rule Atom)) → All (Formed (Declared n k)) rs → All (RuleForm Preference (n + k)) (map (rename (place q k)) rs)
    rules_placed = rules_numbered (Declared n k) (n + k) (place q k) bound apart
