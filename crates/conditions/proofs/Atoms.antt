-- The atoms of the written rules: the planner's that the statements name, and the T atoms of their connectives.
use Prim.Native.Nat.{ℕ}
use mathlib.Core.List.{List, [], ◌∷◌, ◌++◌, map}
use mathlib.Core.Logic.{◌↔◌}
use Rattle.rules.specs.Lists.{All, flat}
use Rattle.rules.specs.Rules.{Rule, rename}
use Rattle.rules.specs.Renumbering.{Within}
use Rattle.rules.proofs.Lists.{all_imp, all_app, all_app_l, all_app_r, all_map, map_all}
use Rattle.restriction.proofs.Places.{within_atoms}
use Rattle.conditions.specs.Conditions.{Atom, planner, made, Cond, name, NOT, AND, OR, Statement, states, when, names_of, connectives, statement_names, statement_connectives, made_atoms}
use Rattle.conditions.specs.Written.{part, and_rules, or_rules, not_rules, connective_rules, then_rule, statement_rules, written}
use Rattle.conditions.proofs.Connectives.{once_all}

-- rules by other atoms
pub within_renamed : {A B : Type 0} (Q : B → Type 0) (f : A → B) (rs : List (Rule A)) → All (Within Q) (map (rename f) rs) ↔ All (Within (λ c. Q (f c))) rs
within_renamed Q f rs = (
  λ h. all_imp (λ r. Within Q (rename f r)) (Within (λ c. Q (f c))) (λ r w. record { head = map_all Q f r.head w.head; body = map_all Q f r.body w.body; nots = map_all Q f r.nots w.nots }) rs (map_all (Within Q) (rename f) rs h),
  λ h. all_map (Within Q) (rename f) rs (all_imp (Within (λ c. Q (f c))) (λ r. Within Q (rename f r)) (λ r w. record { head = all_map Q f r.head w.head; body = all_map Q f r.body w.body; nots = all_map Q f r.nots w.nots }) rs h),
)

module _ (P : Atom → Type 0) where
  abbrev Names : List ℕ → Type 0
  Names = All (λ a. P (planner a))

  abbrev Mades : List ℕ → Type 0
  Mades = All (λ t. P (made t))

  -- one connective

  and_within : (t l r : Atom) → All (Within P) (and_rules t l r) ↔ (P t × P l × P r)
  and_within t l r = (
    λ h. (h.0.head.0, h.1.0.head.0, h.1.1.0.head.0),
    λ h. (
      record { head = (h.0, tt); body = (once_all P l r).1 (h.1, h.2); nots = tt },
      (record { head = (h.1, tt); body = (h.0, tt); nots = tt }, (record { head = (h.2, tt); body = (h.0, tt); nots = tt }, tt)),
    ),
  )

  or_within : (t l r : Atom) → All (Within P) (or_rules t l r) ↔ (P t × P l × P r)
  or_within t l r = (
    λ h. (h.0.body.0, h.1.0.body.0, h.1.1.0.body.0),
    λ h. (
      record { head = (once_all P l r).1 (h.1, h.2); body = (h.0, tt); nots = tt },
      (record { head = (h.0, tt); body = (h.1, tt); nots = tt }, (record { head = (h.0, tt); body = (h.2, tt); nots = tt }, tt)),
    ),
  )

  not_within : (t c : Atom) → All (Within P) (not_rules t c) ↔ (P t × P c)
  not_within t c = (
    λ h. (h.0.head.0, h.0.head.1.0),
    λ h. (record { head = (h.0, (h.1, tt)); body = tt; nots = tt }, (record { head = tt; body = (h.0, (h.1, tt)); nots = tt }, tt)),
  )

  -- a condition

  part_within : (c : Cond) → Names (names_of c) → Mades (connectives c) → P (part c)
  unfolding names_of connectives
  part_within (name a) h m = h.0
  part_within (NOT t c) h m = m.0
  part_within (AND l t r) h m = (all_app_r (λ t. P (made t)) (connectives l) (t ∷ connectives r) m).0
  part_within (OR l t r) h m = (all_app_r (λ t. P (made t)) (connectives l) (t ∷ connectives r) m).0

  abbrev Both : Cond → Type 0
  Both c = (All (Within P) (connective_rules c) × P (part c)) ↔ (Names (names_of c) × Mades (connectives c))

  joined : (l r : Cond) (t : ℕ) (rs : List (Rule Atom)) → All (Within P) rs ↔ (P (made t) × P (part l) × P (part r)) → Both l → Both r
      → (All (Within P) (connective_rules l ++ (rs ++ connective_rules r)) × P (made t)) ↔ (Names (names_of l ++ names_of r) × Mades (connectives l ++ (t ∷ connectives r)))
  joined l r t rs own left right = (
    λ h.
        let rest = all_app_r (Within P) (connective_rules l) (rs ++ connective_rules r) h.0 in
        let q = own.0 (all_app_l (Within P) rs (connective_rules r) rest) in
        let x = left.0 (all_app_l (Within P) (connective_rules l) (rs ++ connective_rules r) h.0, q.1) in
        let y = right.0 (all_app_r (Within P) rs (connective_rules r) rest, q.2) in
        (all_app (λ a. P (planner a)) (names_of l) (names_of r) x.0 y.0, all_app (λ t. P (made t)) (connectives l) (t ∷ connectives r) x.1 (q.0, y.1)),
    λ h.
        let m = all_app_r (λ t. P (made t)) (connectives l) (t ∷ connectives r) h.1 in
        let x = left.1 (all_app_l (λ a. P (planner a)) (names_of l) (names_of r) h.0, all_app_l (λ t. P (made t)) (connectives l) (t ∷ connectives r) h.1) in
        let y = right.1 (all_app_r (λ a. P (planner a)) (names_of l) (names_of r) h.0, m.1) in
        (all_app (Within P) (connective_rules l) (rs ++ connective_rules r) x.0 (all_app (Within P) rs (connective_rules r) (own.1 (m.0, x.1, y.1)) y.0), m.0),
  )

  connectives_within : (c : Cond) → Both c
  unfolding names_of connectives connective_rules
  connectives_within (name a) = (λ h. ((h.1, tt), tt), λ h. (tt, h.0.0))
  connectives_within (NOT t c) =
      let q = connectives_within c in (
        λ h.
            let w = (not_within (made t) (part c)).0 (h.0.0, (h.0.1.0, tt)) in
            let x = q.0 (h.0.1.1, w.1) in
            (x.0, (w.0, x.1)),
        λ h.
            let x = q.1 (h.0, h.1.1) in
            let w = (not_within (made t) (part c)).1 (h.1.0, x.1) in
            ((w.0, (w.1.0, x.0)), h.1.0),
      )
  connectives_within (AND l t r) = joined l r t (and_rules (made t) (part l) (part r)) (and_within (made t) (part l) (part r)) (connectives_within l) (connectives_within r)
  connectives_within (OR l t r) = joined l r t (or_rules (made t) (part l) (part r)) (or_within (made t) (part l) (part r)) (connectives_within l) (connectives_within r)

  -- a file

  statement_within : (l : Statement) → All (Within P) (statement_rules l) ↔ (Names (statement_names l) × Mades (statement_connectives l))
  statement_within (states r) =
      let q = within_renamed P planner (r ∷ []) in
      let w = within_atoms (λ a. P (planner a)) r in
      (λ h. (w.0 (q.0 h).0, tt), λ h. q.1 (w.1 h.0, tt))
  statement_within (when c a) =
      let q = connectives_within c in (
        λ h.
            let last = (all_app_r (Within P) (connective_rules c) (then_rule c a ∷ []) h).0 in
            let x = q.0 (all_app_l (Within P) (connective_rules c) (then_rule c a ∷ []) h, last.body.0) in
            (all_app (λ a. P (planner a)) (names_of c) (a ∷ []) x.0 (last.head.0, tt), x.1),
        λ h.
            let x = q.1 (all_app_l (λ a. P (planner a)) (names_of c) (a ∷ []) h.0, h.1) in
            let y = all_app_r (λ a. P (planner a)) (names_of c) (a ∷ []) h.0 in
            all_app (Within P) (connective_rules c) (then_rule c a ∷ []) x.0 (record { head = y; body = (x.1, tt); nots = tt }, tt),
      )

  -- P holds of every atom of the written rules exactly when it holds of the atoms that the statements name and of the T atoms
  pub written_within : (ls : List Statement) → All (Within P) (written ls) ↔ (Names (flat statement_names ls) × Mades (made_atoms ls))
  written_within [] = (λ h. (tt, tt), λ h. tt)
  written_within (l ∷ ls) = let q = written_within ls in let w = statement_within l in (
    λ h.
        let x = w.0 (all_app_l (Within P) (statement_rules l) (written ls) h) in
        let y = q.0 (all_app_r (Within P) (statement_rules l) (written ls) h) in
        (all_app (λ a. P (planner a)) (statement_names l) (flat statement_names ls) x.0 y.0, all_app (λ t. P (made t)) (statement_connectives l) (made_atoms ls) x.1 y.1),
    λ h. all_app (Within P) (statement_rules l) (written ls)
        (w.1 (all_app_l (λ a. P (planner a)) (statement_names l) (flat statement_names ls) h.0, all_app_l (λ t. P (made t)) (statement_connectives l) (made_atoms ls) h.1))
        (q.1 (all_app_r (λ a. P (planner a)) (statement_names l) (flat statement_names ls) h.0, all_app_r (λ t. P (made t)) (statement_connectives l) (made_atoms ls) h.1)),
  )
