-- Statements with other atoms: what is written for them is what was written, with the other atoms.
use Prim.Native.Nat.{ℕ}
use mathlib.Core.Path.{◌≡◌, refl, sym, ap, ap₂, ◌∙◌}
use mathlib.Core.List.{List, [], ◌∷◌, ◌++◌, map, map-map, map-append}
use mathlib.Core.Bool.{Bool, not}
use lib.Dec.{eqb, eqb→eq}
use Rattle.rules.specs.Lists.{All, keep, flat}
use Rattle.rules.specs.Rules.{Rule, rule, rename}
use Rattle.rules.proofs.Booleans.{eq_to_eqb, bool_ext}
use Rattle.rules.proofs.Lists.{all_app_l, all_app_r}
use Rattle.rules.proofs.ListLaws.{flat_map, map_flat, flat_same, all_each}
use Rattle.rules.proofs.MappedLists.{map_keep}
use Rattle.restriction.proofs.Places.{atoms_renamed}
use Rattle.conditions.specs.Conditions.{Atom, planner, made, Cond, name, NOT, AND, OR, Statement, states, when, names_of, connectives, statement_names, statement_connectives, made_atoms}
use Rattle.conditions.specs.Written.{is_same, once, part, and_rules, or_rules, not_rules, connective_rules, then_rule, statement_rules, written}
use Rattle.conditions.specs.Left.{rename_cond, rename_statement}

module _ (f : ℕ → ℕ) where
  -- T atoms stay
  abbrev pub rename_atom : Atom → Atom
  rename_atom (planner a) = planner (f a)
  rename_atom (made t) = made t

  -- names and connectives

  names_renamed : (c : Cond) → names_of (rename_cond f c) ≡ map f (names_of c)
  unfolding names_of rename_cond
  names_renamed (name a) = refl
  names_renamed (NOT t c) = names_renamed c
  names_renamed (AND l t r) = ap₂ (λ (x y : List ℕ). x ++ y) (names_renamed l) (names_renamed r) ∙ sym (map-append f (names_of l) (names_of r))
  names_renamed (OR l t r) = ap₂ (λ (x y : List ℕ). x ++ y) (names_renamed l) (names_renamed r) ∙ sym (map-append f (names_of l) (names_of r))

  statement_names_lem : (l : Statement) → statement_names (rename_statement f l) ≡ map f (statement_names l)
  statement_names_lem (states r) = sym (atoms_renamed f r)
  statement_names_lem (when c a) = ap (λ (x : List ℕ). x ++ (f a ∷ [])) (names_renamed c) ∙ sym (map-append f (names_of c) (a ∷ []))

  pub all_names_renamed : (ls : List Statement) → flat statement_names (map (rename_statement f) ls) ≡ map f (flat statement_names ls)
  all_names_renamed ls = flat_map statement_names (rename_statement f) ls ∙ (flat_same _ (λ l. map f (statement_names l)) ls (all_each _ statement_names_lem ls) ∙ sym (map_flat f statement_names ls))

  connectives_renamed : (c : Cond) → connectives (rename_cond f c) ≡ connectives c
  unfolding connectives rename_cond
  connectives_renamed (name a) = refl
  connectives_renamed (NOT t c) = ap (λ (x : List ℕ). t ∷ x) (connectives_renamed c)
  connectives_renamed (AND l t r) = ap₂ (λ (x y : List ℕ). x ++ (t ∷ y)) (connectives_renamed l) (connectives_renamed r)
  connectives_renamed (OR l t r) = ap₂ (λ (x y : List ℕ). x ++ (t ∷ y)) (connectives_renamed l) (connectives_renamed r)

  pub made_renamed : (ls : List Statement) → made_atoms (map (rename_statement f) ls) ≡ made_atoms ls
  made_renamed ls = flat_map statement_connectives (rename_statement f) ls ∙ flat_same _ statement_connectives ls (all_each _ one ls)
    where
      one : (l : Statement) → statement_connectives (rename_statement f l) ≡ statement_connectives l
      one (states r) = refl
      one (when c a) = connectives_renamed c

  part_renamed : (c : Cond) → part (rename_cond f c) ≡ rename_atom (part c)
  unfolding rename_cond
  part_renamed (name a) = refl
  part_renamed (NOT t c) = refl
  part_renamed (AND l t r) = refl
  part_renamed (OR l t r) = refl

  -- rules, where f keeps the atoms apart

  module _ (P : ℕ → Type 0) (apart : (a b : ℕ) → P a → P b → f a ≡ f b → a ≡ b) where
    abbrev Known : Atom → Type 0
    Known (planner a) = P a
    Known (made t) = Unit {0}

    part_known : (c : Cond) → All P (names_of c) → Known (part c)
    unfolding names_of
    part_known (name a) h = h.0
    part_known (NOT t c) h = tt
    part_known (AND l t r) h = tt
    part_known (OR l t r) h = tt

    same_renamed : (l r : Atom) → Known l → Known r → is_same (rename_atom l) (rename_atom r) ≡ is_same l r
    same_renamed (planner a) (planner b) h k = bool_ext (eqb (f a) (f b)) (eqb a b) (λ t. eq_to_eqb a b (apart a b h k (eqb→eq (f a) (f b) t))) (λ t. eq_to_eqb (f a) (f b) (ap f (eqb→eq a b t)))
    same_renamed (planner a) (made b) h k = refl
    same_renamed (made a) (planner b) h k = refl
    same_renamed (made a) (made b) h k = refl

    once_renamed : (l r : Atom) → Known l → Known r → once (rename_atom l) (rename_atom r) ≡ map rename_atom (once l r)
    unfolding once
    once_renamed l r h k =
        ap (λ (b : Bool). rename_atom l ∷ keep (not b) (rename_atom r) []) (same_renamed l r h k)
        ∙ ap (λ (x : List Atom). rename_atom l ∷ x) (sym (map_keep rename_atom (not (is_same l r)) r []))

    abbrev moved : List (Rule Atom) → List (Rule Atom)
    moved rs = map (rename rename_atom) rs

    and_renamed : (t : ℕ) (l r : Atom) → Known l → Known r → and_rules (made t) (rename_atom l) (rename_atom r) ≡ moved (and_rules (made t) l r)
    and_renamed t l r h k = λ i. rule (made t ∷ []) (once_renamed l r h k i) [] ∷ rule (rename_atom l ∷ []) (made t ∷ []) [] ∷ rule (rename_atom r ∷ []) (made t ∷ []) [] ∷ []

    or_renamed : (t : ℕ) (l r : Atom) → Known l → Known r → or_rules (made t) (rename_atom l) (rename_atom r) ≡ moved (or_rules (made t) l r)
    or_renamed t l r h k = λ i. rule (once_renamed l r h k i) (made t ∷ []) [] ∷ rule (made t ∷ []) (rename_atom l ∷ []) [] ∷ rule (made t ∷ []) (rename_atom r ∷ []) [] ∷ []

    joined : (l r l' r' rs rs' : List (Rule Atom)) → l' ≡ moved l → rs' ≡ moved rs → r' ≡ moved r → l' ++ (rs' ++ r') ≡ moved (l ++ (rs ++ r))
    joined l r l' r' rs rs' el es er =
        ap₂ (λ (x y : List (Rule Atom)). x ++ y) el (ap₂ (λ (x y : List (Rule Atom)). x ++ y) es er ∙ sym (map-append (rename rename_atom) rs r))
        ∙ sym (map-append (rename rename_atom) l (rs ++ r))

    rules_renamed : (c : Cond) → All P (names_of c) → connective_rules (rename_cond f c) ≡ moved (connective_rules c)
    unfolding names_of connective_rules rename_cond
    rules_renamed (name a) h = refl
    rules_renamed (NOT t c) h = ap₂ (λ (p : Atom) (x : List (Rule Atom)). not_rules (made t) p ++ x) (part_renamed c) (rules_renamed c h)
    rules_renamed (AND l t r) h =
        let hl = all_app_l P (names_of l) (names_of r) h in
        let hr = all_app_r P (names_of l) (names_of r) h in
        joined (connective_rules l) (connective_rules r) (connective_rules (rename_cond f l)) (connective_rules (rename_cond f r)) (and_rules (made t) (part l) (part r)) (and_rules (made t) (part (rename_cond f l)) (part (rename_cond f r))) (rules_renamed l hl)
        (ap₂ (and_rules (made t)) (part_renamed l) (part_renamed r) ∙ and_renamed t (part l) (part r) (part_known l hl) (part_known r hr)) (rules_renamed r hr)
    rules_renamed (OR l t r) h =
        let hl = all_app_l P (names_of l) (names_of r) h in
        let hr = all_app_r P (names_of l) (names_of r) h in
        joined (connective_rules l) (connective_rules r) (connective_rules (rename_cond f l)) (connective_rules (rename_cond f r)) (or_rules (made t) (part l) (part r)) (or_rules (made t) (part (rename_cond f l)) (part (rename_cond f r))) (rules_renamed l hl)
        (ap₂ (or_rules (made t)) (part_renamed l) (part_renamed r) ∙ or_renamed t (part l) (part r) (part_known l hl) (part_known r hr)) (rules_renamed r hr)

    twice : (xs : List ℕ) → map planner (map f xs) ≡ map rename_atom (map planner xs)
    twice xs = map-map planner f xs ∙ sym (map-map rename_atom planner xs)

    statement_renamed : (l : Statement) → All P (statement_names l) → statement_rules (rename_statement f l) ≡ moved (statement_rules l)
    statement_renamed (states r) h = λ i. rule (twice r.head i) (twice r.body i) (twice r.nots i) ∷ []
    statement_renamed (when c a) h =
        ap₂ (λ (x : List (Rule Atom)) (p : Atom). x ++ (rule (planner (f a) ∷ []) (p ∷ []) [] ∷ [])) (rules_renamed c (all_app_l P (names_of c) (a ∷ []) h)) (part_renamed c)
        ∙ sym (map-append (rename rename_atom) (connective_rules c) (then_rule c a ∷ []))

    pub written_renamed : (ls : List Statement) → All P (flat statement_names ls) → written (map (rename_statement f) ls) ≡ map (rename rename_atom) (written ls)
    written_renamed [] h = refl
    written_renamed (l ∷ ls) h =
        ap₂ (λ (x y : List (Rule Atom)). x ++ y) (statement_renamed l (all_app_l P (statement_names l) (flat statement_names ls) h)) (written_renamed ls (all_app_r P (statement_names l) (flat statement_names ls) h))
        ∙ sym (map-append (rename rename_atom) (statement_rules l) (written ls))
