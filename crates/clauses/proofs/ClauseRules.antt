-- The rules gathered from a file's tokens are its clauses, rule by rule; what a test of atoms says of a rule it says of the clause.
use Prim.Native.Nat.{ℕ}
use mathlib.Core.Path.{◌≡◌, refl, sym, ap, fun_ext, ◌∙◌}
use mathlib.Core.Logic.Iff
use mathlib.Core.Logic.{◌↔◌}
use mathlib.Core.List.{List, [], ◌∷◌, ◌++◌, map, append-nil, append_assoc}
use mathlib.Core.Bool.{Bool, true, false, cond, not, ◌||◌, or_comm}
use lib.Dec.{T, eqb}
use Rattle.rules.specs.Lists.{Any, every, some, from}
use Rattle.rules.specs.Rules.{Rule, rule, Model, is_holding, is_model}
use Rattle.rules.proofs.Booleans.{T_of, T-not-in, T-not-out, or-true, or-false}
use Rattle.rules.proofs.Lists.{all_imp, every_all, some_any, some_app, some_each}
use Rattle.rules.proofs.ListLaws.{all_each}
use Rattle.rules.proofs.MappedLists.{every_map, some_map}
use Rattle.rules.proofs.Filtered.{filter_same}
use Rattle.rules.proofs.Rules.{model_law}
use Rattle.restriction.specs.Atoms.{is_member, atoms_of, is_used, used}
use Rattle.restriction.proofs.Places.{member_all}
use Rattle.clauses.specs.Literals.{Literal, positive, negative, atom_of, True, Satisfies}
use Rattle.clauses.specs.Tokens.{Token, literal, ends, wrong, clauses_from}
use Rattle.clauses.specs.Gathered.{Gathered, nothing, once, with_literal, with_tokens}
use Rattle.clauses.specs.Satisfying.{is_standing, standing}
use Rattle.clauses.proofs.Tests.{not_all}

-- the atoms of a clause's positive literals, each once, behind others
abbrev heads_from : List ℕ → List Literal → List ℕ
heads_from xs [] = xs
heads_from xs (positive a ∷ c) = heads_from (once xs a) c
heads_from xs (negative a ∷ c) = heads_from xs c

-- and those of its negative ones
abbrev bodies_from : List ℕ → List Literal → List ℕ
bodies_from xs [] = xs
bodies_from xs (positive a ∷ c) = bodies_from xs c
bodies_from xs (negative a ∷ c) = bodies_from (once xs a) c

abbrev pub clause_rule : List Literal → Rule ℕ
clause_rule c = rule (heads_from [] c) (bodies_from [] c) []

-- gathering

-- with a clause that has begun
abbrev opened : List (Rule ℕ) → List Literal → Gathered
opened rs c = record { rules = rs; heads = heads_from [] c; bodies = bodies_from [] c }

abbrev between : List (Rule ℕ) → List ℕ → List ℕ → Gathered
between rs xs ys = record { rules = rs; heads = xs; bodies = ys }

last_literal : (rs : List (Rule ℕ)) (xs ys : List ℕ) (c : List Literal) (l : Literal) → with_literal (between rs (heads_from xs c) (bodies_from ys c)) l ≡ between rs (heads_from xs (c ++ (l ∷ []))) (bodies_from ys (c ++ (l ∷ [])))
last_literal rs xs ys [] (positive a) = refl
last_literal rs xs ys [] (negative a) = refl
last_literal rs xs ys (positive b ∷ c) l = last_literal rs (once xs b) ys c l
last_literal rs xs ys (negative b ∷ c) l = last_literal rs xs (once ys b) c l

gathered_from : (ts : List Token) (rs : List (Rule ℕ)) (c : List Literal) → (with_tokens (opened rs c) ts).rules ≡ rs ++ map clause_rule (clauses_from c ts)
unfolding clauses_from
gathered_from [] rs c = sym (append-nil rs)
gathered_from (literal l ∷ ts) rs c = ap (λ (g : Gathered). (with_tokens g ts).rules) (last_literal rs [] [] c l) ∙ gathered_from ts rs (c ++ (l ∷ []))
gathered_from (ends ∷ ts) rs c = gathered_from ts (rs ++ (clause_rule c ∷ [])) [] ∙ append_assoc rs (clause_rule c ∷ []) (map clause_rule (clauses_from [] ts))
gathered_from (wrong ∷ ts) rs c = gathered_from ts rs c

pub gathered_rules : (ts : List Token) → (with_tokens nothing ts).rules ≡ map clause_rule (clauses_from [] ts)
gathered_rules ts = gathered_from ts [] []

-- tests

-- an atom that the list has already adds nothing
some_once : (p : ℕ → Bool) (xs : List ℕ) (a : ℕ) → some p (once xs a) ≡ (some p xs || p a)
some_once p xs a = go (is_member xs a) refl
  where
    there : T (is_member xs a) → T (p a) → T (some p xs)
    there = member_all (λ x. T (p x) → T (some p xs)) xs a (all_imp (λ x. (u : Unit {0}) → T (p x) → T (some p xs)) _ (λ x h. h tt) xs (some_each (λ u. p) xs))

    already : (b c : Bool) → (T c → T b) → b ≡ (b || c)
    already true c h = refl
    already false true h = absurd (h tt)
    already false false h = refl

    go : (b : Bool) → is_member xs a ≡ b → some p (cond b xs (xs ++ (a ∷ []))) ≡ (some p xs || p a)
    go true e = already (some p xs) (p a) (there (T_of (sym e) tt))
    go false e = some_app p xs (a ∷ []) ∙ ap (λ (b : Bool). some p xs || b) (or-false (p a))

module _ (p q : ℕ → Bool) where
  abbrev by_sign : Literal → Bool
  by_sign (positive a) = p a
  by_sign (negative a) = q a

  sides_from : (xs ys : List ℕ) (c : List Literal) → (some p (heads_from xs c) || some q (bodies_from ys c)) ≡ ((some p xs || some q ys) || some by_sign c)
  sides_from xs ys [] = sym (or-false (some p xs || some q ys))
  sides_from xs ys (positive a ∷ c) = sides_from (once xs a) ys c ∙ ap (λ (b : Bool). (b || some q ys) || some by_sign c) (some_once p xs a) ∙ moved (some p xs) (p a) (some q ys) (some by_sign c)
    where
      moved : (x a y r : Bool) → (((x || a) || y) || r) ≡ ((x || y) || (a || r))
      moved true a y r = refl
      moved false true y r = sym (or-true y)
      moved false false y r = refl
  sides_from xs ys (negative a ∷ c) = sides_from xs (once ys a) c ∙ ap (λ (b : Bool). (some p xs || b) || some by_sign c) (some_once q ys a) ∙ moved (some p xs) (some q ys) (q a) (some by_sign c)
    where
      moved : (x y a r : Bool) → ((x || (y || a)) || r) ≡ ((x || y) || (a || r))
      moved true y a r = refl
      moved false true a r = refl
      moved false false a r = refl

  sides : (c : List Literal) → (some p (heads_from [] c) || some q (bodies_from [] c)) ≡ some by_sign c
  sides = sides_from [] []

-- the sets that satisfy clauses are the models of their rules

module _ (m : ℕ → Bool) where
  abbrev is_true : Literal → Bool
  is_true = by_sign m (λ a. not (m a))

  true_law : (l : Literal) → T (is_true l) ↔ True m l
  true_law (positive a) = Iff.rfl
  true_law (negative a) = (T-not-out (m a), T-not-in (m a))

  holds_clause : (c : List Literal) → is_holding m (clause_rule c) ≡ some is_true c
  holds_clause c =
      ap (λ (b : Bool). b || some m (heads_from [] c)) (not_all m (bodies_from [] c))
      ∙ or_comm (some (λ a. not (m a)) (bodies_from [] c)) (some m (heads_from [] c))
      ∙ sides m (λ a. not (m a)) c

  pub satisfies_iff : (cs : List (List Literal)) → Satisfies m cs ↔ Model (map clause_rule cs) m
  satisfies_iff cs =
      let law = every_all (some is_true) (Any (True m)) (some_any is_true (True m) true_law) cs in
      let test : is_model (map clause_rule cs) m ≡ every (some is_true) cs = every_map clause_rule (is_holding m) (some is_true) cs (all_each _ holds_clause cs) in
      let model = model_law (map clause_rule cs) m in
      (λ h. model.0 (T_of (sym test) (law.1 h)), λ h. law.0 (T_of test (model.1 h)))

-- the atoms that stand in some rule are those that stand in some clause

used_clauses : (cs : List (List Literal)) (a : ℕ) → is_used (map clause_rule cs) a ≡ is_standing cs a
used_clauses cs a = some_map clause_rule (λ r. is_member (atoms_of r) a) (some (λ l. eqb a (atom_of l))) cs (all_each _ each cs)
  where
    either : (l : Literal) → by_sign (eqb a) (eqb a) l ≡ eqb a (atom_of l)
    either (positive b) = refl
    either (negative b) = refl

    each : (c : List Literal) → is_member (atoms_of (clause_rule c)) a ≡ some (λ l. eqb a (atom_of l)) c
    each c =
        let hs = heads_from [] c in
        let bs = bodies_from [] c in
        some_app (eqb a) hs (bs ++ [])
        ∙ ap (λ (l : List ℕ). some (eqb a) hs || some (eqb a) l) (append-nil bs)
        ∙ sides (eqb a) (eqb a) c
        ∙ ap (λ (p : Literal → Bool). some p c) (fun_ext either)

pub used_standing : (n : ℕ) (cs : List (List Literal)) → used n (map clause_rule cs) ≡ standing n cs
unfolding used standing
used_standing n cs = filter_same (is_used (map clause_rule cs)) (is_standing cs) (from 0 n) (all_each _ (used_clauses cs) (from 0 n))
