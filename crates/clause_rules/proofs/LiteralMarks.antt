-- The marks of a clause's literals.
use Prim.Native.Nat.{ℕ, suc, ◌+◌, ◌<◌}
use native.Mathlib.Decide.{ℕ_discrete}
use native.Mathlib.Numerals.{add-one}
use native.Mathlib.Omega.{arith}
use mathlib.Core.Path.{◌≡◌, refl, sym, ap, ap₂, ◌∙◌}
use mathlib.Core.Bool.{true, false, cond, ◌||◌}
use mathlib.Core.List.{List, [], ◌∷◌, ◌++◌}
use lib.Dec.{eqb}
use lib.ListN.{length, get_or, set, length-append, length-set}
use lib.Seq.{get_or-set_other}
use borrow.Author.Tests.{eq-eqb, ne_eqb}
use Rattle.kinds.specs.Limits.{atom_limit}
use Rattle.kinds.specs.declared.limits.Kind.TheVariants.{Preference}
use Rattle.rules.proofs.Lists.{some_last}
use Rattle.stores.specs.Checking.{Below}
use Rattle.stores.proofs.Marks.{below_more, set_below, set_marks}
use Rattle.restriction.specs.Atoms.{is_member}
use Rattle.clauses.specs.Literals.{positive, negative}
use Rattle.clauses.specs.Gathered.{Gathered, once, with_literal, with_end}
use Rattle.clause_rules.specs.HeldClauses.{Marked}

-- what a literal adds that is not there yet
abbrev pub with_head : Gathered → ℕ → Gathered
with_head g a = record { rules = g.rules; heads = g.heads ++ (a ∷ []); bodies = g.bodies }

abbrev pub with_body : Gathered → ℕ → Gathered
with_body g a = record { rules = g.rules; heads = g.heads; bodies = g.bodies ++ (a ∷ []) }

once_there : (xs : List ℕ) (a : ℕ) → is_member xs a ≡ true → once xs a ≡ xs
once_there xs a e = ap (λ b. cond b xs (xs ++ (a ∷ []))) e

once_new : (xs : List ℕ) (a : ℕ) → is_member xs a ≡ false → once xs a ≡ xs ++ (a ∷ [])
once_new xs a e = ap (λ b. cond b xs (xs ++ (a ∷ []))) e

pub marked_end : {g : Gathered} {marks : List ℕ} → Marked g marks → Marked (with_end g) marks
marked_end {g} {marks} m =
    let more : length (with_end g).rules ≡ suc (length g.rules) = length-append g.rules _ ∙ add-one (length g.rules) in
    let old : (p : ℕ) → eqb (get_or marks p 0) (suc (length (with_end g).rules)) ≡ false = λ p. ne_eqb (get_or marks p 0) (suc (length (with_end g).rules)) (λ e. omega (arith, m.below.mark p, more)) in
    record { below = below_more m.below (omega (arith, more)); heads = λ a l. old a; bodies = λ a l. old (atom_limit Preference + a); room = m.room }

-- the marks of one list, by the place of an atom's mark
module _ (place : ℕ → ℕ) (marks xs : List ℕ) (stamp : ℕ) (h : (a : ℕ) → a < atom_limit Preference → eqb (get_or marks (place a) 0) stamp ≡ is_member xs a) (x : ℕ) where
  set_listed : place x < length marks → ((a : ℕ) → eqb (place a) (place x) ≡ eqb a x) → (a : ℕ) → a < atom_limit Preference → eqb (get_or (set marks (place x) stamp) (place a) 0) stamp ≡ is_member (xs ++ (x ∷ [])) a
  set_listed l same a k = set_marks marks (place x) stamp l (place a) ∙ ap₂ ◌||◌ (same a) (h a k) ∙ sym (some_last (eqb a) xs x)

  set_beside : (p : ℕ) → ((a : ℕ) → a < atom_limit Preference → place a ≡ p → ⊥) → (a : ℕ) → a < atom_limit Preference → eqb (get_or (set marks p stamp) (place a) 0) stamp ≡ is_member xs a
  set_beside p apart a k = ap (λ n. eqb n stamp) (get_or-set_other marks p (place a) stamp 0 (apart a k)) ∙ h a k

eqb_plus : (n a b : ℕ) → eqb (n + a) (n + b) ≡ eqb a b
eqb_plus n a b = step (ℕ_discrete a b)
  where
    step : Dec (a ≡ b) → eqb (n + a) (n + b) ≡ eqb a b
    step (yes e) = eq-eqb (n + a) (n + b) (omega arith) ∙ sym (eq-eqb a b e)
    step (no e) = ne_eqb (n + a) (n + b) (λ q. e (omega arith)) ∙ sym (ne_eqb a b e)

module _ {g : Gathered} {marks : List ℕ} (m : Marked g marks) (a : ℕ) (l : a < atom_limit Preference) where
  abbrev stamp : ℕ
  stamp = suc (length g.rules)

  below_set : (p : ℕ) → p < length marks → Below (length g.rules + 2) (set marks p stamp)
  below_set p k = below_more (set_below marks p stamp k (below_more m.below (omega arith))) (omega arith)

  pub head_there : get_or marks a 0 ≡ stamp → with_literal g (positive a) ≡ g
  head_there e = λ i. record { rules = g.rules; heads = once_there g.heads a (sym (m.heads a l) ∙ eq-eqb _ _ e) i; bodies = g.bodies }

  pub body_there : get_or marks (atom_limit Preference + a) 0 ≡ stamp → with_literal g (negative a) ≡ g
  body_there e = λ i. record { rules = g.rules; heads = g.heads; bodies = once_there g.bodies a (sym (m.bodies a l) ∙ eq-eqb _ _ e) i }

  pub head_new : (get_or marks a 0 ≡ stamp → ⊥) → with_literal g (positive a) ≡ with_head g a
  head_new e = λ i. record { rules = g.rules; heads = once_new g.heads a (sym (m.heads a l) ∙ ne_eqb _ _ e) i; bodies = g.bodies }

  pub body_new : (get_or marks (atom_limit Preference + a) 0 ≡ stamp → ⊥) → with_literal g (negative a) ≡ with_body g a
  body_new e = λ i. record { rules = g.rules; heads = g.heads; bodies = once_new g.bodies a (sym (m.bodies a l) ∙ ne_eqb _ _ e) i }

  pub mark_head : Marked (with_head g a) (set marks a stamp)
  mark_head =
      let k : a < length marks = omega (arith, m.room) in
      record {
        below = below_set a k;
        heads = set_listed (λ b. b) marks g.heads stamp m.heads a k (λ b. refl);
        bodies = set_beside (λ b. atom_limit Preference + b) marks g.bodies stamp m.bodies a a (λ b j e. omega arith);
        room = length-set marks a stamp ∙ m.room;
      }

  pub mark_body : Marked (with_body g a) (set marks (atom_limit Preference + a) stamp)
  mark_body =
      let p = atom_limit Preference + a in
      let k : p < length marks = omega (arith, m.room) in
      record {
        below = below_set p k;
        heads = set_beside (λ b. b) marks g.heads stamp m.heads a p (λ b j e. omega arith);
        bodies = set_listed (λ b. atom_limit Preference + b) marks g.bodies stamp m.bodies a k (λ b. eqb_plus (atom_limit Preference) b a);
        room = length-set marks p stamp ∙ m.room;
      }
