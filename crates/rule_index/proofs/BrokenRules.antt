-- What the lists of rule numbers hold: the rules with an atom, the rules that a set breaks, and those after a flip.
use Prim.Native.Nat.{ℕ, suc, ◌+◌, ◌-◌, ◌<◌}
use mathlib.Core.Path.{◌≡◌, refl, sym, ap, ap₂, subst, ◌∙◌}
use mathlib.Core.Logic.{◌⊎◌, inl, inr, ◌↔◌}
use mathlib.Core.Bool.{Bool, true, false, not, ◌&&◌, ◌||◌, cond}
use mathlib.Core.List.{List, [], ◌∷◌, ◌++◌}
use native.Mathlib.Omega.{arith}
use lib.Dec.{T, eqb, eqb→eq}
use lib.ListN.{length}
use Rattle.rules.specs.Lists.{All, every, some, keep}
use Rattle.rules.specs.Rules.{Rule, Holds, is_holding}
use Rattle.rules.specs.Sets.{has}
use Rattle.rules.proofs.Booleans.{T_of, bool_ext, eq_to_eqb}
use Rattle.rules.proofs.Connectives.{not_law}
use Rattle.rules.proofs.Lists.{all_imp, all_app_l, all_app_r, any_app, app_any, some_any}
use Rattle.rules.proofs.Rules.{holds_law}
use Rattle.restriction.specs.Atoms.{is_member, atoms_of}
use Rattle.restriction.proofs.Places.{members}
use Rattle.rule_index.specs.Index.{numbers_of, is_standing}
use Rattle.rule_index.specs.Flip.{is_broken, broken_rules, flipped, after_flip}
use Rattle.rule_index.specs.Meanings.{Member, Stands, numbered}
use Rattle.rule_index.proofs.RuleNumbers.{numbers_member}
use Rattle.rule_index.proofs.FlippedSets.{flipped_other}

-- the tests

pub member_law : (i : ℕ) (xs : List ℕ) → T (is_member xs i) ↔ Member i xs
member_law i xs = some_any (eqb i) (λ x. x ≡ i) (λ x. (λ t. sym (eqb→eq i x t), λ e. eq_to_eqb i x (sym e))) xs

pub stands_law : (a : ℕ) (r : Rule ℕ) → T (is_standing a r) ↔ Stands a r
stands_law a r =
    let law = member_law a (atoms_of r) in
    (λ t. there (app_any (λ x. x ≡ a) r.head (r.body ++ r.nots) (law.0 t)), λ h. law.1 (any_app (λ x. x ≡ a) r.head (r.body ++ r.nots) (back h)))
  where
    there : Member a r.head ⊎ Member a (r.body ++ r.nots) → Stands a r
    there (inl h) = inl h
    there (inr h) = inr (app_any (λ x. x ≡ a) r.body r.nots h)

    back : Stands a r → Member a r.head ⊎ Member a (r.body ++ r.nots)
    back (inl h) = inl h
    back (inr h) = inr (any_app (λ x. x ≡ a) r.body r.nots h)

pub broken_law : (x : ℕ) (r : Rule ℕ) → T (is_broken x r) ↔ (Holds (has x) r → ⊥)
broken_law x r = not_law (is_holding (has x) r) (holds_law (has x) r)

-- the rules, by number, that pass a test
pub listed : (t : ℕ → Rule ℕ → Bool) (rs : List (Rule ℕ)) (i : ℕ) → T (is_member (numbers_of t 0 rs) i) ↔ ((i < length rs) × T (t i (numbered rs i)))
listed t rs i =
    let law = numbers_member t 0 rs i in
    let z : i - 0 ≡ i = omega arith in
    let same : t i (numbered rs (i - 0)) ≡ t i (numbered rs i) = ap (λ (j : ℕ). t i (numbered rs j)) z in (
      λ h. let q = law.0 h in (omega (arith, q.1), T_of same q.2),
      λ h. law.1 (omega arith, omega (arith, h.0), T_of (sym same) h.1),
    )

pub numbers_listed : (t : ℕ → Rule ℕ → Bool) (P : ℕ → Rule ℕ → Type 0) → ((i : ℕ) (r : Rule ℕ) → T (t i r) ↔ P i r) → (rs : List (Rule ℕ)) (i : ℕ)
    → Member i (numbers_of t 0 rs) ↔ ((i < length rs) × P i (numbered rs i))
numbers_listed t P law rs i =
    let one = member_law i (numbers_of t 0 rs) in
    let two = listed t rs i in
    let three = law i (numbered rs i) in
    (λ h. let q = two.0 (one.1 h) in (q.0, three.0 q.1), λ h. one.0 (two.1 (h.0, three.1 h.1)))

-- tests that agree on the rules
pub numbers_same : (t u : ℕ → Rule ℕ → Bool) (s : ℕ) (rs : List (Rule ℕ)) → ((i : ℕ) → i < length rs → t (s + i) (numbered rs i) ≡ u (s + i) (numbered rs i)) → numbers_of t s rs ≡ numbers_of u s rs
numbers_same t u s [] h = refl
numbers_same t u s (r ∷ rs) h = ap₂ (λ (b : Bool) (l : List ℕ). keep b s l) first (numbers_same t u (suc s) rs later)
  where
    first : t s r ≡ u s r
    first = let e : s + 0 ≡ s = omega arith in subst (λ (j : ℕ). t j r ≡ u j r) e (h 0 (omega arith))

    later : (i : ℕ) → i < length rs → t (suc s + i) (numbered rs i) ≡ u (suc s + i) (numbered rs i)
    later i l = let e : s + suc i ≡ suc s + i = omega arith in subst (λ (j : ℕ). t j (numbered rs i) ≡ u j (numbered rs i)) e (h (suc i) (omega arith))

-- a rule that does not hold atom a is held or broken whatever a's value is

module _ (p q : ℕ → Bool) where
  every_same : (l : List ℕ) → All (λ b. p b ≡ q b) l → every p l ≡ every q l
  every_same [] h = refl
  every_same (x ∷ l) h = ap₂ ◌&&◌ h.0 (every_same l h.1)

  some_same : (l : List ℕ) → All (λ b. p b ≡ q b) l → some p l ≡ some q l
  some_same [] h = refl
  some_same (x ∷ l) h = ap₂ ◌||◌ h.0 (some_same l h.1)

  holds_same : (r : Rule ℕ) → All (λ b. p b ≡ q b) (atoms_of r) → is_holding p r ≡ is_holding q r
  holds_same r h =
      let P : ℕ → Type 0 = λ b. p b ≡ q b in
      let rest = all_app_r P r.head (r.body ++ r.nots) h in
      λ i. not (every_same r.body (all_app_l P r.body r.nots rest) i && not (some_same r.nots (all_app_r P r.body r.nots rest) i)) || some_same r.head (all_app_l P r.head (r.body ++ r.nots) h) i

broken_same : (x a : ℕ) (r : Rule ℕ) → (T (is_standing a r) → ⊥) → is_broken (flipped x a) r ≡ is_broken x r
broken_same x a r n =
    ap not (holds_same (has (flipped x a)) (has x) r (all_imp (λ b. T (is_member (atoms_of r) b)) (λ b. has (flipped x a) b ≡ has x b)
    (λ b t. flipped_other x a b (λ e. n (subst (λ (c : ℕ). T (is_standing c r)) e t))) (atoms_of r) (members (atoms_of r))))

pub from_broken : (rs : List (Rule ℕ)) (x a : ℕ) → after_flip rs (broken_rules rs x) x a ≡ broken_rules rs (flipped x a)
unfolding after_flip broken_rules
from_broken rs x a = numbers_same _ _ 0 rs each
  where
    list : List ℕ
    list = numbers_of (λ i r. is_broken x r) 0 rs

    each : (i : ℕ) → i < length rs → cond (is_standing a (numbered rs i)) (is_broken (flipped x a) (numbered rs i)) (is_member list (0 + i)) ≡ is_broken (flipped x a) (numbered rs i)
    each i l = step (is_standing a (numbered rs i)) (broken_same x a (numbered rs i))
      where
        member : is_member list (0 + i) ≡ is_broken x (numbered rs i)
        member =
            let z : 0 + i ≡ i = omega arith in
            let law = listed (λ j r. is_broken x r) rs i in
            ap (is_member list) z ∙ bool_ext (is_member list i) (is_broken x (numbered rs i)) (λ h. (law.0 h).1) (λ h. law.1 (l, h))

        step : (b : Bool) → ((T b → ⊥) → is_broken (flipped x a) (numbered rs i) ≡ is_broken x (numbered rs i)) → cond b (is_broken (flipped x a) (numbered rs i)) (is_member list (0 + i)) ≡ is_broken (flipped x a) (numbered rs i)
        step true h = refl
        step false h = member ∙ sym (h (λ t. t))
