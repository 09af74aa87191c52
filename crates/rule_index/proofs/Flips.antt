-- What the index holds, what a set breaks, and what a flip makes of a list.
use Prim.Native.Nat.{ℕ, ◌<◌}
use mathlib.Core.Logic.{◌⊎◌, inl, inr, ◌↔◌}
use mathlib.Core.Bool.{Bool, true, false, cond}
use mathlib.Core.List.{List}
use lib.Dec.{T}
use lib.ListN.{length}
use Rattle.rules.specs.Lists.{All}
use Rattle.rules.specs.Rules.{Rule, Holds}
use Rattle.rules.specs.Sets.{has}
use Rattle.restriction.specs.Atoms.{is_member}
use Rattle.restriction.proofs.Places.{member_all}
use Rattle.rule_index.specs.Index.{is_standing, rules_with}
use Rattle.rule_index.specs.Flip.{is_broken, broken_rules, flipped, after_flip}
use Rattle.rule_index.specs.Meanings.{Member, Stands, numbered, HasRules, Breaks, Answers, Flips}
use Rattle.rule_index.proofs.FlippedSets.{is_flipped, flipped_lt}
use Rattle.rule_index.proofs.RisingLists.{numbers_rising}
use Rattle.rule_index.proofs.BrokenRules.{member_law, stands_law, broken_law, numbers_listed, from_broken}

rules_listed : (rs : List (Rule ℕ)) (a : ℕ) → HasRules rs a (rules_with a rs)
unfolding rules_with
rules_listed rs a = record {
  rising = numbers_rising (λ i r. is_standing a r) 0 rs;
  members = numbers_listed (λ i r. is_standing a r) (λ i r. Stands a r) (λ i r. stands_law a r) rs;
}

broken_listed : (rs : List (Rule ℕ)) (x : ℕ) → Breaks rs x (broken_rules rs x)
unfolding broken_rules
broken_listed rs x = record {
  rising = numbers_rising (λ i r. is_broken x r) 0 rs;
  members = numbers_listed (λ i r. is_broken x r) (λ i r. Holds (has x) r → ⊥) (λ i r. broken_law x r) rs;
}

-- which of two tests is asked
cond_law : {P Q R : Type 0} (b x y : Bool) → T b ↔ P → T x ↔ Q → T y ↔ R → T (cond b x y) ↔ ((R × (P → ⊥)) ⊎ (P × Q))
cond_law {P} {Q} {R} true x y f g h = (λ t. inr (f.0 tt, g.0 t), back)
  where
    back : (R × (P → ⊥)) ⊎ (P × Q) → T x
    back (inl k) = absurd (k.1 (f.0 tt))
    back (inr k) = g.1 k.1
cond_law {P} {Q} {R} false x y f g h = (λ t. inl (h.0 t, f.1), back)
  where
    back : (R × (P → ⊥)) ⊎ (P × Q) → T y
    back (inl k) = h.1 k.0
    back (inr k) = absurd (f.1 k.0)

answered : (rs : List (Rule ℕ)) (list : List ℕ) (x a : ℕ) → All (λ i. i < length rs) list → Answers rs list a (flipped x a) (after_flip rs list x a)
unfolding after_flip
answered rs list x a below = record {
  rising = numbers_rising (λ i r. cond (is_standing a r) (is_broken y r) (is_member list i)) 0 rs;
  members = λ i.
      let law = numbers_listed (λ i r. cond (is_standing a r) (is_broken y r) (is_member list i)) Left
      (λ i r. cond_law (is_standing a r) (is_broken y r) (is_member list i) (stands_law a r) (broken_law y r) (member_law i list)) rs i in
      (λ h. there i (law.0 h), λ h. law.1 (back i h));
}
  where
    y : ℕ
    y = flipped x a

    Left : ℕ → Rule ℕ → Type 0
    Left i r = (Member i list × (Stands a r → ⊥)) ⊎ (Stands a r × (Holds (has y) r → ⊥))

    there : (i : ℕ) → (i < length rs) × Left i (numbered rs i) → (Member i list × (Stands a (numbered rs i) → ⊥)) ⊎ ((i < length rs) × Stands a (numbered rs i) × (Holds (has y) (numbered rs i) → ⊥))
    there i (l, inl h) = inl h
    there i (l, inr h) = inr (l, h.0, h.1)

    back : (i : ℕ) → (Member i list × (Stands a (numbered rs i) → ⊥)) ⊎ ((i < length rs) × Stands a (numbered rs i) × (Holds (has y) (numbered rs i) → ⊥)) → (i < length rs) × Left i (numbered rs i)
    back i (inl h) = (member_all (λ j. j < length rs) list i below ((member_law i list).1 h.0), inl h)
    back i (inr h) = (h.0, inr (h.1, h.2))

pub flips : Flips
flips = record {
  lists = rules_listed;
  broken = broken_listed;
  sets = λ n x a l u. (is_flipped x a, flipped_lt n x a l u);
  answers = answered;
  from_broken = from_broken;
}
