-- What the answer of a walk means for a set, whatever is walked: yes, its first broken rule, the first better set, or spent.
use Prim.Native.Nat.{ℕ, suc, ◌≤◌, ◌<◌}
use mathlib.Core.Path.{◌≡◌, refl, sym, ap, subst}
use mathlib.Core.Logic.{◌↔◌, ◌⊎◌, inl, inr}
use mathlib.Core.Bool.{Bool, true, false, cond}
use mathlib.Core.List.{List}
use native.Mathlib.Omega.{arith}
use native.Mathlib.Decide.{dec_lt}
use lib.Dec.{T}
use lib.ListN.{length}
use Rattle.kinds.specs.declared.refusals.Refusal.{Refusal}
use Rattle.rules.specs.Lists.{All}
use Rattle.rules.specs.Sets.{has}
use Rattle.rules.specs.Rules.{Rule, Model, FirstBroken, is_model, first_broken}
use Rattle.rules.proofs.Booleans.{decide}
use Rattle.rules.proofs.Rules.{model_law, first_broken_le, no_broken_model, model_no_broken, first_broken_lem, first_broken_one}
use Rattle.walks.specs.Walk.{search, capped, verdict_by}
use Rattle.walks.specs.Meanings.{First}
use Rattle.walks.specs.declared.answers.Verdict.{Verdict}
use Rattle.walks.specs.declared.answers.Verdict.TheVariants.{Yes, Broken, Beaten, Spent, Refused}
use Rattle.walks.proofs.Searches.{Walked, Answered, units_of, walked_answered, yes_broken, broken_beaten, search_walked, search_yes, search_beaten, capped_same, capped_spent, never_refused}

-- no model exactly when there is a first broken rule, which is the one counted
pub broken_law : (rs : List (Rule ℕ)) (m i : ℕ) → ((Model rs (has m) → ⊥) × (i ≡ first_broken rs (has m))) ↔ FirstBroken rs (has m) i
broken_law rs m i = (there, back)
  where
    inside : (Model rs (has m) → ⊥) → Dec (first_broken rs (has m) < length rs) → first_broken rs (has m) < length rs
    inside h (yes l) = l
    inside h (no l) = absurd (h (no_broken_model rs (has m) (omega (arith, first_broken_le rs (has m)))))

    there : (Model rs (has m) → ⊥) × (i ≡ first_broken rs (has m)) → FirstBroken rs (has m) i
    there h = rw h.1 (first_broken_lem rs (has m) (inside h.0 (dec_lt (first_broken rs (has m)) (length rs))))

    back : FirstBroken rs (has m) i → (Model rs (has m) → ⊥) × (i ≡ first_broken rs (has m))
    back h =
        let e : first_broken rs (has m) ≡ i = first_broken_one rs (has m) i h in
        (λ k. (let l = h.inside in omega (arith, model_no_broken rs (has m) k)), sym e)

-- the first entry that is P has the set s, its place counted from 1 being u
abbrev pub FirstEntry : {A : Type 0} → (A → ℕ) → A → (A → Type 0) → List A → ℕ → ℕ → Type 0
FirstEntry {A} set none P l s u = (k : ℕ) × (u ≡ suc k) × ((x : A) × (set x ≡ s) × First none P l x k)

-- v is the answer, whatever the budget, for a set m whose walk is l: yes where m is good, else its first broken rule or the set of the first entry that is P
pub record Judged {A : Type 0} (set : A → ℕ) (none : A) (rs : List (Rule ℕ)) (m : ℕ) (P : A → Type 0) (l : List A) (Good : Type 0) (v : Verdict) : Type 0 where
  pub answered : Answered v
  pub is_yes_lem : (u : ℕ) → v ≡ Yes u ↔ (Good × (u ≡ length l))
  pub is_broken_lem : (i : ℕ) → v ≡ Broken i ↔ FirstBroken rs (has m) i
  pub is_beaten : (s u : ℕ) → v ≡ Beaten s u ↔ (Model rs (has m) × FirstEntry set none P l s u)

-- the walk where the set is a model, else the rule that is broken
module _ {A : Type 0} (set : A → ℕ) (none : A) (rs : List (Rule ℕ)) (m : ℕ) (better : A → Bool) (P : A → Type 0) (law : (x : A) → T (better x) ↔ P x) (l : List A) (Good : Type 0) (good : (Model rs (has m) × All (λ x. P x → ⊥) l) ↔ Good) where
  abbrev broken : Verdict
  broken = Broken (first_broken rs (has m))

  pub judged : Judged set none rs m P l Good (verdict_by set rs m better l)
  judged = step (is_model rs (has m)) (model_law rs (has m))
    where
      step : (b : Bool) → T b ↔ Model rs (has m) → Judged set none rs m P l Good (cond b (search set better l 0) broken)
      step true q =
          let walked = search_walked set none better P law l 0 in record {
            answered = walked_answered (search set better l 0) walked;
            is_yes_lem = λ u. let r = search_yes set none better P law l 0 u in (
              λ e. let h = r.0 e in (good.0 (q.0 tt, h.0), let k = h.1 in omega arith),
              λ h. r.1 ((good.1 h.0).1, let k = h.1 in omega arith),
            );
            is_broken_lem = λ i. (
              λ e. absurd (subst Walked e walked),
              λ h. absurd (((broken_law rs m i).1 h).0 (q.0 tt)),
            );
            is_beaten = λ s u. let r = search_beaten set none better P law l 0 s u in (
              λ e. let h = r.0 e in (q.0 tt, (h.0, (let k = h.1 in omega arith), h.2)),
              λ h. r.1 (h.1.0, (let k = h.1.1 in omega arith), h.1.2),
            );
          }
      step false q = record {
        answered = tt;
        is_yes_lem = λ u. (λ e. yes_broken (sym e), λ h. absurd (q.1 (good.1 h.0).0));
        is_broken_lem = λ i. (
          λ e. (broken_law rs m i).0 (q.1, let z : first_broken rs (has m) ≡ i = cc in sym z),
          λ h. ap Broken (sym ((broken_law rs m i).1 h).1),
        );
        is_beaten = λ s u. (λ e. broken_beaten e, λ h. absurd (q.1 h.0));
      }

module _ {A : Type 0} {set : A → ℕ} {none : A} {rs : List (Rule ℕ)} {m : ℕ} {P : A → Type 0} {l : List A} {Good : Type 0} {v : Verdict} (j : Judged set none rs m P l Good v) where
  -- the units needed: all of the walk, or up to the first better set
  abbrev pub Units : ℕ → Type 0
  Units u = (Good × (u ≡ length l)) ⊎ ((s : ℕ) × Model rs (has m) × FirstEntry set none P l s u)

  pub units_counted : (u : ℕ) → Units u → units_of v ≡ u
  units_counted u (inl h) = ap units_of ((j.is_yes_lem u).1 h)
  units_counted u (inr h) = ap units_of ((j.is_beaten h.0 u).1 (h.1, h.2))

  pub units_model : Model rs (has m) → Units (units_of v)
  units_model model = step v refl j.answered
    where
      step : (w : Verdict) → v ≡ w → Answered w → Units (units_of w)
      step (Yes u) e a = inl ((j.is_yes_lem u).0 e)
      step (Broken i) e a = absurd (((broken_law rs m i).1 ((j.is_broken_lem i).0 e)).0 model)
      step (Beaten s u) e a = let h = (j.is_beaten s u).0 e in inr (s, h.0, h.1)
      step (Spent u) e a = absurd a
      step (Refused f) e a = absurd a

  pub units_broken : (Model rs (has m) → ⊥) → units_of v ≡ 0
  units_broken h = ap units_of ((j.is_broken_lem (first_broken rs (has m))).1 ((broken_law rs m (first_broken rs (has m))).0 (h, refl)))

  pub says_yes : ((u : ℕ) × (v ≡ Yes u)) ↔ Good
  says_yes = (λ h. ((j.is_yes_lem h.0).0 h.1).0, λ g. (length l, (j.is_yes_lem (length l)).1 (g, refl)))

  module _ (b : ℕ) where
    pub verdict_yes : (u : ℕ) → capped b v ≡ Yes u ↔ (Good × (u ≡ length l) × (u ≤ b))
    verdict_yes u = let c = capped_same b v j.answered (Yes u) tt in let r = j.is_yes_lem u in (
      λ e. let h = c.0 e in let k = r.0 h.0 in (k.0, k.1, h.1),
      λ h. c.1 (r.1 (h.0, h.1), h.2),
    )

    pub verdict_broken : (i : ℕ) → capped b v ≡ Broken i ↔ FirstBroken rs (has m) i
    verdict_broken i = let c = capped_same b v j.answered (Broken i) tt in (
      λ e. (j.is_broken_lem i).0 (c.0 e).0,
      λ h. c.1 ((j.is_broken_lem i).1 h, omega arith),
    )

    pub verdict_beaten : (s u : ℕ) → capped b v ≡ Beaten s u ↔ (Model rs (has m) × FirstEntry set none P l s u × (u ≤ b))
    verdict_beaten s u = let c = capped_same b v j.answered (Beaten s u) tt in let r = j.is_beaten s u in (
      λ e. let h = c.0 e in let k = r.0 h.0 in (k.0, k.1, h.1),
      λ h. c.1 (r.1 (h.0, h.1), h.2),
    )

    pub verdict_spent : (u : ℕ) → capped b v ≡ Spent u ↔ ((u ≡ b) × ((n : ℕ) × Units n × (b < n)))
    verdict_spent u = let c = capped_spent b v j.answered u in (
      λ e. let h = c.0 e in (h.0, (units_of v, units_model (some_model h.1 (decide (is_model rs (has m)))), h.1)),
      λ h. c.1 (h.0, let k = units_counted h.1.0 h.1.1 in let l = h.1.2 in omega arith),
    )
      where
        some_model : b < units_of v → T (is_model rs (has m)) ⊎ (T (is_model rs (has m)) → ⊥) → Model rs (has m)
        some_model l (inl t) = (model_law rs (has m)).0 t
        some_model l (inr t) = absurd (omega (arith, units_broken (λ k. t ((model_law rs (has m)).1 k))))

    pub verdict_unrefused : (f : Refusal) → capped b v ≡ Refused f → ⊥
    verdict_unrefused f = never_refused b v j.answered f
