-- Where neither order's budget is spent, the order of the walks and that by rising number agree (document 02, W-206).
use Prim.Native.Nat.{ℕ, ◌^◌, ◌<◌}
use mathlib.Core.Path.{◌≡◌, refl, sym, ap, ◌∙◌, subst}
use mathlib.Core.Logic.{◌↔◌, ◌⊎◌, inl, inr}
use mathlib.Core.List.{List, map-id}
use lib.ListN.{length, drop}
use Rattle.rules.specs.Lists.{Any, from}
use Rattle.rules.specs.Sets.{has}
use Rattle.rules.specs.Rules.{Rule, Model, FirstBroken}
use Rattle.rules.specs.Preferred.{Beats, Preferred}
use Rattle.rules.specs.Renumbering.{Bijection}
use Rattle.rules.proofs.Lists.{all_any}
use Rattle.rules.proofs.Rules.{first_broken_one}
use Rattle.places.specs.Places.{place, set_at}
use Rattle.places.proofs.Places.{by_place}
use Rattle.walks.specs.Order.{walk_order}
use Rattle.walks.specs.Walk.{capped, capped_next}
use Rattle.walks.specs.FullWalk.{agreeing, next_by, full_preferred_needs, full_next_needs, full_preferred, full_stable, full_next}
use Rattle.walks.specs.Listings.{listed, NeverSpent}
use Rattle.walks.specs.RisingOrder.{rising_order, rising_needs, rising_next, case_of, SameUnspent, OrdersAgree}
use Rattle.walks.specs.declared.answers.Verdict.{Verdict}
use Rattle.walks.specs.declared.answers.Verdict.TheVariants.{Yes, Broken, Beaten, Spent, Refused}
use Rattle.walks.specs.declared.answers.NextState.{NextState}
use Rattle.walks.proofs.Searches.{yes_beaten, yes_broken}
use Rattle.walks.proofs.Order.{AllSets, sets_by, all_sets}
use Rattle.walks.proofs.Judged.{broken_law, says_yes, verdict_yes, verdict_broken, verdict_beaten, verdict_unrefused}
use Rattle.walks.proofs.FullWalk.{SetsJudged, preferred_among, full_preferred_lem, full_answered, full_yes, stable_among, full_stable_lem}
use Rattle.walks.proofs.Foremost.{sets_found}
use Rattle.walks.proofs.Listing.{left_by, only_preferred, each_preferred, all_listed}

-- what a verdict that is not spent tells of the set, whatever the order
abbrev Tells : List (Rule ℕ) → ℕ → Type 0 → Verdict → Type 0
Tells rs m Good x =
    (Good × (case_of x ≡ Yes 0))
    ⊎ (((i : ℕ) × FirstBroken rs (has m) i × (case_of x ≡ Broken i)) ⊎ ((Good → ⊥) × Model rs (has m) × (case_of x ≡ Beaten 0 0)))

module _ {rs : List (Rule ℕ)} {m : ℕ} {P : ℕ → Type 0} {l : List ℕ} {Good : Type 0} {v : Verdict} (j : SetsJudged rs m P l Good v) where
  tells : (b : ℕ) (x : Verdict) → capped b v ≡ x → ((u : ℕ) → x ≡ Spent u → ⊥) → Tells rs m Good x
  tells b (Yes u) e n = inl (((verdict_yes j b u).0 e).0, refl)
  tells b (Broken i) e n = inr (inl (i, (verdict_broken j b i).0 e, refl))
  tells b (Beaten s u) e n =
      let h = (verdict_beaten j b s u).0 e in
      inr (inr (λ g. yes_beaten (sym ((says_yes j).1 g).1 ∙ (j.is_beaten s u).1 (h.0, h.1)), h.0, refl))
  tells b (Spent u) e n = absurd (n u refl)
  tells b (Refused f) e n = absurd (verdict_unrefused j b f e)

  good_broken : Good → (i : ℕ) → FirstBroken rs (has m) i → ⊥
  good_broken g i h = yes_broken (sym ((says_yes j).1 g).1 ∙ (j.is_broken_lem i).1 h)

module _ {rs : List (Rule ℕ)} {m : ℕ} {P : ℕ → Type 0} {l k : List ℕ} {Good : Type 0} {v w : Verdict} (j : SetsJudged rs m P l Good v) (i : SetsJudged rs m P k Good w) where
  alike : (x y : Verdict) → Tells rs m Good x → Tells rs m Good y → case_of x ≡ case_of y
  alike x y (inl p) (inl q) = p.1 ∙ sym q.1
  alike x y (inl p) (inr (inl q)) = absurd (good_broken j p.0 q.0 q.1)
  alike x y (inl p) (inr (inr q)) = absurd (q.0 p.0)
  alike x y (inr (inl p)) (inl q) = absurd (good_broken j q.0 p.0 p.1)
  alike x y (inr (inl p)) (inr (inl q)) = p.2 ∙ ap Broken (sym (first_broken_one rs (has m) p.0 p.1) ∙ first_broken_one rs (has m) q.0 q.1) ∙ sym q.2
  alike x y (inr (inl p)) (inr (inr q)) = absurd (((broken_law rs m p.0).1 p.1).0 q.1)
  alike x y (inr (inr p)) (inl q) = absurd (p.0 q.0)
  alike x y (inr (inr p)) (inr (inl q)) = absurd (((broken_law rs m q.0).1 q.1).0 p.1)
  alike x y (inr (inr p)) (inr (inr q)) = p.2 ∙ sym q.2

  same_case : (b c : ℕ) → SameUnspent (capped b v) (capped c w)
  same_case b c n o = alike (capped b v) (capped c w) (tells j b (capped b v) refl n) (tells i c (capped c w) refl o)

-- by rising number

by_number : (n : ℕ) → Bijection (2 ^ n) (λ s. s) (λ s. s)
by_number n = record { there = λ s l. l; back = λ s l. l; there_back = λ s l. refl; back_there = λ s l. refl }

rising_sets : (n : ℕ) → sets_by n (λ s. s) (λ s. s) (by_number n) ≡ rising_order n
unfolding rising_order
rising_sets n = map-id (from 0 (2 ^ n))

all_rising : (n : ℕ) → AllSets n (rising_order n)
all_rising n P = rw (sym (rising_sets n)) (all_sets n (λ s. s) (λ s. s) (by_number n) P)

module _ (ws : List ℕ) (rs : List (Rule ℕ)) where
  rising_judged : (m : ℕ) → SetsJudged rs m (λ s. Beats ws rs s m) (agreeing ws m (rising_order (length ws))) (Preferred ws rs m) (rising_needs ws rs m)
  rising_judged m = preferred_among ws rs m (rising_order (length ws)) (all_rising (length ws))

  -- a set is listed exactly when it is preferred, in any order
  listed_law : (at place : ℕ → ℕ) (b : Bijection (2 ^ length ws) at place) (s : ℕ) → Any (λ x. x ≡ s) (left_by ws rs at place b 0) ↔ ((s < 2 ^ length ws) × Preferred ws rs s)
  listed_law at place b s = (
    λ h.
        let x = all_any (λ s. (s < 2 ^ length ws) × Preferred ws rs s) (λ x. x ≡ s) (left_by ws rs at place b 0) (only_preferred ws rs at place b) h in
        subst (λ (y : ℕ). (y < 2 ^ length ws) × Preferred ws rs y) x.2 x.1,
    λ h. each_preferred ws rs at place b s h.0 h.1,
  )

  module _ (b c k : ℕ) (h : 2 ^ length ws < k) where
    place_listed : NeverSpent (place (length ws)) ws rs (λ t. full_next ws rs t b) → listed (place (length ws)) (λ t. full_next ws rs t b) k 0 ≡ left_by ws rs (set_at (length ws)) (place (length ws)) (by_place (length ws)) 0
    unfolding full_next full_next_needs walk_order
    place_listed n = all_listed ws rs (set_at (length ws)) (place (length ws)) (by_place (length ws)) (full_next_needs ws rs) (sets_found ws rs (set_at (length ws)) (place (length ws)) (by_place (length ws)) (full_preferred_needs ws rs) (full_answered ws rs) (full_yes ws rs)) b n k h

    abbrev next_over : List ℕ → ℕ → NextState
    next_over sets t = capped_next c (next_by (rising_needs ws rs) (drop t sets))

    number_listed : NeverSpent (λ s. s) ws rs (λ t. rising_next ws rs t c) → listed (λ s. s) (λ t. rising_next ws rs t c) k 0 ≡ left_by ws rs (λ s. s) (λ s. s) (by_number (length ws)) 0
    number_listed n =
        ap (λ (l : List ℕ). listed (λ s. s) (next_over l) k 0) (sym (rising_sets (length ws)))
        ∙ all_listed ws rs (λ s. s) (λ s. s) (by_number (length ws)) (λ t. next_by (rising_needs ws rs) (drop t (sets_by (length ws) (λ s. s) (λ s. s) (by_number (length ws))))) (sets_found ws rs (λ s. s) (λ s. s) (by_number (length ws)) (rising_needs ws rs) (λ s. (rising_judged s).answered) (λ s. says_yes (rising_judged s))) c (subst (λ (l : List ℕ). NeverSpent (λ s. s) ws rs (next_over l)) (sym (rising_sets (length ws))) n) k h

    same_states : NeverSpent (place (length ws)) ws rs (λ t. full_next ws rs t b) → NeverSpent (λ s. s) ws rs (λ t. rising_next ws rs t c)
        → (s : ℕ) → Any (λ x. x ≡ s) (listed (place (length ws)) (λ t. full_next ws rs t b) k 0) ↔ Any (λ x. x ≡ s) (listed (λ s. s) (λ t. rising_next ws rs t c) k 0)
    same_states n o s =
        let p = listed_law (set_at (length ws)) (place (length ws)) (by_place (length ws)) s in
        let q = listed_law (λ s. s) (λ s. s) (by_number (length ws)) s in (
          λ x. subst (Any (λ x. x ≡ s)) (sym (number_listed o)) (q.1 (p.0 (subst (Any (λ x. x ≡ s)) (place_listed n) x))),
          λ x. subst (Any (λ x. x ≡ s)) (sym (place_listed n)) (p.1 (q.0 (subst (Any (λ x. x ≡ s)) (number_listed o) x))),
        )

pub orders_agree : OrdersAgree
unfolding full_preferred full_stable
orders_agree = record {
  preferred = λ ws rs m. same_case (full_preferred_lem ws rs m) (rising_judged ws rs m);
  stable = λ n rs m b c l. same_case (full_stable_lem n rs m l) (stable_among n rs m l (rising_order n) (all_rising n)) b c;
  states = same_states;
}
