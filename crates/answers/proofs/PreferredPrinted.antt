-- The listing prints the preferred sets: all of them with their number, or those before a step that is spent.
use Prim.Native.Nat.{ℕ, zero, suc, ◌+◌, ◌^◌, ◌≤◌, ◌<◌}
use native.Mathlib.Omega.{arith}
use mathlib.Core.Path.{◌≡◌, refl, sym, ap, ap₂, ◌∙◌, subst}
use mathlib.Core.Logic.{◌⊎◌, inl, inr}
use mathlib.Core.List.{List, [], ◌∷◌, ◌++◌, append_assoc}
use lib.ListN.{length, take}
use lib.Seq.{length-take-le, get_or-take}
use Rattle.kinds.specs.Limits.{budget_limit}
use Rattle.rules.specs.Lists.{flat}
use Rattle.stores.specs.Program.{Program}
use Rattle.places.specs.Places.{place}
use Rattle.places.proofs.Places.{place_lt}
use Rattle.walks.specs.Order.{preferred_sets}
use Rattle.walks.specs.Walk.{next_verdict}
use Rattle.walks.specs.Listings.{listed, go_on, Whole, step_after, CutShort}
use Rattle.walks.specs.declared.answers.NextState.{NextState}
use Rattle.walks.specs.declared.answers.NextState.TheVariants.{State, Nothing, Spent, Refused}
use Rattle.walks.proofs.NextStates.{next_means}
use Rattle.walks.proofs.Listing.{listing as listing-means, step_after_lem}
use Rattle.answers.specs.Printed.{state_line, total_line, spent_line}
use Rattle.answers.proofs.ClassWords.{class_words_lem}
use Rattle.answers.specs.Listed.{on_next, listing, whole_listing}
use Rattle.answers.specs.NextInside.{Inside}
use Rattle.answers.specs.PrintedStates.{PrintsAll, PrintsSome, PrintsPreferred}

-- what stands after the states
abbrev ending : NextState → ℕ → List ℕ
ending v c = on_next v (λ s. []) (total_line c) spent_line

-- the listing is the lines of the states listed, and what the step after them prints
module _ (place : ℕ → ℕ) (next : ℕ → NextState) (top : ℕ) (inside : Inside place next top) (names : List (List ℕ)) where
  record Lines (text l : List ℕ) (start c : ℕ) : Type 0 where
    no_state : (s u : ℕ) → next (step_after place start l (length l)) ≡ State s u → ⊥
    text_is : text ≡ flat (state_line names) l ++ ending (next (step_after place start l (length l))) (c + length l)

  ended : (start c : ℕ) (v : NextState) → next start ≡ v → ((s u : ℕ) → v ≡ State s u → ⊥) → Lines (on_next v (λ s. []) (total_line c) spent_line) [] start c
  ended start c v e never = record {
    no_state = λ s u f. never s u (sym e ∙ f);
    text_is = ap₂ (λ (w : NextState) (k : ℕ). ending w k) (sym e) (omega arith);
  }

  one_more : (start s u c : ℕ) (text l : List ℕ) → Lines text l (suc (place s)) (suc c) → Lines (state_line names s ++ text) (s ∷ l) start c
  one_more start s u c text l h =
      let k : suc c + length l ≡ c + suc (length l) = omega arith in record {
        no_state = subst (λ (t : ℕ). (s u : ℕ) → next t ≡ State s u → ⊥) (sym (shift (length l))) h.no_state;
        text_is =
            ap (λ (t : List ℕ). state_line names s ++ t) h.text_is
            ∙ sym (append_assoc (state_line names s) (flat (state_line names) l) (ending (next (step_after place (suc (place s)) l (length l))) (suc c + length l)))
            ∙ ap₂ (λ (t i : ℕ). (state_line names s ++ flat (state_line names) l) ++ ending (next t) i) (sym (shift (length l))) k;
      }
    where
      shift : (i : ℕ) → step_after place start (s ∷ l) (suc i) ≡ step_after place (suc (place s)) l i
      shift zero = refl
      shift (suc i) = refl

  lines : (k start c : ℕ) → start ≤ top → top < start + k → Lines (listing place next k names start c) (listed place next k start) start c
  unfolding listing
  lines zero start c l h = absurd (omega arith)
  lines (suc k) start c l h = step (next start) refl (λ t i a b. lines k t i a b)
    where
      step : (v : NextState) → next start ≡ v → ((t i : ℕ) → t ≤ top → top < t + k → Lines (listing place next k names t i) (listed place next k t) t i)
          → Lines (on_next v (λ s. state_line names s ++ listing place next k names (suc (place s)) (suc c)) (total_line c) spent_line) (go_on place v (λ t. listed place next k t)) start c
      step (State s u) e r =
          let i = inside start s u l e in
          let a = i.0 in
          let b = i.1 in
          one_more start s u c (listing place next k names (suc (place s)) (suc c)) (listed place next k (suc (place s))) (r (suc (place s)) (suc c) (omega arith) (omega arith))
      step (Nothing u) e r = ended start c (Nothing u) e (λ s w f. let z : ◌≡◌ {A = ℕ} 0 1 = cc in omega arith)
      step (Spent u) e r = ended start c (Spent u) e (λ s w f. let z : ◌≡◌ {A = ℕ} 0 1 = cc in omega arith)
      step (Refused f) e r = ended start c (Refused f) e (λ s w g. let z : ◌≡◌ {A = ℕ} 0 1 = cc in omega arith)

next_inside : (p : Program) → length p.words ≡ p.atoms → Inside (place (length p.words)) (λ t. next_verdict p.words p.rules t budget_limit) (2 ^ p.atoms)
next_inside p count t s u l e = (
  ((next_means p.words p.rules t budget_limit).earliest s u e).after,
  subst (λ (n : ℕ). place (length p.words) s < 2 ^ n) count (place_lt (length p.words) s),
)

module _ (p : Program) (count : length p.words ≡ p.atoms) (names : List (List ℕ)) where
  abbrev sets : List ℕ
  sets = preferred_sets p.words p.rules

  abbrev next : ℕ → NextState
  next t = next_verdict p.words p.rules t budget_limit

  abbrev at : ℕ → ℕ
  at = place (length p.words)

  abbrev steps : ℕ
  steps = suc (2 ^ p.atoms)

  whole_is : listing at next steps names 0 0 ≡ whole_listing p names
  unfolding whole_listing
  whole_is = ap (λ (n : ℕ). listing (place n) next steps names 0 0) count

  all_lines : Lines at next (2 ^ p.atoms) (next_inside p count) names (whole_listing p names) (listed at next steps 0) 0 0
  all_lines = subst (λ (text : List ℕ). Lines at next (2 ^ p.atoms) (next_inside p count) names text (listed at next steps 0) 0 0) whole_is (lines at next (2 ^ p.atoms) (next_inside p count) names steps 0 0 (omega arith) (omega arith))

  prints_all : Whole p.words p.rules budget_limit (listed at next steps 0) → PrintsAll p names
  prints_all w =
      let h = subst (λ (l : List ℕ). Lines at next (2 ^ p.atoms) (next_inside p count) names (whole_listing p names) l 0 0) w.states all_lines in
      record {
        whole = subst (Whole p.words p.rules budget_limit) w.states w;
        text = h.text_is ∙ ap (λ (t : List ℕ). flat (state_line names) sets ++ t) (total (next (step_after at 0 sets (length sets))) refl h.no_state);
      }
    where
      total : (v : NextState) → next (step_after at 0 sets (length sets)) ≡ v → ((s u : ℕ) → v ≡ State s u → ⊥) → ending v (0 + length sets) ≡ total_line (length sets)
      total (State s u) e never = absurd (never s u refl)
      total (Nothing u) e never = let z : 0 + length sets ≡ length sets = omega arith in ap total_line z
      total (Spent u) e never = absurd (w.unspent (step_after at 0 sets (length sets)) u (step_after_lem p.words p.rules (length sets) (omega arith)) e)
      total (Refused f) e never = absurd ((next_means p.words p.rules (step_after at 0 sets (length sets)) budget_limit).never_refused f e)

  prints_some : CutShort p.words p.rules budget_limit (listed at next steps 0) → PrintsSome p names
  prints_some w =
      let c = w.count in
      let h = subst (λ (l : List ℕ). Lines at next (2 ^ p.atoms) (next_inside p count) names (whole_listing p names) l 0 0) w.states all_lines in
      let size : length (take c sets) ≡ c = length-take-le c sets w.inside in
      let here : next (step_after at 0 (take c sets) (length (take c sets))) ≡ Spent budget_limit = ap (λ (i : ℕ). next (step_after at 0 (take c sets) i)) size ∙ ap next (same_step c) ∙ w.spent in
      record {
        states = take c sets;
        cut = subst (CutShort p.words p.rules budget_limit) w.states w;
        text = h.text_is ∙ ap (λ (v : NextState). flat (state_line names) (take c sets) ++ ending v (0 + length (take c sets))) here;
      }
    where
      same_step : (i : ℕ) → step_after at 0 (take i sets) i ≡ step_after at 0 sets i
      same_step zero = refl
      same_step (suc i) = ap (λ (s : ℕ). suc (at s)) (get_or-take (suc i) sets i 0 (omega arith))

  pub prints : PrintsAll p names ⊎ PrintsSome p names
  prints = either (listing-means p.words p.rules budget_limit steps (subst (λ (n : ℕ). 2 ^ n < steps) (sym count) (omega arith)))
    where
      either : Whole p.words p.rules budget_limit (listed at next steps 0) ⊎ CutShort p.words p.rules budget_limit (listed at next steps 0) → PrintsAll p names ⊎ PrintsSome p names
      either (inl w) = inl (prints_all w)
      either (inr w) = inr (prints_some w)

pub prints_preferred : PrintsPreferred
prints_preferred p form k names = prints p (class_words_lem p form k) names
