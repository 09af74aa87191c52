-- The preferred verdict over masks is that of the rules and classes (document 02, W-207).
use Prim.Native.Nat.{ℕ, ◌^◌, ◌≤◌, ◌<◌}
use mathlib.Core.Path.{◌≡◌, refl, sym, ap, ap₂, ◌∙◌}
use mathlib.Core.Bool.{Bool, true, false, not, cond, ◌&&◌, ◌||◌}
use mathlib.Core.List.{List, [], ◌∷◌, map}
use native.Mathlib.Omega.{arith}
use native.Mathlib.Nat.{mod-one}
use lib.Dec.{T, eqb}
use lib.ListN.{length, get_or}
use borrow.Author.Tests.{eq-eqb, ne_eqb}
use Rattle.kinds.specs.Limits.{walk_atoms, class_limit, fixed}
use Rattle.rules.specs.Lists.{All, filter, from}
use Rattle.rules.specs.Sets.{has}
use Rattle.rules.specs.Rules.{Rule, is_model, first_broken}
use Rattle.rules.specs.Preferred.{of_class, is_same, are_agreeing, is_sparing, is_beating}
use Rattle.rules.proofs.Booleans.{T_of, T-imp-out, is_true_lem, is_false, eq_to_eqb}
use Rattle.rules.proofs.Preferred.{all_of_class}
use Rattle.rules.proofs.Rules.{all_in}
use Rattle.places.specs.Places.{place}
use Rattle.places.proofs.Places.{place_atoms}
use Rattle.choices.specs.Choices.{Choice, choice, RulesBelow, is_closed, visited}
use Rattle.choices.proofs.Closing.{closed_in, closed_out, prefix_open}
use Rattle.rules.proofs.Filtered.{filter_every}
use Rattle.walks.specs.Walk.{preferred_course, preferred_walk, is_final_and, search, preferred_needs}
use Rattle.walks.specs.declared.answers.Verdict.TheVariants.{Broken}
use Rattle.masks.specs.AnswersAt.{verdict_at}
use Rattle.masks.specs.Masks.{place_mask, care_at, want_at, class_masks, spares_m}
use Rattle.masks.proofs.ClassMasks.{spares_first}
use Rattle.groups.specs.Groups.{GroupsOf}
use Rattle.descent.specs.Descent.{Outcome, Found, Nothing, Asked}
use Rattle.descent.specs.Search.{better, better_set}
use Rattle.descent.specs.Visits.{first_found, Fits, Tied}
use Rattle.descent.specs.Verdicts.{outs_of, ins_of, verdict_of, preferred_m}
use Rattle.descent.proofs.Searched.{descends_all}
use Rattle.descent.proofs.GroupedRules.{group_closes}
use Rattle.descent.proofs.AllowedValues.{fixed_values}
use Rattle.descent.proofs.JudgedChoices.{judge_by, all_of_atoms, found_searched}

-- every choice is kept
pub all_kept : (l : List Choice) → filter (λ (k : Choice). true) l ≡ l
all_kept l = filter_every (λ (k : Choice). true) l (any l)
  where
    any : (l : List Choice) → All (λ (k : Choice). T true) l
    any [] = tt
    any (k ∷ l) = (tt, any l)

pub and-true : (b : Bool) → (b && true) ≡ b
and-true true = refl
and-true false = refl

module _ (ws : List ℕ) (rs : List (Rule ℕ)) (few : length ws ≤ walk_atoms) (below : RulesBelow (length ws) rs) (plain : All (λ r. r.nots ≡ []) rs)
    (care want starts : List ℕ) (groups : GroupsOf (map (care_at (length ws)) rs) (map (want_at (length ws)) rs) care want starts) where
  abbrev n : ℕ
  n = length ws

  abbrev classes : List ℕ
  classes = class_masks ws 1 class_limit

  abbrev held : ℕ
  held = place_mask n (of_class ws fixed)

  module _ (m : ℕ) (model : T (is_model rs (has m))) where
    abbrev q : ℕ
    q = place n m

    abbrev asked : Asked
    asked = better_set care want starts classes (outs_of n held q) (ins_of n held q) q

    abbrev beating : ℕ → Bool
    beating s = is_beating ws rs s m

    abbrev test : Choice → Bool
    test = is_final_and n beating

    -- allowed values agree with m on the fixed atoms
    agrees : (x : ℕ) → Fits (preferred_course ws rs m) n x → are_agreeing (of_class ws fixed) x m ≡ true
    agrees x f = is_true_lem (are_agreeing (of_class ws fixed) x m) ((all_in (λ a. is_same (has x a) (has m a)) (of_class ws fixed)).1 ((all_of_class ws fixed (λ a. T (is_same (has x a) (has m a)))).1 (λ a c.
        T-imp-out (eqb (get_or ws a 0) fixed) (is_same (has x a) (has m a)) (f a c.0) (eq_to_eqb (get_or ws a 0) fixed c.1))))

    spared : (x : ℕ) → spares_m q (place n x) classes ≡ is_sparing ws (from 1 class_limit) x m
    spared x = sym (spares_first ws x m (place n x) q (place_atoms n x) (place_atoms n m) class_limit (omega arith) (λ c a b. absurd (omega arith)))

    beats_open : (x : ℕ) → Fits (preferred_course ws rs m) n x → is_closed rs n x ≡ false → spares_m q (place n x) classes ≡ beating x
    beats_open x f o = spared x ∙ sym (ap₂ (λ (a b : Bool). a && (b && is_sparing ws (from 1 class_limit) x m)) (is_true_lem (is_model rs (has x)) (closed_in n x rs below (λ t. T_of o t))) (agrees x f))

    tied : Tied (preferred_course ws rs m) n (λ k. true) (judge_by n test) asked
    unfolding better
    tied = record {
      closes = group_closes n few rs below plain care want starts groups;
      visits = λ d k x v e h t. fixed_values ws m d k v e ∙ sym (and-true (not (eqb (get_or ws d 0) fixed) || is_same v (has m d)));
      dropped = λ left d x e h f. absurd (T_of f tt);
      partial = λ k u l. ap (λ (b : Bool). cond (b && beating k.taken) (Found (place n k.taken) u) (Nothing u)) (ne_eqb k.decided n (λ e. omega arith));
      closed = λ x u h c. ap (λ (b : Bool). cond b (Found (place n x) u) (Nothing u)) (no_beat x h c);
      ends = λ x u h f o. ap₂ (λ (a b : Bool). cond (a && b) (Found (place n x) u) (Nothing u)) (eq-eqb n n refl) (sym (beats_open x f o));
    }
      where
        no_beat : (x : ℕ) → x < 2 ^ n → is_closed rs n x ≡ true → test (choice n x) ≡ false
        no_beat x h c =
            let none : is_model rs (has x) ≡ false = is_false (is_model rs (has x)) (closed_out n n x x (record { set = h; same = λ a l. refl }) rs (T_of (sym c) tt)) in
            ap₂ (λ (a b : Bool). a && (b && (are_agreeing (of_class ws fixed) x m && is_sparing ws (from 1 class_limit) x m))) (eq-eqb n n refl) none

    root_open : is_closed rs 0 0 ≡ false
    root_open = ap (is_closed rs 0) (sym (mod-one m)) ∙ prefix_open rs m model 0

    pub preferred_masks : verdict_at n (preferred_m care want starts classes held n q) ≡ preferred_needs ws rs m
    unfolding preferred_m preferred_needs preferred_walk
    preferred_masks =
        ap (λ (o : Outcome). verdict_at n (verdict_of o)) (descends_all (preferred_course ws rs m) n (λ k. true) (judge_by n test) asked tied root_open tt ∙ ap (λ (l : List Choice). first_found (judge_by n test) l 0) (all_kept (visited (preferred_course ws rs m) n 0 0)))
        ∙ found_searched n test (visited (preferred_course ws rs m) n 0 0) 0 (all_of_atoms (preferred_course ws rs m) n)
        ∙ ap (λ (b : Bool). cond b (search (λ k. k.taken) test (visited (preferred_course ws rs m) n 0 0) 0) (Broken (first_broken rs (has m)))) (sym (is_true_lem (is_model rs (has m)) model))
