-- The reduct against all rules: what a mark means, the same first broken rule, and the verdict by its masks.
use Prim.Native.Nat.{ℕ, zero, suc, ◌-◌, ◌^◌, ◌≤◌, ◌<◌}
use mathlib.Core.Path.{◌≡◌, refl, sym, ap, ap₂, ◌∙◌, subst}
use mathlib.Core.Logic.{◌↔◌}
use mathlib.Core.Bool.{Bool, true, false, not, ◌&&◌, ◌||◌}
use mathlib.Core.List.{List, [], ◌∷◌, ◌++◌, map}
use native.Mathlib.Omega.{arith}
use lib.Dec.{T}
use lib.ListN.{length, get_or, take, drop, replicate, length-map, length-take}
use lib.Pow.{pow_mono}
use lib.Seq.{take_at}
use Rattle.kinds.specs.Limits.{walk_atoms, rule_limit}
use Rattle.kinds.specs.declared.limits.Kind.TheVariants.{Plain}
use Rattle.rules.specs.Lists.{All, every, some, keep, over}
use Rattle.rules.specs.Sets.{has, Out}
use Rattle.rules.specs.Rules.{Rule, rule, reduct, is_model, first_broken, count_if}
use Rattle.rules.specs.Renumbering.{Within}
use Rattle.rules.proofs.Booleans.{is_false}
use Rattle.rules.proofs.Lists.{all_imp, all_keep}
use Rattle.rules.proofs.Rules.{all_out, model_law, no_broken_model, model_no_broken}
use Rattle.places.specs.Places.{place}
use Rattle.stores.specs.RuleStore.{rules_from, decode}
use Rattle.stores.proofs.RuleStores.{rules_count}
use Rattle.walks.specs.Walk.{capped, stable_needs, stable_verdict}
use Rattle.walks.specs.declared.answers.Verdict.{Verdict}
use Rattle.walks.specs.declared.answers.Verdict.TheVariants.{Broken}
use Rattle.masks.specs.Masks.{care_at, want_at, first_m}
use Rattle.masks.specs.AnswersAt.{verdict_at}
use Rattle.masks.proofs.AnswersAt.{capped_at}
use Rattle.masks.proofs.BrokenRules.{first_le}
use Rattle.masks.proofs.MaskSizes.{cares_lt}
use Rattle.masks.proofs.RulesAt.{first_at}
use Rattle.masks.proofs.RulesFill.{front_of}
use Rattle.masks.proofs.CheckedStore.{PlainHeader, plain_atoms, plain_few, plain_rules, plain_rules_are, plain_within}
use Rattle.groups.specs.Groups.{GroupsOf}
use Rattle.descent.specs.Verdicts.{stable_m}
use Rattle.descent.proofs.ChoiceMasks.{within_below}
use Rattle.descent.proofs.StableMasks.{stable_masks}
use Rattle.stable_verdict.specs.ReductMarks.{MarksMean, is_keeping, marks_of, marked_at}
use Rattle.stable_verdict.specs.SortedSearch.{SortedSearch}
use Rattle.stable_verdict.proofs.ReductFill.{bare}

pub mark_law : (m : ℕ) (rs : List (Rule ℕ)) → MarksMean m rs (marks_of m rs)
unfolding marks_of
mark_law m rs i = at rs i (rule_limit Plain - length rs)
  where
    none : (i k : ℕ) → T (get_or (replicate k false) i false) → ⊥
    none i zero t = t
    none zero (suc k) t = t
    none (suc i) (suc k) t = none i k t

    at : (rs : List (Rule ℕ)) (i k : ℕ) → T (get_or (map (is_keeping m) rs ++ replicate k false) i false) ↔ ((i < length rs) × All (Out (has m)) (get_or rs i (rule [] [] [])).nots)
    at [] i k = (λ t. absurd (none i k t), λ h. absurd (let l = h.0 in omega arith))
    at (r ∷ rs) zero k = (λ t. (omega arith, (all_out (has m) r.nots).0 t), λ h. (all_out (has m) r.nots).1 h.1)
    at (r ∷ rs) (suc i) k = let q = at rs i k in (λ t. let h = q.0 t in (omega (arith, h.0), h.1), λ h. q.1 (let l = h.0 in omega arith, h.1))

module _ (m : ℕ) where
  -- the first broken rule is the one marked as the first broken rule of the reduct
  first_marked : (rs : List (Rule ℕ)) → first_broken rs (has m) ≡ marked_at (first_broken (reduct rs (has m)) (has m)) (map (is_keeping m) rs)
  unfolding marked_at
  first_marked [] = refl
  first_marked (r ∷ rs) = step (some (has m) r.nots) (first_marked rs)
    where
      told : (t : Bool) (f c : ℕ) (ms : List Bool) → f ≡ marked_at c ms → count_if t f ≡ marked_at (count_if t c) (true ∷ ms)
      told true f c ms e = ap suc e
      told false f c ms e = refl

      none : (b : Bool) → (b && false) ≡ false
      none true = refl
      none false = refl

      step : (o : Bool) → first_broken rs (has m) ≡ marked_at (first_broken (reduct rs (has m)) (has m)) (map (is_keeping m) rs)
          → count_if (not (every (has m) r.body && not o) || some (has m) r.head) (first_broken rs (has m)) ≡ marked_at (first_broken (keep (not o) (bare r) (reduct rs (has m))) (has m)) (not o ∷ map (is_keeping m) rs)
      step true q = ap (λ (t : Bool). count_if (not t || some (has m) r.head) (first_broken rs (has m))) (none (every (has m) r.body)) ∙ ap suc q
      step false q = told (not (every (has m) r.body && true) || some (has m) r.head) (first_broken rs (has m)) (first_broken (reduct rs (has m)) (has m)) (map (is_keeping m) rs) q

  -- as many marks are set as the reduct has rules
  marked_all : (rs : List (Rule ℕ)) → marked_at (length (reduct rs (has m))) (map (is_keeping m) rs) ≡ length rs
  unfolding marked_at
  marked_all [] = refl
  marked_all (r ∷ rs) = step (is_keeping m r) (marked_all rs)
    where
      step : (b : Bool) → marked_at (length (reduct rs (has m))) (map (is_keeping m) rs) ≡ length rs → marked_at (length (keep b (bare r) (reduct rs (has m)))) (b ∷ map (is_keeping m) rs) ≡ suc (length rs)
      step true e = ap suc e
      step false e = ap suc e

  marked_inside : (rs : List (Rule ℕ)) (i : ℕ) → i < length (reduct rs (has m)) → marked_at i (map (is_keeping m) rs) < length rs
  unfolding marked_at
  marked_inside [] i l = absurd (omega arith)
  marked_inside (r ∷ rs) i l = step (is_keeping m r) i l (marked_inside rs)
    where
      step : (b : Bool) (i : ℕ) → i < length (keep b (bare r) (reduct rs (has m))) → ((k : ℕ) → k < length (reduct rs (has m)) → marked_at k (map (is_keeping m) rs) < length rs) → marked_at i (b ∷ map (is_keeping m) rs) < suc (length rs)
      step true zero l q = omega arith
      step true (suc i) l q = omega (arith, q i (omega arith))
      step false i l q = omega (arith, q i l)

-- the rules of the reduct have no new atoms, and no `not` lists
reduct_within : (n : ℕ) (m : ℕ → Bool) (rs : List (Rule ℕ)) → All (Within (λ a. a < n)) rs → All (Within (λ a. a < n)) (reduct rs m)
reduct_within n m [] h = tt
reduct_within n m (r ∷ rs) h = all_keep (Within (λ a. a < n)) (not (some m r.nots)) (bare r) (reduct rs m) (λ t. record { head = h.0.head; body = h.0.body; nots = tt }) (reduct_within n m rs h.1)

reduct_plain : (m : ℕ → Bool) (rs : List (Rule ℕ)) → All (λ r. r.nots ≡ []) (reduct rs m)
reduct_plain m [] = tt
reduct_plain m (r ∷ rs) = all_keep (λ r. r.nots ≡ []) (not (some m r.nots)) (bare r) (reduct rs m) (λ t. refl) (reduct_plain m rs)

-- the rules of a plain store, as the code takes their words
abbrev rules_in : List ℕ → ℕ → List (Rule ℕ)
rules_in ws r = rules_from r (take (length ws - 4) (drop 4 ws))

-- the rules of a checked store of n atoms are marked by m, and the masks of its reduct stand at the front
pub record ReductReady (ws : List ℕ) (n r m : ℕ) (marks : List Bool) (cs wants : List ℕ) (kept : ℕ) : Type 0 where
  pub header : PlainHeader ws n r
  pub marked : marks ≡ marks_of m (rules_in ws r)
  pub care_front : take kept cs ≡ map (care_at n) (reduct (rules_in ws r) (has m))
  pub want_front : take kept wants ≡ map (want_at n) (reduct (rules_in ws r) (has m))
  pub count : kept ≡ length (reduct (rules_in ws r) (has m))

module _ (ws : List ℕ) (n r m : ℕ) where
  abbrev in_reduct : List (Rule ℕ)
  in_reduct = reduct (rules_in ws r) (has m)

  reduct_front : (f : Rule ℕ → ℕ) (d l : List ℕ) (k : ℕ) → l ≡ over (map f in_reduct) d → k ≡ length in_reduct → take k l ≡ map f in_reduct
  reduct_front f d l k e c = ap (take k) e ∙ front_of (map f in_reduct) d k (length-map in_reduct f ∙ sym c)

  pub reduct_ready : {marks : List Bool} {cs wants : List ℕ} {kept : ℕ} (c₀ w₀ : List ℕ) → PlainHeader ws n r
      → (marks ≡ marks_of m (rules_in ws r)) × ((cs ≡ over (map (care_at n) in_reduct) c₀) × ((wants ≡ over (map (want_at n) in_reduct) w₀) × (kept ≡ length in_reduct)))
      → ReductReady ws n r m marks cs wants kept
  reduct_ready {marks} {cs} {wants} {kept} c₀ w₀ h q = record {
    header = h;
    marked = q.0;
    care_front = reduct_front (care_at n) c₀ cs kept q.1.0 q.1.1.1;
    want_front = reduct_front (want_at n) w₀ wants kept q.1.1.0 q.1.1.1;
    count = q.1.1.1;
  }

module _ {ws : List ℕ} {n r m : ℕ} {marks : List Bool} {cs wants : List ℕ} {kept : ℕ} (d : ReductReady ws n r m marks cs wants kept) where
  abbrev rules : List (Rule ℕ)
  rules = rules_in ws r

  rules_length : length rules ≡ r
  rules_length = rules_count r (take (length ws - 4) (drop 4 ws))

  pub kept_care_length : kept ≡ length (take kept cs)
  kept_care_length = sym (ap length d.care_front ∙ length-map (reduct rules (has m)) (care_at n) ∙ sym d.count)

  pub kept_want_length : kept ≡ length (take kept wants)
  kept_want_length = sym (ap length d.want_front ∙ length-map (reduct rules (has m)) (want_at n) ∙ sym d.count)

  marks_front : take r marks ≡ map (is_keeping m) rules
  unfolding marks_of
  marks_front = ap (take r) d.marked ∙ take_at (map (is_keeping m) rules) (replicate (rule_limit Plain - length rules) false) r (length-map rules (is_keeping m) ∙ rules_length)

  pub marks_length : r ≡ length (take r marks)
  marks_length = sym (ap length marks_front ∙ length-map rules (is_keeping m) ∙ rules_length)

  pub marks_fit : r ≤ length marks
  marks_fit = omega (arith, marks_length, length-take r marks)

  within : All (Within (λ a. a < n)) rules
  within = subst (All (Within (λ a. a < n))) (sym (plain_rules_are ws n r d.header)) (plain_within ws n r d.header)

  -- the verdict of the store's own rules
  verdict_is : (b : ℕ) → stable_verdict n rules m b ≡ stable_verdict (decode ws).atoms (decode ws).rules m b
  verdict_is b = ap₂ (λ (k : ℕ) (l : List (Rule ℕ)). stable_verdict k l m b) (plain_atoms ws n r d.header) (plain_rules_are ws n r d.header)

  few : n ≤ walk_atoms
  few = plain_few ws n r d.header

  reduct_below : All (Within (λ a. a < n)) (reduct rules (has m))
  reduct_below = reduct_within n (has m) rules within

  pub kept_same : length (take kept wants) ≡ length (take kept cs)
  kept_same = sym kept_want_length ∙ kept_care_length

  pub kept_fit : length (take kept cs) ≤ rule_limit Plain
  kept_fit = omega (arith, kept_care_length, d.count, reduct_le rules, rules_length, plain_rules ws n r d.header)
    where
      reduct_le : (rs : List (Rule ℕ)) → length (reduct rs (has m)) ≤ length rs
      reduct_le [] = omega arith
      reduct_le (r ∷ rs) = step (is_keeping m r) (reduct_le rs)
        where
          step : (b : Bool) → length (reduct rs (has m)) ≤ length rs → length (keep b (bare r) (reduct rs (has m))) ≤ suc (length rs)
          step true h = omega arith
          step false h = omega arith

  pub kept_small : All (λ c. c < 2 ^ walk_atoms) (take kept cs)
  kept_small = subst (All (λ c. c < 2 ^ walk_atoms)) (sym d.care_front) (all_imp (λ c. c < 2 ^ n) (λ c. c < 2 ^ walk_atoms) (λ c l. omega (arith, pow_mono {i = n} {j = walk_atoms} few)) (map (care_at n) (reduct rules (has m))) (cares_lt n (reduct rules (has m)) reduct_below))

  module _ (q : ℕ) (at : q ≡ place n m) (i : ℕ) (e : i ≡ first_m q (take kept cs) (take kept wants)) where
    first_is : i ≡ first_broken (reduct rules (has m)) (has m)
    first_is = e ∙ ap₂ (first_m q) d.care_front d.want_front ∙ ap (λ (x : ℕ). first_m x (map (care_at n) (reduct rules (has m))) (map (want_at n) (reduct rules (has m)))) at ∙ first_at n (reduct rules (has m)) reduct_below (reduct_plain (has m) rules) m

    whole : first_broken rules (has m) ≡ marked_at i (map (is_keeping m) rules)
    whole = first_marked m rules ∙ ap (λ (k : ℕ). marked_at k (map (is_keeping m) rules)) (sym first_is)

    pub broken_ready : (b k : ℕ) → (i ≡ kept → ⊥) → k ≡ marked_at i (take r marks) → Broken k ≡ stable_verdict (decode ws).atoms (decode ws).rules m b
    unfolding stable_verdict stable_needs capped
    broken_ready b k ne f = stable_broken ∙ verdict_is b
      where
        k_is : k ≡ first_broken rules (has m)
        k_is = f ∙ ap (marked_at i) marks_front ∙ sym whole

        inside : i < length (reduct rules (has m))
        inside = omega (arith, first_le q (take kept cs) (take kept wants), kept_care_length, d.count)

        no_model : is_model rules (has m) ≡ false
        no_model = is_false (is_model rules (has m)) (λ t. omega (arith, whole, marked_inside m rules i inside, model_no_broken rules (has m) ((model_law rules (has m)).0 t)))

        stable_broken : Broken k ≡ stable_verdict n rules m b
        stable_broken = rw (k_is, no_model)

    pub walk_ready : (b : ℕ) (v u : Verdict) → m < 2 ^ (decode ws).atoms → i ≡ kept → SortedSearch (take kept cs) (take kept wants) n q b v → u ≡ verdict_at n v → u ≡ stable_verdict (decode ws).atoms (decode ws).rules m b
    unfolding stable_verdict
    walk_ready b v u inside z s told = stable_walked ∙ verdict_is b
      where
        all : i ≡ length (reduct rules (has m))
        all = z ∙ d.count

        model_reduct : T (is_model (reduct rules (has m)) (has m))
        model_reduct = (model_law (reduct rules (has m)) (has m)).1 (no_broken_model (reduct rules (has m)) (has m) (sym first_is ∙ all))

        model_all : T (is_model rules (has m))
        model_all = (model_law rules (has m)).1 (no_broken_model rules (has m) (whole ∙ ap (λ (k : ℕ). marked_at k (map (is_keeping m) rules)) all ∙ marked_all m rules))

        groups : GroupsOf (map (care_at n) (reduct rules (has m))) (map (want_at n) (reduct rules (has m))) s.care s.want s.starts
        groups = subst (λ (c : List ℕ). GroupsOf c (map (want_at n) (reduct rules (has m))) s.care s.want s.starts) d.care_front (subst (λ (w : List ℕ). GroupsOf (take kept cs) w s.care s.want s.starts) d.want_front s.groups)

        stable_walked : u ≡ stable_verdict n rules m b
        stable_walked =
            told ∙ ap (verdict_at n) s.verdict ∙ sym (capped_at n b (stable_m s.care s.want s.starts n q))
            ∙ ap (capped b) (ap (λ (p : ℕ). verdict_at n (stable_m s.care s.want s.starts n p)) at
            ∙ stable_masks n few rules m (subst (λ (k : ℕ). m < 2 ^ k) (sym (plain_atoms ws n r d.header)) inside) model_reduct (within_below n (reduct rules (has m)) reduct_below) (reduct_plain (has m) rules) s.care s.want s.starts groups model_all)
