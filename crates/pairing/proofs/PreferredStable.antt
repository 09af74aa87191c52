-- The full set over a preferred set is stable.
use Prim.Native.Nat.{ℕ, zero, suc, ◌+◌, ◌-◌, ◌^◌, ◌≤◌, ◌<◌}
use native.Mathlib.Omega.{arith}
use native.Mathlib.Decide.{ℕ_discrete, dec_le}
use mathlib.Core.Path.{◌≡◌, refl, sym, subst, ◌∙◌}
use mathlib.Core.Bool.{Bool, true, false, not, ◌&&◌, cond}
use mathlib.Core.Logic.{◌⊎◌, inl, inr}
use lib.Dec.{T, leb→le}
use lib.ListN.{length}
use Rattle.rules.specs.Lists.{All, Any}
use Rattle.rules.specs.Sets.{has, In, Out, Agree}
use Rattle.rules.specs.Rules.{Rule, Holds, Model}
use Rattle.kinds.specs.Limits.{class_limit, fixed}
use Rattle.rules.specs.Preferred.{OfClass, Beats, Preferred}
use Rattle.rules.proofs.Booleans.{decide, stable, T_of, T_and, T-and-l, T-and-r, T-not-in, eq_to_eqb}
use Rattle.rules.proofs.Lists.{all_both, all_zip, any_zip, any_or_none}
use Rattle.rules.proofs.Sets.{set_of_lem}
use Rattle.rules.proofs.Lacking.{lacking_beats}
use Rattle.stores.specs.Program.{Program}
use Rattle.pairing.specs.Atoms.{Atom, original, N, S, D, E, U, class_word, is_minimised, is_unminimised, is_fixed, is_unfixed, declared}
use Rattle.pairing.specs.Steps.{translation}
use Rattle.rules.proofs.ListLaws.{all_each}
use Rattle.pairing.proofs.Fit.{Fit, Minimised, Inside, minimised_unfixed}
use Rattle.pairing.proofs.Asked.{Kept, Copied, Steps, to_steps, of_steps}
use Rattle.pairing.proofs.Numbering.{Declared, to_declared, of_declared}
use Rattle.pairing.proofs.Renamed.{StableOver}
use Rattle.pairing.proofs.FullSet.{Full}

cond_yes : (b u v : Bool) → T b → cond b u v ≡ u
cond_yes true u v h = refl
cond_yes false u v h = absurd h

cond_no : (b u v : Bool) → T (not b) → cond b u v ≡ v
cond_no true u v h = absurd h
cond_no false u v h = refl

module _ (p : Program) (fit : Fit p) (m : ℕ) (preferred : Preferred p.words p.rules m) (t : Atom → Bool) (full : Full p (has m) t) where
  in_m : (a : ℕ) → a < p.atoms → Out t (N a) → In (has m) a
  in_m a l o = stable (has m a) (λ e. o ((full.Ns a l).1 e))

  in_t : (a : ℕ) → a < p.atoms → In (has m) a → In t (original a)
  in_t a l = (full.originals a l).1

  kept : (r : Rule ℕ) → Holds (has m) r → Inside p.atoms r → Kept p t t r
  kept r holds inside o b c = any_zip (λ a. (a < p.atoms) × (T (is_unminimised p a) → Out t (original a))) (In (has m)) (λ a. T (is_minimised p a) × In t (original a)) (λ a g k. up a g.0 g.1 k (decide (is_minimised p a))) r.head
      (all_both (λ a. a < p.atoms) (λ a. T (is_unminimised p a) → Out t (original a)) r.head inside.head o)
      (holds
      (all_zip (λ a. a < p.atoms) (λ a. (T (is_unminimised p a) → Out t (N a)) × (T (is_minimised p a) → In t (original a))) (In (has m)) (λ a g k. down a g k.0 k.1 (decide (is_minimised p a))) r.body inside.body (all_both (λ a. T (is_unminimised p a) → Out t (N a)) (λ a. T (is_minimised p a) → In t (original a)) r.body b c))
      (subst (All (Out (has m))) (sym inside.nots) tt))
    where
      up : (a : ℕ) → a < p.atoms → (T (is_unminimised p a) → Out t (original a)) → In (has m) a → T (is_minimised p a) ⊎ (T (is_minimised p a) → ⊥) → T (is_minimised p a) × In t (original a)
      up a l v h (inl k) = (k, in_t a l h)
      up a l v h (inr k) = absurd (v (T-not-in (is_minimised p a) k) (in_t a l h))

      down : (a : ℕ) → a < p.atoms → (T (is_unminimised p a) → Out t (N a)) → (T (is_minimised p a) → In t (original a)) → T (is_minimised p a) ⊎ (T (is_minimised p a) → ⊥) → In (has m) a
      down a l v w (inl k) = (full.originals a l).0 (w k)
      down a l v w (inr k) = in_m a l (v (T-not-in (is_minimised p a) k))

  full_steps : Steps p t t
  full_steps = record {
    s1 = λ a l. (
      λ c o. in_t a l (in_m a l o),
      λ o. (full.Ns a l).1 (λ e. o ((full.originals a l).1 e)),
    );
    s2 = all_zip (Holds (has m)) (Inside p.atoms) (Kept p t t) kept p.rules preferred.model fit.rules;
    s3 = all_each (Copied p t t) (λ r o u e. inr full.Us) p.rules;
    s4 = inr full.Us;
    s5 = λ i l u e. inr (inr full.Us);
    s6 = λ a l c. (λ o d. full.Us, (λ d h. full.Us, (λ o e h. full.Us, λ o e. inr full.Us)));
    s7 = λ a l k u. full.Ss a l k;
    s8 = λ a l c u. full.Ds a l c;
    s9 = λ j l u. full.Es j l;
    s10 = (λ e. full.Us, λ o. o full.Us);
  }

  module _ (x : Atom → Bool) (sub : Declared p (λ c. In x c → In t c)) (strict : Declared p (λ c. In t c → In x c) → ⊥) (steps : Steps p t x) where
    -- x's own atoms of the file: m's, but for minimised ones that x may lack
    own : ℕ
    own = (set_of_lem p.atoms (λ a. x (original a))).0

    on_own : (a : ℕ) → a < p.atoms → has own a ≡ x (original a)
    unfolding own
    on_own a l = (set_of_lem p.atoms (λ a. x (original a))).2 a l

    own_m : (a : ℕ) → a < p.atoms → In x (original a) → In (has m) a
    own_m a l h = (full.originals a l).0 (sub.originals a l h)

    other_in : (a : ℕ) → a < p.atoms → T (is_unminimised p a) → In (has m) a → In x (original a)
    other_in a l o h = (steps.s1 a l).0 o (λ k. (full.Ns a l).0 k h)

    own_holds : (r : Rule ℕ) → Kept p t x r → Inside p.atoms r → Holds (has own) r
    own_holds r kept inside b n = step (any_or_none (λ a. is_unminimised p a && has m a) r.head)
      where
        step : Any (λ a. T (is_unminimised p a && has m a)) r.head ⊎ All (λ a. T (is_unminimised p a && has m a) → ⊥) r.head → Any (In (has own)) r.head
        step (inl k) = any_zip (λ a. a < p.atoms) (λ a. T (is_unminimised p a && has m a)) (In (has own)) (λ a l h. T_of (sym (on_own a l)) (other_in a l (T-and-l (is_unminimised p a) (has m a) h) (T-and-r (is_unminimised p a) (has m a) h))) r.head inside.head k
        step (inr k) = any_zip (λ a. a < p.atoms) (λ a. T (is_minimised p a) × In x (original a)) (In (has own)) (λ a l h. T_of (sym (on_own a l)) h.1) r.head inside.head (kept
            (all_zip (λ a. a < p.atoms) (λ a. T (is_unminimised p a && has m a) → ⊥) (λ a. T (is_unminimised p a) → Out t (original a)) (λ a l h o e. h (T_and (is_unminimised p a) (has m a) o ((full.originals a l).0 e))) r.head inside.head k)
            (all_zip (λ a. a < p.atoms) (In (has own)) (λ a. T (is_unminimised p a) → Out t (N a)) (λ a l h o e. (full.Ns a l).0 e (own_m a l (T_of (on_own a l) h))) r.body inside.body b)
            (all_zip (λ a. a < p.atoms) (In (has own)) (λ a. T (is_minimised p a) → In x (original a)) (λ a l h c. T_of (on_own a l) h) r.body inside.body b))

    -- a set of the file's atoms is one of the atoms with class words
    in_range : (y : ℕ) → y < 2 ^ p.atoms → y < 2 ^ length p.words
    in_range y l = subst (λ (c : ℕ). y < 2 ^ c) (sym fit.count) l

    own_lt : own < 2 ^ length p.words
    unfolding own
    own_lt = in_range (set_of_lem p.atoms (λ a. x (original a))).0 (set_of_lem p.atoms (λ a. x (original a))).1

    inside_words : (a : ℕ) → a < length p.words → a < p.atoms
    inside_words a l = let e = fit.count in omega arith

    own_model : Model p.rules (has own)
    own_model = all_zip (Kept p t x) (Inside p.atoms) (Holds (has own)) own_holds p.rules steps.s2 fit.rules

    own_fixed : Agree (OfClass p.words fixed) own m
    own_fixed a c =
        let l = inside_words a c.0 in
        let e : class_word p a ≡ fixed = c.1 in
        let o = T-not-in (is_minimised p a) (λ u. let v = leb→le (class_word p a) class_limit u in omega arith) in
        (λ h. own_m a l (T_of (on_own a l) h), λ h. T_of (sym (on_own a l)) (other_in a l o h))

    -- m's minimised part is the least that step 2 supports: x's own atoms, were one missing, would beat m
    least : (a : ℕ) → a < p.atoms → Minimised p a → In (has m) a → In x (original a)
    least a l c h = stable (x (original a)) (λ o. preferred.unbeaten own own_lt (lacking_beats p.words own m p.rules own_model own_fixed a (record {
      inside = omega (arith, fit.count);
      is_class_holds = (fit.low a l, c);
      of_m = h;
      missing = λ g. o (T_of (on_own a l) g);
      within = λ b k low u g. let i = inside_words b k in own_m b i (T_of (on_own b i) g);
    })))

    original_in : (a : ℕ) → a < p.atoms → In (has m) a → In x (original a)
    original_in a l h = step (dec_le (class_word p a) class_limit)
      where
        step : Dec (Minimised p a) → In x (original a)
        step (yes c) = least a l c h
        step (no c) = other_in a l (T-not-in (is_minimised p a) (λ u. c (leb→le (class_word p a) class_limit u))) h

    no_U : In x U → ⊥
    no_U u = strict (record {
      originals = λ a l h. original_in a l ((full.originals a l).0 h);
      Ns = λ a l h. (steps.s1 a l).1 (λ k. (full.Ns a l).0 h ((full.originals a l).0 k));
      Ss = λ a l k h. steps.s7 a l k u;
      Ds = λ a l c h. steps.s8 a l c u;
      Es = λ j l h. steps.s9 j l u;
      Us = λ h. u;
    })

    without_U : {A : Type 0} → A ⊎ In x U → A
    without_U (inl h) = h
    without_U (inr u) = absurd (no_U u)

    -- the set that would beat m: m's fixed atoms, and the atoms whose copies are in x
    w : ℕ → Bool
    w a = cond (is_fixed p a) (has m a) (x (S a))

    s : ℕ
    s = (set_of_lem p.atoms w).0

    on_fixed : (a : ℕ) → a < p.atoms → T (is_fixed p a) → has s a ≡ has m a
    unfolding s w
    on_fixed a l e = (set_of_lem p.atoms w).2 a l ∙ cond_yes (is_fixed p a) (has m a) (x (S a)) e

    on_unfixed : (a : ℕ) → a < p.atoms → T (is_unfixed p a) → has s a ≡ x (S a)
    unfolding s w
    on_unfixed a l e = (set_of_lem p.atoms w).2 a l ∙ cond_no (is_fixed p a) (has m a) (x (S a)) e

    s_holds : (r : Rule ℕ) → Copied p t x r → Inside p.atoms r → Holds (has s) r
    s_holds r copied inside b n = step (any_or_none (λ a. is_fixed p a && has m a) r.head)
      where
        copies : All (λ a. T (is_unfixed p a) → In x (S a)) r.body
        copies = all_zip (λ a. a < p.atoms) (In (has s)) (λ a. T (is_unfixed p a) → In x (S a)) (λ a l h e. T_of (on_unfixed a l e) h) r.body inside.body b

        themselves : All (λ a. T (is_fixed p a) → In x (original a)) r.body
        themselves = all_zip (λ a. a < p.atoms) (In (has s)) (λ a. T (is_fixed p a) → In x (original a)) (λ a l h e. original_in a l (T_of (on_fixed a l e) h)) r.body inside.body b

        step : Any (λ a. T (is_fixed p a && has m a)) r.head ⊎ All (λ a. T (is_fixed p a && has m a) → ⊥) r.head → Any (In (has s)) r.head
        step (inl k) = any_zip (λ a. a < p.atoms) (λ a. T (is_fixed p a && has m a)) (In (has s)) (λ a l h. T_of (sym (on_fixed a l (T-and-l (is_fixed p a) (has m a) h))) (T-and-r (is_fixed p a) (has m a) h)) r.head inside.head k
        step (inr k) = any_zip (λ a. a < p.atoms) (λ a. T (is_unfixed p a) × In x (S a)) (In (has s)) (λ a l h. T_of (sym (on_unfixed a l h.0)) h.1) r.head inside.head
            (without_U (copied
            (all_zip (λ a. a < p.atoms) (λ a. T (is_fixed p a && has m a) → ⊥) (λ a. T (is_fixed p a) → Out t (original a)) (λ a l h e o. h (T_and (is_fixed p a) (has m a) e ((full.originals a l).0 o))) r.head inside.head k)
            copies themselves))

    s_model : Model p.rules (has s)
    s_model = all_zip (Copied p t x) (Inside p.atoms) (Holds (has s)) s_holds p.rules steps.s3 fit.rules

    -- x has E.0 to E.j, and D. of an atom of class j + 1: s beats m
    module _ (j : ℕ) (ends : (i : ℕ) → i ≤ j → In x (E i)) (high : suc j ≤ p.classes) where
      inside_of : (a i : ℕ) → OfClass p.words i a → a < p.atoms
      inside_of a i c = inside_words a c.0

      m_of : (a i : ℕ) → OfClass p.words i a → i ≤ suc j → In (has s) a → In (has m) a
      m_of a i c l h =
          let n = inside_of a i c in
          let e : class_word p a ≡ i = c.1 in
          let k : Minimised p a = omega (arith, fit.classes) in
          stable (has m a) (λ o. no_U ((steps.s6 a n k).1.1.0 (λ d. o ((full.originals a n).0 d)) (ends (class_word p a - 1) (omega arith)) (T_of (on_unfixed a n (minimised_unfixed p a k)) h)))

      of_m : (a i : ℕ) → OfClass p.words i a → i ≤ j → In (has m) a → In (has s) a
      of_m a i c l h =
          let n = inside_of a i c in
          let e : class_word p a ≡ i = c.1 in
          let k : Minimised p a = omega (arith, fit.classes) in
          T_of (sym (on_unfixed a n (minimised_unfixed p a k))) (without_U ((steps.s6 a n k).1.1.1 (λ d. (full.Ns a n).0 d h) (ends (class_word p a) (omega arith))))

      beaten : (a : ℕ) × OfClass p.words (suc j) a × In x (D a) → Beats p.words p.rules s m
      beaten q =
          let n = inside_of q.0 (suc j) q.1 in
          let e : class_word p q.0 ≡ suc j = q.1.1 in
          let k : Minimised p q.0 = omega (arith, fit.classes) in
          record {
            model = s_model;
            agrees = λ a c. let f = on_fixed a (inside_of a fixed c) (eq_to_eqb (class_word p a) fixed c.1) in (T_of f, T_of (sym f));
            class = suc j;
            is_class_holds = (omega arith, omega (arith, fit.classes));
            earlier = λ i l u a c. (m_of a i c (omega arith), of_m a i c (omega arith));
            subset = λ a c. m_of a (suc j) c (omega arith);
            proper = (
              q.0,
              q.1,
              stable (has m q.0) (λ o. no_U ((steps.s6 q.0 n k).0 (λ d. o ((full.originals q.0 n).0 d)) q.2)),
              λ h. no_U ((steps.s6 q.0 n k).1.0 q.2 (T_of (on_unfixed q.0 n (minimised_unfixed p q.0 k)) h)),
            );
          }

    s_lt : s < 2 ^ length p.words
    unfolding s
    s_lt = in_range (set_of_lem p.atoms w).0 (set_of_lem p.atoms w).1

    -- the first class without its E., or U after the last
    walk : (c j : ℕ) → j + c ≡ p.classes → ((i : ℕ) → i ≤ j → In x (E i)) → ⊥
    walk zero j e h = no_U (steps.s10.0 (h p.classes (omega arith)))
    walk (suc c) j e h = step (λ h'. walk c (suc j) (omega arith) h') (steps.s5 (suc j) (omega arith) high (h (suc j - 1) (omega arith)))
      where
        high : suc j ≤ p.classes
        high = omega arith

        more : In x (E (suc j)) → (i : ℕ) → Dec (suc j ≡ i) → i ≤ suc j → In x (E i)
        more k i (yes e') l = subst (λ (q : ℕ). In x (E q)) e' k
        more k i (no e') l = h i (omega arith)

        step : (((i : ℕ) → i ≤ suc j → In x (E i)) → ⊥) → ((a : ℕ) × OfClass p.words (suc j) a × In x (D a)) ⊎ (In x (E (suc j)) ⊎ In x U) → ⊥
        step next (inl q) = preferred.unbeaten s s_lt (beaten j h high q)
        step next (inr (inl k)) = next (λ i. more k i (ℕ_discrete (suc j) i))
        step next (inr (inr u)) = no_U u

    none_smaller : ⊥
    none_smaller = walk p.classes 0 (omega arith) (λ i l. subst (λ (q : ℕ). In x (E q)) (omega arith) (without_U steps.s4))

  pub preferred_stable : StableOver (declared p) (translation p) t
  preferred_stable = record {
    model = of_steps p t t full_steps;
    minimal = λ x sub strict asks. none_smaller x (to_declared p (λ c. In x c → In t c) sub) (λ d. strict (of_declared p (λ c. In t c → In x c) d)) (to_steps p t x asks);
  }
