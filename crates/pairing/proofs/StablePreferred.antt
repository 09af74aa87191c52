-- A stable set of the translation is the full set over its own part, and that part is preferred.
use Prim.Native.Nat.{ℕ, ◌-◌, ◌≤◌, ◌<◌}
use native.Mathlib.Omega.{arith}
use native.Mathlib.Decide.{ℕ_discrete}
use mathlib.Core.Path.{◌≡◌, refl, sym, subst}
use mathlib.Core.Bool.{Bool, false, not, ◌&&◌}
use mathlib.Core.Logic.{◌⊎◌, inl, inr}
use lib.Dec.{T, eqb, ltb, eqb→eq, eqb_refl, ltb→lt, lt→ltb}
use Rattle.rules.specs.Lists.{All, Any}
use Rattle.rules.specs.Sets.{has, In, Out}
use Rattle.rules.specs.Rules.{Rule, Holds, Model}
use Rattle.kinds.specs.Limits.{fixed}
use Rattle.rules.specs.Preferred.{OfClass, Beats, Preferred}
use Rattle.rules.proofs.Booleans.{stable, T_of, T_and, T-and-l, T-and-r, T-not-in, T-not-out, eq_to_eqb}
use Rattle.rules.proofs.Lists.{all_both, all_zip, any_zip, any_or_none}
use Rattle.stores.specs.Program.{Program}
use Rattle.pairing.specs.Atoms.{Atom, original, N, S, D, E, U, class_word, is_minimised, is_unminimised, is_fixed, is_unfixed, declared}
use Rattle.pairing.specs.Steps.{translation}
use Rattle.pairing.proofs.Fit.{Fit, Inside, fixed_or}
use Rattle.pairing.proofs.Asked.{Kept, Copied, Steps, to_steps, of_steps}
use Rattle.pairing.proofs.Numbering.{Declared, to_declared, of_declared}
use Rattle.pairing.proofs.Renamed.{StableOver}
use Rattle.pairing.proofs.FullSet.{Full}

-- t without N.a
abbrev without : ℕ → (Atom → Bool) → Atom → Bool
without a t (original b) = t (original b)
without a t (N b) = t (N b) && not (eqb a b)
without a t (S b) = t (S b)
without a t (D b) = t (D b)
without a t (E j) = t (E j)
without a t U = t U

-- the smaller model of the reduct that a set w gives, if it beats t's part in class i
abbrev smaller : Program → (Atom → Bool) → (ℕ → Bool) → ℕ → Atom → Bool
smaller p t w i (original a) = t (original a)
smaller p t w i (N a) = not (t (original a))
smaller p t w i (S a) = w a
smaller p t w i (D a) = (t (original a) && not (w a)) && eqb (class_word p a) i
smaller p t w i (E j) = ltb j i
smaller p t w i U = false

module _ (p : Program) (fit : Fit p) (t : Atom → Bool) (st : StableOver (declared p) (translation p) t) where
  steps : Steps p t t
  steps = to_steps p t t st.model

  least : (x : Atom → Bool) → Declared p (λ c. In x c → In t c) → (Declared p (λ c. In t c → In x c) → ⊥) → Steps p t x → ⊥
  least x sub strict s = st.minimal x (of_declared p (λ c. In x c → In t c) sub) (λ h. strict (to_declared p (λ c. In t c → In x c) h)) (of_steps p t x s)

  u_in : In t U
  u_in = stable (t U) steps.s10.1

  n_out : (a : ℕ) → a < p.atoms → In t (original a) → In t (N a) → ⊥
  n_out a l h k = least (without a t)
      (record {
        originals = λ b l h. h;
        Ns = λ b l h. T-and-l (t (N b)) (not (eqb a b)) h;
        Ss = λ b l u h. h;
        Ds = λ b l c h. h;
        Es = λ j l h. h;
        Us = λ h. h;
      })
      (λ d. T-not-out (eqb a a) (T-and-r (t (N a)) (not (eqb a a)) (d.Ns a l k)) (eqb_refl a))
      (record {
        s1 = λ b l. ((steps.s1 b l).0, λ o. T_and (t (N b)) (not (eqb a b)) ((steps.s1 b l).1 o) (T-not-in (eqb a b) (λ e. o (subst (λ (c : ℕ). In t (original c)) (eqb→eq a b e) h))));
        s2 = steps.s2;
        s3 = steps.s3;
        s4 = steps.s4;
        s5 = steps.s5;
        s6 = steps.s6;
        s7 = steps.s7;
        s8 = steps.s8;
        s9 = steps.s9;
        s10 = steps.s10;
      })

  -- m has the same original atoms
  module _ (m : ℕ) (same : (a : ℕ) → a < p.atoms → t (original a) ≡ has m a) where
    m_of : (a : ℕ) → a < p.atoms → In t (original a) → In (has m) a
    m_of a l = T_of (same a l)

    of_m : (a : ℕ) → a < p.atoms → In (has m) a → In t (original a)
    of_m a l = T_of (sym (same a l))

    pub is_full_lem : Full p (has m) t
    is_full_lem = record {
      originals = λ a l. (m_of a l, of_m a l);
      Ns = λ a l. (λ h k. n_out a l (of_m a l k) h, λ h. (steps.s1 a l).1 (λ k. h (m_of a l k)));
      Ss = λ a l u. steps.s7 a l u u_in;
      Ds = λ a l c. steps.s8 a l c u_in;
      Es = λ j l. steps.s9 j l u_in;
      Us = u_in;
    }

    model : Model p.rules (has m)
    model = all_zip (Kept p t t) (Inside p.atoms) (Holds (has m)) holds p.rules steps.s2 fit.rules
      where
        holds : (r : Rule ℕ) → Kept p t t r → Inside p.atoms r → Holds (has m) r
        holds r kept inside b n = step (any_or_none (has m) r.head)
          where
            step : Any (In (has m)) r.head ⊎ All (Out (has m)) r.head → Any (In (has m)) r.head
            step (inl k) = k
            step (inr k) = any_zip (λ a. a < p.atoms) (λ a. T (is_minimised p a) × In t (original a)) (In (has m)) (λ a g h. m_of a g h.1) r.head inside.head (kept
                (all_zip (λ a. a < p.atoms) (Out (has m)) (λ a. T (is_unminimised p a) → Out t (original a)) (λ a g k o i. k (m_of a g i)) r.head inside.head k)
                (all_zip (λ a. a < p.atoms) (In (has m)) (λ a. T (is_unminimised p a) → Out t (N a)) (λ a g k o. n_out a g (of_m a g k)) r.body inside.body b)
                (all_zip (λ a. a < p.atoms) (In (has m)) (λ a. T (is_minimised p a) → In t (original a)) (λ a g k c. of_m a g k) r.body inside.body b))

    module _ (s : ℕ) (b : Beats p.words p.rules s m) where
      abbrev x : Atom → Bool
      x = smaller p t (has s) b.class

      of_class_lem : (a i : ℕ) → a < p.atoms → class_word p a ≡ i → OfClass p.words i a
      of_class_lem a i l e = (let c = fit.count in omega arith, e)

      is_fixed_lem : (a : ℕ) → a < p.atoms → T (is_fixed p a) → OfClass p.words fixed a
      is_fixed_lem a l f = of_class_lem a fixed l (eqb→eq (class_word p a) fixed f)

      copied : (r : Rule ℕ) → Holds (has s) r → Inside p.atoms r → Copied p t x r
      copied r holds inside o u f = inl (any_zip (λ a. (a < p.atoms) × (T (is_fixed p a) → Out t (original a))) (In (has s)) (λ a. T (is_unfixed p a) × In (has s) a) (λ a g k. up a g.0 g.1 k (fixed_or p a)) r.head (all_both (λ a. a < p.atoms) (λ a. T (is_fixed p a) → Out t (original a)) r.head inside.head o) headed)
        where
          down : (a : ℕ) → a < p.atoms → (T (is_unfixed p a) → In (has s) a) → (T (is_fixed p a) → In t (original a)) → T (is_fixed p a) ⊎ T (is_unfixed p a) → In (has s) a
          down a l v w (inl k) = (b.agrees a (is_fixed_lem a l k)).1 (m_of a l (w k))
          down a l v w (inr k) = v k

          headed : Any (In (has s)) r.head
          headed = holds
              (all_zip (λ a. a < p.atoms) (λ a. (T (is_unfixed p a) → In (has s) a) × (T (is_fixed p a) → In t (original a))) (In (has s)) (λ a g k. down a g k.0 k.1 (fixed_or p a)) r.body inside.body (all_both (λ a. T (is_unfixed p a) → In (has s) a) (λ a. T (is_fixed p a) → In t (original a)) r.body u f))
              (subst (All (Out (has s))) (sym inside.nots) tt)

          up : (a : ℕ) → a < p.atoms → (T (is_fixed p a) → Out t (original a)) → In (has s) a → T (is_fixed p a) ⊎ T (is_unfixed p a) → T (is_unfixed p a) × In (has s) a
          up a l v h (inl k) = absurd (v k (of_m a l ((b.agrees a (is_fixed_lem a l k)).0 h)))
          up a l v h (inr k) = (k, h)

      D-original : (a : ℕ) → In x (D a) → In t (original a)
      D-original a h = T-and-l (t (original a)) (not (has s a)) (T-and-l (t (original a) && not (has s a)) (eqb (class_word p a) b.class) h)

      D-out : (a : ℕ) → In x (D a) → Out (has s) a
      D-out a h = T-not-out (has s a) (T-and-r (t (original a)) (not (has s a)) (T-and-l (t (original a) && not (has s a)) (eqb (class_word p a) b.class) h))

      class_step : (j : ℕ) → T (ltb (j - 1) b.class) → ((a : ℕ) × OfClass p.words j a × In x (D a)) ⊎ (In x (E j) ⊎ In x U)
      class_step j e = step (ℕ_discrete j b.class)
        where
          q : (a : ℕ) × OfClass p.words b.class a × In (has m) a × Out (has s) a
          q = b.proper

          inside : q.0 < p.atoms
          inside = let c = fit.count in let l = q.1.0 in omega arith

          step : Dec (j ≡ b.class) → ((a : ℕ) × OfClass p.words j a × In x (D a)) ⊎ (In x (E j) ⊎ In x U)
          step (yes k) = inl (q.0, subst (λ (i : ℕ). OfClass p.words i q.0) (sym k) q.1, T_and (t (original q.0) && not (has s q.0)) (eqb (class_word p q.0) b.class) (T_and (t (original q.0)) (not (has s q.0)) (of_m q.0 inside q.2) (T-not-in (has s q.0) q.3)) (eq_to_eqb (class_word p q.0) b.class q.1.1))
          step (no k) = inr (inl (lt→ltb j b.class (let h : j - 1 < b.class = ltb→lt (j - 1) b.class e in omega arith)))

      -- up to the class, s's atoms are t's
      upto : (a : ℕ) → a < p.atoms → class_word p a ≤ b.class → In (has s) a → In t (original a)
      upto a l c h = of_m a l (step (ℕ_discrete (class_word p a) b.class))
        where
          step : Dec (class_word p a ≡ b.class) → In (has m) a
          step (yes e) = b.subset a (of_class_lem a b.class l e) h
          step (no e) = (b.earlier (class_word p a) (fit.low a l) (omega arith) a (of_class_lem a (class_word p a) l refl)).0 h

      -- the class is one of the file's
      class_high : b.class ≤ p.classes
      class_high =
          let q = b.proper in
          let c = fit.count in
          let l : q.0 < p.atoms = let i = q.1.0 in omega arith in
          let e : class_word p q.0 ≡ b.class = q.1.1 in
          let h = fit.class q.0 l (let i = b.is_class_holds in omega arith) in
          omega arith

      x_steps : Steps p t x
      x_steps = record {
        s1 = λ a l. ((steps.s1 a l).0, λ o. T-not-in (t (original a)) o);
        s2 = steps.s2;
        s3 = all_zip (Holds (has s)) (Inside p.atoms) (Copied p t x) copied p.rules b.model fit.rules;
        s4 = inl (lt→ltb 0 b.class (let i = b.is_class_holds in omega arith));
        s5 = λ i l u. class_step i;
        s6 = λ a l c. (
          λ o d. absurd (o (D-original a d)),
          (
            λ d h. absurd (D-out a d h),
            (
              λ o e h. absurd (o (upto a l (let k : class_word p a - 1 < b.class = ltb→lt (class_word p a - 1) b.class e in omega arith) h)),
              λ o e. inl ((b.earlier (class_word p a) (fit.low a l) (ltb→lt (class_word p a) b.class e) a (of_class_lem a (class_word p a) l refl)).1 (m_of a l (stable (t (original a)) (λ k. o ((steps.s1 a l).1 k))))),
            ),
          ),
        );
        s7 = λ a l f u. absurd u;
        s8 = λ a l c u. absurd u;
        s9 = λ j l u. absurd u;
        s10 = (λ e. let k : p.classes < b.class = ltb→lt p.classes b.class e in absurd (omega (arith, class_high)), steps.s10.1);
      }

      unbeaten : ⊥
      unbeaten = least x
          (record {
            originals = λ a l h. h;
            Ns = λ a l h. (steps.s1 a l).1 (T-not-out (t (original a)) h);
            Ss = λ a l u h. steps.s7 a l u u_in;
            Ds = λ a l c h. steps.s8 a l c u_in;
            Es = λ j l h. steps.s9 j l u_in;
            Us = λ h. u_in;
          })
          (λ d. d.Us u_in) x_steps

    pub stable_preferred : Preferred p.words p.rules m
    stable_preferred = record { model = model; unbeaten = λ s l b. unbeaten s b }
