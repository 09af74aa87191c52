-- The tests of better and preferred sets are their definitions; what a reader expects of preferred sets.
use Prim.Native.Nat.{ℕ, zero, suc, ◌+◌, ◌^◌, ◌≤◌, ◌<◌}
use mathlib.Core.Path.{◌≡◌, sym, subst, ◌∙◌}
use mathlib.Core.List.{List}
use mathlib.Core.Bool.{Bool, true, false, not, ◌&&◌, ◌||◌}
use mathlib.Core.Logic.{◌⊎◌, inl, inr, ◌↔◌}
use native.Mathlib.Omega.{arith}
use native.Mathlib.Decide.{ℕ_discrete}
use lib.Dec.{T, eqb, eqb→eq}
use lib.ListN.{length, get_or}
use Rattle.kinds.specs.Limits.{class_limit, fixed}
use Rattle.rules.specs.Lists.{All, Any, every, from}
use Rattle.rules.specs.Sets.{has, In, Out, ProperSubset, Agree}
use Rattle.rules.specs.Rules.{Rule, Model, is_model}
use Rattle.rules.specs.Preferred.{OfClass, Beats, Preferred, of_class, is_same, are_agreeing, is_within, is_sparing, is_beating, is_preferred}
use Rattle.rules.proofs.Booleans.{stable, bool_ext, eq_to_eqb, T_and, T-and-l, T-and-r, T-or, T-or-out, T-not-in, T-not-out, T-imp, T-imp-out}
use Rattle.rules.proofs.Lists.{every_all, every_from, all_from, from_all, all_filter, filter_all, any_from, from_any, any_filter, filter_any, any_or_none}
use Rattle.rules.proofs.Sets.{has_below, same_set}
use Rattle.rules.proofs.Rules.{model_law}
use Rattle.rules.proofs.Stable.{proper_lt}

-- agreement is an equivalence

pub agree_refl : (P : ℕ → Type 0) (x : ℕ) → Agree P x x
agree_refl P x a p = (λ h. h, λ h. h)

pub agree_sym : (P : ℕ → Type 0) (x y : ℕ) → Agree P x y → Agree P y x
agree_sym P x y h a p = ((h a p).1, (h a p).0)

pub agree_trans : (P : ℕ → Type 0) (x y z : ℕ) → Agree P x y → Agree P y z → Agree P x z
agree_trans P x y z h k a p = (λ t. (k a p).0 ((h a p).0 t), λ t. (h a p).1 ((k a p).1 t))

-- the atoms of a class, as a list

module _ (ws : List ℕ) (w : ℕ) (P : ℕ → Type 0) where
  pub all_of_class : All P (of_class ws w) ↔ ((a : ℕ) → OfClass ws w a → P a)
  all_of_class = (
    λ h a c. from_all (λ a. T (eqb (get_or ws a 0) w) → P a) 0 (length ws) (filter_all P (λ a. eqb (get_or ws a 0) w) (from 0 (length ws)) h) a (omega arith) (omega (arith, c.0)) (eq_to_eqb (get_or ws a 0) w c.1),
    λ h. all_filter P (λ a. eqb (get_or ws a 0) w) (from 0 (length ws)) (all_from (λ a. T (eqb (get_or ws a 0) w) → P a) 0 (length ws) (λ a l u t. h a (omega arith, eqb→eq (get_or ws a 0) w t))),
  )

  pub any_of_class : Any P (of_class ws w) ↔ ((a : ℕ) × OfClass ws w a × P a)
  any_of_class = (
    λ h.
        let q = from_any (λ a. T (eqb (get_or ws a 0) w) × P a) 0 (length ws) (filter_any P (λ a. eqb (get_or ws a 0) w) (from 0 (length ws)) h) in
        (q.0, (omega arith, eqb→eq (get_or ws q.0 0) w q.3.0), q.3.1),
    λ q. any_filter P (λ a. eqb (get_or ws a 0) w) (from 0 (length ws)) (any_from (λ a. T (eqb (get_or ws a 0) w) × P a) 0 (length ws) q.0 (omega arith) (omega (arith, q.1.0)) (eq_to_eqb (get_or ws q.0 0) w q.1.1, q.2)),
  )

same_law : (a b : Bool) → T (is_same a b) ↔ (T a ↔ T b)
same_law true true = (λ h. (λ t. t, λ t. t), λ h. tt)
same_law true false = (λ h. absurd h, λ h. h.0 tt)
same_law false true = (λ h. absurd h, λ h. h.1 tt)
same_law false false = (λ h. (λ t. t, λ t. t), λ h. tt)

module _ (ws : List ℕ) (s m : ℕ) where
  pub agree_law : (w : ℕ) → T (are_agreeing (of_class ws w) s m) ↔ Agree (OfClass ws w) s m
  agree_law w =
      let test = every_all (λ a. is_same (has s a) (has m a)) (λ a. In (has s) a ↔ In (has m) a) (λ a. same_law (has s a) (has m a)) (of_class ws w) in
      let atoms = all_of_class ws w (λ a. In (has s) a ↔ In (has m) a) in
      (λ h. atoms.0 (test.0 h), λ h. test.1 (atoms.1 h))

  abbrev pub Part : ℕ → Type 0
  Part w = (a : ℕ) → OfClass ws w a → In (has s) a → In (has m) a

  pub within_law : (w : ℕ) → T (is_within (of_class ws w) s m) ↔ Part w
  within_law w =
      let test = every_all (λ a. not (has s a) || has m a) (λ a. In (has s) a → In (has m) a) (λ a. (T-imp-out (has s a) (has m a), T-imp (has s a) (has m a))) (of_class ws w) in
      let atoms = all_of_class ws w (λ a. In (has s) a → In (has m) a) in
      (λ h. atoms.0 (test.0 h), λ h. test.1 (atoms.1 h))

  abbrev Missing : ℕ → Type 0
  Missing w = (a : ℕ) × OfClass ws w a × In (has m) a × Out (has s) a

  -- a part that differs lacks an atom
  lacks : (w : ℕ) → Part w → (Agree (OfClass ws w) s m → ⊥) → Missing w
  lacks w p d = step (any_or_none (λ a. has m a && not (has s a)) (of_class ws w))
    where
      step : Any (λ a. T (has m a && not (has s a))) (of_class ws w) ⊎ All (λ a. T (has m a && not (has s a)) → ⊥) (of_class ws w) → Missing w
      step (inl h) =
          let q = (any_of_class ws w (λ a. T (has m a && not (has s a)))).0 h in
          (q.0, q.1, T-and-l (has m q.0) (not (has s q.0)) q.2, T-not-out (has s q.0) (T-and-r (has m q.0) (not (has s q.0)) q.2))
      step (inr h) = absurd (d (λ a c. (p a c, λ t. stable (has s a) (λ o. (all_of_class ws w (λ a. T (has m a && not (has s a)) → ⊥)).0 h a c (T_and (has m a) (not (has s a)) t (T-not-in (has s a) o))))))

  -- the classes from lo on, c of them
  pub record Spares (lo c : ℕ) : Type 0 where
    pub class : ℕ
    pub among : (lo ≤ class) × (class < lo + c)
    pub earlier : (j : ℕ) → lo ≤ j → j < class → Agree (OfClass ws j) s m
    pub subset : Part class
    pub proper : Missing class

  abbrev is_here : ℕ → Bool
  is_here w = is_within (of_class ws w) s m && not (are_agreeing (of_class ws w) s m)

  spares_there : (lo c : ℕ) → T (is_sparing ws (from lo c) s m) → Spares lo c
  spares_there lo zero h = absurd h
  spares_there lo (suc c) h = step (spares_there (suc lo) c) (T-or-out (is_here lo) (are_agreeing (of_class ws lo) s m && is_sparing ws (from (suc lo) c) s m) h)
    where
      step : (T (is_sparing ws (from (suc lo) c) s m) → Spares (suc lo) c) → T (is_here lo) ⊎ T (are_agreeing (of_class ws lo) s m && is_sparing ws (from (suc lo) c) s m) → Spares lo (suc c)
      step rest (inl k) =
          let p = (within_law lo).0 (T-and-l (is_within (of_class ws lo) s m) (not (are_agreeing (of_class ws lo) s m)) k) in
          record {
            class = lo;
            among = (omega arith, omega arith);
            earlier = λ j l u. absurd (omega arith);
            subset = p;
            proper = lacks lo p (λ e. T-not-out (are_agreeing (of_class ws lo) s m) (T-and-r (is_within (of_class ws lo) s m) (not (are_agreeing (of_class ws lo) s m)) k) ((agree_law lo).1 e));
          }
      step rest (inr k) =
          let r = rest (T-and-r (are_agreeing (of_class ws lo) s m) (is_sparing ws (from (suc lo) c) s m) k) in
          record {
            class = r.class;
            among = let b = r.among in (omega arith, omega arith);
            earlier = λ j l u. first ((agree_law lo).0 (T-and-l (are_agreeing (of_class ws lo) s m) (is_sparing ws (from (suc lo) c) s m) k)) r.earlier j l u (ℕ_discrete lo j);
            subset = r.subset;
            proper = r.proper;
          }
        where
          first : {b : ℕ} → Agree (OfClass ws lo) s m → ((j : ℕ) → suc lo ≤ j → j < b → Agree (OfClass ws j) s m) → (j : ℕ) → lo ≤ j → j < b → Dec (lo ≡ j) → Agree (OfClass ws j) s m
          first e f j l u (yes q) = subst (λ (i : ℕ). Agree (OfClass ws i) s m) q e
          first e f j l u (no q) = f j (omega arith) u

  spares_back : (lo c : ℕ) → Spares lo c → T (is_sparing ws (from lo c) s m)
  spares_back lo zero h = let b = h.among in absurd (omega arith)
  spares_back lo (suc c) h = T-or (is_here lo) (are_agreeing (of_class ws lo) s m && is_sparing ws (from (suc lo) c) s m) (step (spares_back (suc lo) c) (ℕ_discrete lo h.class))
    where
      q : Missing h.class
      q = h.proper

      step : (Spares (suc lo) c → T (is_sparing ws (from (suc lo) c) s m)) → Dec (lo ≡ h.class) → T (is_here lo) ⊎ T (are_agreeing (of_class ws lo) s m && is_sparing ws (from (suc lo) c) s m)
      step rest (yes e) = inl (T_and (is_within (of_class ws lo) s m) (not (are_agreeing (of_class ws lo) s m))
          ((within_law lo).1 (subst Part (sym e) h.subset))
          (T-not-in (are_agreeing (of_class ws lo) s m) (λ t. q.3 ((subst (λ (i : ℕ). Agree (OfClass ws i) s m) e ((agree_law lo).0 t) q.0 q.1).1 q.2))))
      step rest (no e) = inr (T_and (are_agreeing (of_class ws lo) s m) (is_sparing ws (from (suc lo) c) s m)
          ((agree_law lo).1 (h.earlier lo (omega arith) (let b = h.among in omega arith)))
          (rest (record {
            class = h.class;
            among = let b = h.among in (omega arith, omega arith);
            earlier = λ j l u. h.earlier j (omega arith) u;
            subset = h.subset;
            proper = h.proper;
          })))

  pub spares_law : (lo c : ℕ) → T (is_sparing ws (from lo c) s m) ↔ Spares lo c
  spares_law lo c = (spares_there lo c, spares_back lo c)

module _ (ws : List ℕ) (rs : List (Rule ℕ)) where
  pub beats_law : (s m : ℕ) → T (is_beating ws rs s m) ↔ Beats ws rs s m
  beats_law s m = (
    λ h.
        let rest : T (are_agreeing (of_class ws fixed) s m && is_sparing ws (from 1 class_limit) s m) = T-and-r (is_model rs (has s)) (are_agreeing (of_class ws fixed) s m && is_sparing ws (from 1 class_limit) s m) h in
        let sp : Spares ws s m 1 class_limit = (spares_law ws s m 1 class_limit).0 (T-and-r (are_agreeing (of_class ws fixed) s m) (is_sparing ws (from 1 class_limit) s m) rest) in
        record {
          model = (model_law rs (has s)).0 (T-and-l (is_model rs (has s)) (are_agreeing (of_class ws fixed) s m && is_sparing ws (from 1 class_limit) s m) h);
          agrees = (agree_law ws s m fixed).0 (T-and-l (are_agreeing (of_class ws fixed) s m) (is_sparing ws (from 1 class_limit) s m) rest);
          class = sp.class;
          is_class_holds = let b = sp.among in (omega arith, omega arith);
          earlier = sp.earlier;
          subset = sp.subset;
          proper = sp.proper;
        },
    λ b. T_and (is_model rs (has s)) (are_agreeing (of_class ws fixed) s m && is_sparing ws (from 1 class_limit) s m) ((model_law rs (has s)).1 b.model)
        (T_and (are_agreeing (of_class ws fixed) s m) (is_sparing ws (from 1 class_limit) s m) ((agree_law ws s m fixed).1 b.agrees)
        ((spares_law ws s m 1 class_limit).1 (record {
          class = b.class;
          among = let c = b.is_class_holds in (omega arith, omega arith);
          earlier = b.earlier;
          subset = b.subset;
          proper = b.proper;
        }))),
  )

  pub preferred_law : (m : ℕ) → T (is_preferred ws rs m) ↔ Preferred ws rs m
  preferred_law m = (
    λ h. record {
      model = (model_law rs (has m)).0 (T-and-l (is_model rs (has m)) none h);
      unbeaten = λ s l b. law.0 (T-and-r (is_model rs (has m)) none h) s (omega arith) (omega arith) b;
    },
    λ h. T_and (is_model rs (has m)) none ((model_law rs (has m)).1 h.model) (law.1 (λ s l u b. h.unbeaten s (omega arith) b)),
  )
    where
      none : Bool
      none = every (λ s. not (is_beating ws rs s m)) (from 0 (2 ^ length ws))

      law : T none ↔ ((s : ℕ) → 0 ≤ s → s < 0 + 2 ^ length ws → Beats ws rs s m → ⊥)
      law = every_from (λ s. not (is_beating ws rs s m)) (λ s. Beats ws rs s m → ⊥) (λ s. (λ h b. T-not-out (is_beating ws rs s m) h ((beats_law s m).1 b), λ h. T-not-in (is_beating ws rs s m) (λ t. h ((beats_law s m).0 t)))) 0 (2 ^ length ws)

  pub preferred_model : (m : ℕ) → Preferred ws rs m → Model rs (has m)
  preferred_model m h = h.model

  -- with one class and no other atoms, preferred is subset-minimal among the models
  pub record Minimal (m : ℕ) : Type 0 where
    pub model : Model rs (has m)
    pub least : (s : ℕ) → ProperSubset s m → Model rs (has s) → ⊥

  module _ (one : (a : ℕ) → a < length ws → get_or ws a 0 ≡ 1) (m : ℕ) (small : m < 2 ^ length ws) where
    preferred_minimal : Preferred ws rs m → Minimal m
    preferred_minimal h = record { model = h.model; least = λ s p k. h.unbeaten s (below s p) (beaten s p k) }
      where
        below : (s : ℕ) → ProperSubset s m → s < 2 ^ length ws
        below s p = omega (arith, proper_lt s m p)

        first : (s : ℕ) → ProperSubset s m → Missing ws s m 1
        first s p = lacks ws s m 1 (λ a c. p.subset a) (λ e. p.differs (same_set (length ws) s m (below s p) small (λ i l. bool_ext (has s i) (has m i) (e i (l, one i l)).0 (e i (l, one i l)).1)))

        beaten : (s : ℕ) → ProperSubset s m → Model rs (has s) → Beats ws rs s m
        beaten s p k = record {
          model = k;
          agrees = λ a c. absurd (let e = one a c.0 in let q = c.1 in omega arith);
          class = 1;
          is_class_holds = (omega arith, omega arith);
          earlier = λ j l u. absurd (omega arith);
          subset = λ a c. p.subset a;
          proper = first s p;
        }

    minimal_preferred : Minimal m → Preferred ws rs m
    minimal_preferred h = record { model = h.model; unbeaten = λ s l b. h.least s (proper s l b) b.model }
      where
        proper : (s : ℕ) → s < 2 ^ length ws → Beats ws rs s m → ProperSubset s m
        proper s l b =
            let q = b.proper in
            let class-one : b.class ≡ 1 = let e = q.1.1 in let o = one q.0 q.1.0 in omega arith in
            record {
              subset = λ a t. let al = has_below (length ws) s a l t in b.subset a (al, one a al ∙ sym class-one) t;
              differs = λ e. q.3 (subst (λ (x : ℕ). T (has x q.0)) (sym e) q.2);
            }

    pub preferred_iff_minimal : Preferred ws rs m ↔ Minimal m
    preferred_iff_minimal = (preferred_minimal, minimal_preferred)
