-- A model that lacks an atom of m of some class, and up to that class has no other atoms than m, beats m.
use Prim.Native.Nat.{ℕ, zero, suc, ◌≤◌, ◌<◌}
use mathlib.Core.Path.{◌≡◌, refl}
use mathlib.Core.List.{List}
use mathlib.Core.Bool.{Bool, not, ◌&&◌}
use mathlib.Core.Logic.{◌⊎◌, inl, inr}
use native.Mathlib.Omega.{arith}
use lib.Dec.{T, leb, ltb, leb→le, le→leb, ltb→lt, lt→ltb}
use lib.ListN.{length, get_or}
use Rattle.kinds.specs.Limits.{class_limit, fixed}
use Rattle.rules.specs.Lists.{All, Any, from}
use Rattle.rules.specs.Sets.{has, In, Out, Agree}
use Rattle.rules.specs.Rules.{Rule, Model}
use Rattle.rules.specs.Preferred.{OfClass, Beats}
use Rattle.rules.proofs.Booleans.{stable, T_and, T-and-l, T-and-r, T-not-in, T-not-out}
use Rattle.rules.proofs.Lists.{any_or_none, from_any, from_all}

module _ (ws : List ℕ) (s m : ℕ) where
  abbrev word : ℕ → ℕ
  word a = get_or ws a 0

  -- s lacks atom a of m
  pub record Lacking (a : ℕ) : Type 0 where
    pub inside : a < length ws
    pub is_class_holds : (1 ≤ word a) × (word a ≤ class_limit)
    pub of_m : In (has m) a
    pub missing : Out (has s) a
    pub within : (b : ℕ) → b < length ws → 1 ≤ word b → word b ≤ word a → In (has s) b → In (has m) b

  -- an atom of m of a class before c that s lacks
  abbrev is_earlier : ℕ → ℕ → Bool
  is_earlier c a = (has m a && not (has s a)) && (leb 1 (word a) && ltb (word a) c)

  earlier_iff : (c a : ℕ) → (T (is_earlier c a) → In (has m) a × Out (has s) a × (1 ≤ word a) × (word a < c)) × (In (has m) a → Out (has s) a → 1 ≤ word a → word a < c → T (is_earlier c a))
  earlier_iff c a = (
    λ t.
        let l = T-and-l (has m a && not (has s a)) (leb 1 (word a) && ltb (word a) c) t in
        let r = T-and-r (has m a && not (has s a)) (leb 1 (word a) && ltb (word a) c) t in (
          T-and-l (has m a) (not (has s a)) l,
          T-not-out (has s a) (T-and-r (has m a) (not (has s a)) l),
          leb→le 1 (word a) (T-and-l (leb 1 (word a)) (ltb (word a) c) r),
          ltb→lt (word a) c (T-and-r (leb 1 (word a)) (ltb (word a) c) r),
        ),
    λ h o l u. T_and (has m a && not (has s a)) (leb 1 (word a) && ltb (word a) c)
        (T_and (has m a) (not (has s a)) h (T-not-in (has s a) o))
        (T_and (leb 1 (word a)) (ltb (word a) c) (le→leb 1 (word a) l) (lt→ltb (word a) c u)),
  )

  module _ (rs : List (Rule ℕ)) (model : Model rs (has s)) (agrees : Agree (OfClass ws fixed) s m) where
    -- from the atom to one of the first class of which s lacks an atom
    first_lacking : (bound a : ℕ) → word a < bound → Lacking a → Beats ws rs s m
    first_lacking zero a b h = absurd (omega arith)
    first_lacking (suc bound) a b h = step (λ c. first_lacking bound c) (any_or_none (is_earlier (word a)) (from 0 (length ws)))
      where
        step : ((c : ℕ) → word c < bound → Lacking c → Beats ws rs s m)
            → Any (λ c. T (is_earlier (word a) c)) (from 0 (length ws)) ⊎ All (λ c. T (is_earlier (word a) c) → ⊥) (from 0 (length ws)) → Beats ws rs s m
        step next (inl k) =
            let q = from_any (λ c. T (is_earlier (word a) c)) 0 (length ws) k in
            let e = (earlier_iff (word a) q.0).0 q.3 in
            let u : word q.0 < word a = e.3 in
            let i = h.is_class_holds in
            next q.0 (omega arith) (record {
              inside = omega (arith, q.2);
              is_class_holds = (e.2, omega arith);
              of_m = e.0;
              missing = e.1;
              within = λ b l low v. h.within b l low (omega arith);
            })
        step next (inr k) = record {
          model = model;
          agrees = agrees;
          class = word a;
          is_class_holds = h.is_class_holds;
          earlier = λ j l u c o.
              let i = o.0 in
              let e : word c ≡ j = o.1 in (
                h.within c i (omega arith) (omega arith),
                λ t. stable (has s c) (λ n. from_all (λ c. T (is_earlier (word a) c) → ⊥) 0 (length ws) k c (omega arith) (omega arith) ((earlier_iff (word a) c).1 t n (omega arith) (omega arith))),
              );
          subset = λ c o.
              let e : word c ≡ word a = o.1 in
              h.within c o.0 (omega (arith, h.is_class_holds)) (omega arith);
          proper = (a, (h.inside, refl), h.of_m, h.missing);
        }

    pub lacking_beats : (a : ℕ) → Lacking a → Beats ws rs s m
    lacking_beats a = first_lacking (suc (word a)) a (omega arith)
