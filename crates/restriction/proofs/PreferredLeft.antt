-- The preferred sets of what is left are those of all atoms, cut to what is left.
use Prim.Native.Nat.{ℕ, ◌^◌, ◌≤◌, ◌<◌}
use mathlib.Core.Path.{◌≡◌, refl, sym, ap, subst, ◌∙◌}
use mathlib.Core.List.{List, [], ◌∷◌, map}
use mathlib.Core.Bool.{Bool, true, false, not, cond, ◌&&◌}
use mathlib.Core.Logic.{◌⊎◌, inl, inr, ◌↔◌}
use native.Mathlib.Omega.{arith}
use lib.Dec.{T, eqb, eqb→eq, eqb_refl}
use lib.ListN.{length, get_or, length-map}
use Rattle.kinds.specs.Limits.{class_limit, fixed}
use Rattle.rules.specs.Sets.{has, In, Out, Agree}
use Rattle.rules.specs.Rules.{Rule, Model}
use Rattle.rules.specs.Preferred.{OfClass, Beats, Preferred}
use Rattle.rules.proofs.Booleans.{decide, T_of, T_and, T-and-l, T-and-r, T-not-in, T-not-out, bool_ext, is_true_lem, is_false}
use Rattle.rules.proofs.Lists.{map_at}
use Rattle.rules.proofs.Sets.{digit, number, number_lt, has_number, set_of_lem, same_set}
use Rattle.rules.proofs.Lacking.{lacking_beats}
use Rattle.rules.proofs.Renumbering.{model_renumbered, Like, beats_moved}
use Rattle.restriction.specs.Atoms.{is_member, place_in, renumbered, entries}
use Rattle.restriction.specs.Covers.{Covers}
use Rattle.restriction.specs.PreferredLeft.{cut_to, SparesOthers, PreferredLeft}
use Rattle.restriction.proofs.Places.{member_all, member_at, place_at, at_place}

-- the set cut to a list of atoms

digit_cond : (b : Bool) → cond b 1 0 ≡ digit b
digit_cond true = refl
digit_cond false = refl

cut_number : (xs : List ℕ) (m : ℕ) → cut_to xs m ≡ number (map (has m) xs)
cut_number [] m = refl
cut_number (x ∷ xs) m = omega (arith, digit_cond (has m x), cut_number xs m)

pub cut_lt : (xs : List ℕ) (m : ℕ) → cut_to xs m < 2 ^ length xs
cut_lt xs m = subst (λ (c : ℕ). cut_to xs m < 2 ^ c) (length-map xs (has m)) (omega (arith, cut_number xs m, number_lt (map (has m) xs)))

pub cut_at : (xs : List ℕ) (m i : ℕ) → i < length xs → has (cut_to xs m) i ≡ has m (get_or xs i 0)
cut_at xs m i l =
    ap (λ (x : ℕ). has x i) (cut_number xs m)
    ∙ has_number (has m 0) (map (has m) xs) i (omega (arith, length-map xs (has m)))
    ∙ map_at (has m) xs i 0 (has m 0) l

cut_place : (xs : List ℕ) (m a : ℕ) → T (is_member xs a) → has (cut_to xs m) (place_in xs a) ≡ has m a
cut_place xs m a h = let q = at_place xs a h in cut_at xs m (place_in xs a) q.0 ∙ ap (has m) q.1

module _ (xs ws : List ℕ) (rs : List (Rule ℕ)) (k : Covers (length ws) xs rs) where
  abbrev ws' : List ℕ
  ws' = entries 0 ws xs

  abbrev rs' : List (Rule ℕ)
  rs' = renumbered xs rs

  size : length ws' ≡ length xs
  size = length-map xs (λ a. get_or ws a 0)

  inside : (a : ℕ) → T (is_member xs a) → a < length ws
  inside a h = member_all (λ b. b < length ws) xs a k.inside h

  class_left : (j a : ℕ) → T (is_member xs a) → OfClass ws j a → OfClass ws' j (place_in xs a)
  class_left j a h c =
      let q = at_place xs a h in
      let l : place_in xs a < length xs = q.0 in
      (omega (arith, size), map_at (λ b. get_or ws b 0) xs (place_in xs a) 0 0 l ∙ ap (λ (b : ℕ). get_or ws b 0) q.1 ∙ c.1)

  below : (i : ℕ) → i < length ws' → i < length xs
  below i l = omega (arith, size)

  class_whole : (j i : ℕ) → OfClass ws' j i → OfClass ws j (get_or xs i 0)
  class_whole j i c =
      let l = below i c.0 in
      (inside (get_or xs i 0) (member_at xs i l), sym (map_at (λ b. get_or ws b 0) xs i 0 0 l) ∙ c.1)

  -- s' has the atoms of the list by their places as s has them
  abbrev Same : ℕ → ℕ → Type 0
  Same s s' = (a : ℕ) → T (is_member xs a) → has s' (place_in xs a) ≡ has s a

  models : (s s' : ℕ) → Same s s' → Model rs (has s) ↔ Model rs' (has s')
  models s s' same = model_renumbered (place_in xs) (λ a. T (is_member xs a)) s s' same rs k.atoms

  -- a set of all atoms: s' on those of the list, a test on the others
  built : (s' : ℕ) (t : ℕ → Bool) → (s : ℕ) × (s < 2 ^ length ws) × Same s s' × ((a : ℕ) → a < length ws → (T (is_member xs a) → ⊥) → has s a ≡ t a)
  built s' t =
      let x = set_of_lem (length ws) (λ a. cond (is_member xs a) (has s' (place_in xs a)) (t a)) in (
        x.0,
        x.1,
        λ a h. sym (x.2 a (inside a h) ∙ ap (λ (b : Bool). cond b (has s' (place_in xs a)) (t a)) (is_true_lem (is_member xs a) h)),
        λ a l h. x.2 a l ∙ ap (λ (b : Bool). cond b (has s' (place_in xs a)) (t a)) (is_false (is_member xs a) h),
      )

  at_of : (s s' : ℕ) → Same s s' → (i : ℕ) → i < length xs → has s (get_or xs i 0) ≡ has s' i
  at_of s s' same i l = sym (same (get_or xs i 0) (member_at xs i l)) ∙ ap (has s') (place_at xs k.different i l)

  -- what beats a set beats it cut to the list, if no minimised atom is lost
  beats_left : (s m : ℕ) → SparesOthers xs ws m → Beats ws rs s m → Beats ws' rs' (cut_to xs s) (cut_to xs m)
  beats_left s m spares b = beats_moved ws ws' s m (cut_to xs s) (cut_to xs m) rs rs'
      (λ j i c. inl (get_or xs i 0, class_whole j i c, cut_at xs s i (below i c.0), cut_at xs m i (below i c.0)))
      (λ j a l u c h o. step j a l u c h o (decide (is_member xs a)))
      ((models s (cut_to xs s) (cut_place xs s)).0 b.model)
      b
    where
      step : (j a : ℕ) → 1 ≤ j → j ≤ class_limit → OfClass ws j a → In (has m) a → Out (has s) a → T (is_member xs a) ⊎ (T (is_member xs a) → ⊥)
          → (i : ℕ) × OfClass ws' j i × In (has (cut_to xs m)) i × Out (has (cut_to xs s)) i
      step j a l u c h o (inl q) = (place_in xs a, class_left j a q c, T_of (sym (cut_place xs m a q)) h, λ t. o (T_of (cut_place xs s a q) t))
      step j a l u c h o (inr q) = absurd (spares a j l u c q h)

  -- what beats the cut set, with the other atoms of m, beats m
  beats_whole : (s' m : ℕ) → Beats ws' rs' s' (cut_to xs m) → (s : ℕ) × (s < 2 ^ length ws) × Beats ws rs s m
  beats_whole s' m b =
      let x = built s' (has m) in (
        x.0,
        x.1,
        beats_moved ws' ws s' (cut_to xs m) x.0 m rs' rs
            (λ j a c. step x.0 x.2 x.3 j a c (decide (is_member xs a)))
            (λ j i l u c h o. (get_or xs i 0, class_whole j i c, T_of (cut_at xs m i (below i c.0)) h, λ t. o (T_of (at_of x.0 s' x.2 i (below i c.0)) t)))
            ((models x.0 s' x.2).1 b.model)
            b,
      )
    where
      step : (s : ℕ) → Same s s' → ((a : ℕ) → a < length ws → (T (is_member xs a) → ⊥) → has s a ≡ has m a) → (j a : ℕ) → OfClass ws j a → T (is_member xs a) ⊎ (T (is_member xs a) → ⊥) → Like ws' ws s' (cut_to xs m) s m j a
      step s same other j a c (inl q) = inl (place_in xs a, class_left j a q c, sym (same a q), sym (cut_place xs m a q))
      step s same other j a c (inr q) = inr (other a c.0 q)

  -- a minimised atom that no rule has is out: m without it beats m
  spares : (m : ℕ) → Preferred ws rs m → SparesOthers xs ws m
  spares m h a j l u c q t =
      let word : get_or ws a 0 ≡ j = c.1 in
      let agrees : Agree (OfClass ws fixed) x.0 m = λ b d. (less b d.0, keeps b d.0 (λ e. omega (arith, d.1, ap (λ (y : ℕ). get_or ws y 0) e))) in
      h.unbeaten x.0 x.1 (lacking_beats ws x.0 m rs model agrees a (record {
        inside = c.0;
        is_class_holds = (omega arith, omega arith);
        of_m = t;
        missing = λ v. T-not-out (eqb a a) (T-and-r (has m a) (not (eqb a a)) (T_of (x.2 a c.0) v)) (eqb_refl a);
        within = λ b i lo up. less b i;
      }))
    where
      x : (s : ℕ) × (s < 2 ^ length ws) × ((b : ℕ) → b < length ws → has s b ≡ (has m b && not (eqb b a)))
      x = set_of_lem (length ws) (λ b. has m b && not (eqb b a))

      less : (b : ℕ) → b < length ws → In (has x.0) b → In (has m) b
      less b i v = T-and-l (has m b) (not (eqb b a)) (T_of (x.2 b i) v)

      keeps : (b : ℕ) → b < length ws → (b ≡ a → ⊥) → In (has m) b → In (has x.0) b
      keeps b i n v = T_of (sym (x.2 b i)) (T_and (has m b) (not (eqb b a)) v (T-not-in (eqb b a) (λ e. n (eqb→eq b a e))))

      same : Same x.0 (cut_to xs m)
      same b p =
          let other : b ≡ a → ⊥ = λ e. q (subst (λ (y : ℕ). T (is_member xs y)) e p) in
          cut_place xs m b p ∙ bool_ext (has m b) (has x.0 b) (keeps b (inside b p) other) (less b (inside b p))

      model : Model rs (has x.0)
      model = (models x.0 (cut_to xs m) same).1 ((models m (cut_to xs m) (cut_place xs m)).0 h.model)

  to_left : (m : ℕ) → Preferred ws rs m → Preferred ws' rs' (cut_to xs m)
  to_left m h = record {
    model = (models m (cut_to xs m) (cut_place xs m)).0 h.model;
    unbeaten = λ s' l b. let x = beats_whole s' m b in h.unbeaten x.0 x.1 x.2;
  }

  to_whole : (m : ℕ) → Preferred ws' rs' (cut_to xs m) → SparesOthers xs ws m → Preferred ws rs m
  to_whole m h spare = record {
    model = (models m (cut_to xs m) (cut_place xs m)).1 h.model;
    unbeaten = λ s l b. h.unbeaten (cut_to xs s) (subst (λ (c : ℕ). cut_to xs s < 2 ^ c) (sym size) (cut_lt xs s)) (beats_left s m spare b);
  }

pub preferred_left : (xs ws : List ℕ) (rs : List (Rule ℕ)) → Covers (length ws) xs rs → PreferredLeft xs ws rs (entries 0 ws xs) (renumbered xs rs)
preferred_left xs ws rs k = record {
  cut = λ s l. (
    λ h.
        let x = built xs ws rs k s (λ a. false) in
        let e : cut_to xs x.0 ≡ s = same_set (length xs) (cut_to xs x.0) s (cut_lt xs x.0) l (λ i u. cut_at xs x.0 i u ∙ at_of xs ws rs k x.0 s x.2 i u) in
        (x.0, x.1, to_whole xs ws rs k x.0 (subst (Preferred (entries 0 ws xs) (renumbered xs rs)) (sym e) h) (λ a j lo up c q t. T_of (x.3 a c.0 q) t), e),
    λ h. subst (Preferred (entries 0 ws xs) (renumbered xs rs)) h.3 (to_left xs ws rs k h.0 h.2),
  );
  whole = λ m. (λ h. (to_left xs ws rs k m h, spares xs ws rs k m h), λ h. to_whole xs ws rs k m h.0 h.1);
}
