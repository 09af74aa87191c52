-- A rule's masks at the place of a choice: met, and with no member among the atoms left, exactly where the choice breaks the rule.
use Prim.Native.Nat.{ℕ, ◌+◌, ◌≤◌, ◌<◌}
use mathlib.Core.Path.{◌≡◌, refl, sym, ap, ap₂, subst, fun_ext}
use mathlib.Core.Logic.{◌⊎◌, inl, inr, ◌↔◌}
use mathlib.Core.Bool.{Bool, true, false, not, cond, ◌&&◌}
use mathlib.Core.List.{List, [], ◌∷◌, map}
use native.Mathlib.Omega.{arith}
use lib.Dec.{T, eqb, leb, ltb, leb→le, le→leb, ltb→lt, lt→ltb, leb-suc-zero}
use lib.Bits.{bit_and, bit_or}
use Rattle.rules.specs.Lists.{All, every}
use Rattle.rules.specs.Sets.{has}
use Rattle.rules.specs.Rules.{Rule, rename}
use Rattle.rules.specs.Renumbering.{Within}
use Rattle.rules.proofs.Booleans.{T_of, T_and, T-and-l, T-and-r, T-or, T-or-out, T-not-in, T-not-out, bool_ext}
use Rattle.rules.proofs.Lists.{all_imp}
use Rattle.rules.proofs.MappedLists.{every_map}
use Rattle.places.specs.Places.{mirror, place}
use Rattle.places.proofs.Places.{place_atoms}
use Rattle.masks.specs.Masks.{mask_of, breakable, care_of, want_of, place_mask, care_at, want_at}
use Rattle.masks.proofs.MaskBits.{has_or, none_in_zero, every_mask, some_mask}
use Rattle.masks.proofs.RuleMasks.{never, broken_law}
use Rattle.choices.specs.Choices.{is_in, is_out, is_broken, RuleBelow, RulesBelow}
use Rattle.choices.proofs.Closing.{Parts, parts, whole}

pub within_below : (n : ℕ) (rs : List (Rule ℕ)) → All (Within (λ a. a < n)) rs → RulesBelow n rs
within_below n rs h = all_imp (Within (λ a. a < n)) (RuleBelow n) (λ r w. (w.body, w.nots, w.head)) rs h

-- whether a rule is broken depends on the decided atoms alone
pub broken_same : (d x y : ℕ) (r : Rule ℕ) → ((a : ℕ) → a < d → has x a ≡ has y a) → is_broken d x r ≡ is_broken d y r
broken_same d x y r same =
    ap₂ (λ (ins outs : ℕ → Bool). every ins r.body && (every outs r.nots && every outs r.head))
    (fun_ext (λ a. decided (ltb a d) (has x a) (has y a) (λ t. same a (ltb→lt a d t))))
    (fun_ext (λ a. decided (ltb a d) (not (has x a)) (not (has y a)) (λ t. ap not (same a (ltb→lt a d t)))))
  where
    decided : (p b c : Bool) → (T p → b ≡ c) → (p && b) ≡ (p && c)
    decided true b c f = f tt
    decided false b c f = refl

-- a test of every atom of a list is one of every member of its mask
members : (n : ℕ) (p q : ℕ → Bool) → ((a : ℕ) → a < n → q (mirror n a) ≡ p a) → (l : List ℕ) → All (λ a. a < n) l → T (every p l) ↔ ((i : ℕ) → T (has (place_mask n l) i) → T (q i))
members n p q same l h =
    let e = every_map (mirror n) q p l (all_imp (λ a. a < n) (λ a. q (mirror n a) ≡ p a) same l h) in
    let m = every_mask q (map (mirror n) l) in
    (λ t. m.0 (T_of (sym e) t), λ f. T_of e (m.1 f))

module _ (n : ℕ) (r : Rule ℕ) where
  abbrev heads : ℕ
  heads = place_mask n r.head

  abbrev bodies : ℕ
  bodies = place_mask n r.body

  -- the masks of a rule that no set breaks are never met, and have no members
  care_in_lem : (s i : ℕ) → T (eqb (bit_and s (care_at n r)) (want_at n r)) → T (has heads i) ⊎ T (has bodies i) → T (has (care_at n r) i)
  unfolding care_of want_of
  care_in_lem s i = step (breakable heads bodies)
    where
      step : (b : Bool) → T (eqb (bit_and s (cond b (bit_or heads bodies) 0)) (cond b bodies 1)) → T (has heads i) ⊎ T (has bodies i) → T (has (cond b (bit_or heads bodies) 0) i)
      step true m h = T_of (sym (has_or heads bodies i)) (T-or (has heads i) (has bodies i) h)
      step false m h = absurd (never s m)

  care_out : (i : ℕ) → T (has (care_at n r) i) → T (has heads i) ⊎ T (has bodies i)
  unfolding care_of
  care_out i = step (breakable heads bodies)
    where
      step : (b : Bool) → T (has (cond b (bit_or heads bodies) 0) i) → T (has heads i) ⊎ T (has bodies i)
      step true h = T-or-out (has heads i) (has bodies i) (T_of (has_or heads bodies i) h)
      step false h = absurd (none_in_zero i h)

  module _ (below : RuleBelow n r) (plain : r.nots ≡ []) (d k y : ℕ) (e : d + k ≡ n) where
    abbrev s : ℕ
    s = place n y

    abbrev Met : Type 0
    Met = T (eqb (bit_and s (care_at n r)) (want_at n r))

    abbrev may_in : ℕ → Bool
    may_in i = leb k i && has s i

    abbrev may_out : ℕ → Bool
    may_out i = leb k i && not (has s i)

    later : (a : ℕ) → a < n → leb k (mirror n a) ≡ ltb a d
    later a l = bool_ext (leb k (mirror n a)) (ltb a d) (λ t. lt→ltb a d (omega (arith, leb→le k (mirror n a) t))) (λ t. le→leb k (mirror n a) (omega (arith, ltb→lt a d t)))

    ins : (l : List ℕ) → All (λ a. a < n) l → T (every (is_in d y) l) ↔ ((i : ℕ) → T (has (place_mask n l) i) → T (may_in i))
    ins = members n (is_in d y) may_in (λ a l. ap₂ ◌&&◌ (later a l) (place_atoms n y a l))

    outs : (l : List ℕ) → All (λ a. a < n) l → T (every (is_out d y) l) ↔ ((i : ℕ) → T (has (place_mask n l) i) → T (may_out i))
    outs = members n (is_out d y) may_out (λ a l. ap₂ ◌&&◌ (later a l) (ap not (place_atoms n y a l)))

    broken_there : Parts d y r → Met × ((i : ℕ) → T (has (care_at n r) i) → k ≤ i)
    broken_there p =
        let body = (ins r.body below.0).0 p.body in
        let head = (outs r.head below.2).0 p.head in (
          (broken_law s (rename (mirror n) r)).1 (
            (every_mask (has s) (map (mirror n) r.body)).1 (λ i h. T-and-r (leb k i) (has s i) (body i h)),
            (some_mask (has s) (map (mirror n) r.head)).1 (λ i h. T-not-out (has s i) (T-and-r (leb k i) (not (has s i)) (head i h))),
          ),
          λ i h. low i body head (care_out i h),
        )
      where
        low : (i : ℕ) → ((i : ℕ) → T (has bodies i) → T (may_in i)) → ((i : ℕ) → T (has heads i) → T (may_out i)) → T (has heads i) ⊎ T (has bodies i) → k ≤ i
        low i body head (inl h) = leb→le k i (T-and-l (leb k i) (not (has s i)) (head i h))
        low i body head (inr h) = leb→le k i (T-and-l (leb k i) (has s i) (body i h))

    broken_back : Met → ((i : ℕ) → T (has (care_at n r) i) → k ≤ i) → Parts d y r
    broken_back m low =
        let b = (broken_law s (rename (mirror n) r)).0 m in
        let deep : (i : ℕ) → T (has heads i) ⊎ T (has bodies i) → T (leb k i) = λ i h. le→leb k i (low i (care_in_lem s i m h)) in
        record {
          body = (ins r.body below.0).1 (λ i h. T_and (leb k i) (has s i) (deep i (inr h)) ((every_mask (has s) (map (mirror n) r.body)).0 b.0 i h));
          nots = subst (λ (l : List ℕ). T (every (is_out d y) l)) (sym plain) tt;
          head = (outs r.head below.2).1 (λ i h. T_and (leb k i) (not (has s i)) (deep i (inl h)) (T-not-in (has s i) ((some_mask (has s) (map (mirror n) r.head)).0 b.1 i h)));
        }

    pub broken_at_lem : T (is_broken d y r) ↔ (Met × ((i : ℕ) → T (has (care_at n r) i) → k ≤ i))
    broken_at_lem = (λ t. broken_there (parts d y r t), λ h. whole d y r (broken_back h.0 h.1))

  -- a rule broken with no atom decided has none
  pub care_none : (y : ℕ) → T (is_broken 0 y r) → care_at n r ≡ 0
  unfolding care_of mask_of
  care_none y t = let p = parts 0 y r t in step (breakable heads bodies) (none (λ a. not (has y a)) r.head p.head) (none (has y) r.body p.body)
    where
      none : (q : ℕ → Bool) (l : List ℕ) → T (every (λ a. ltb a 0 && q a) l) → l ≡ []
      none q [] h = refl
      none q (a ∷ l) h = absurd (T_of (leb-suc-zero a) (T-and-l (ltb a 0) (q a) (T-and-l (ltb a 0 && q a) (every (λ a. ltb a 0 && q a) l) h)))

      step : (b : Bool) → r.head ≡ [] → r.body ≡ [] → cond b (bit_or heads bodies) 0 ≡ 0
      step true h k = ap₂ (λ (x y : List ℕ). bit_or (place_mask n x) (place_mask n y)) h k
      step false h k = refl
