-- The numbers of the written program's atoms: each number is one atom's, and the words are the atoms' classes.
use Prim.Native.Nat.{ℕ, suc, ◌+◌, ◌-◌, ◌≤◌, ◌<◌}
use native.Mathlib.Omega.{arith}
use native.Mathlib.Decide.{dec_lt}
use mathlib.Core.Path.{◌≡◌, sym, ap, subst, ◌∙◌}
use mathlib.Core.List.{List, ◌++◌, map}
use mathlib.Core.Bool.{Bool, cond}
use mathlib.Core.Logic.{◌⊎◌, inl, inr, ◌↔◌}
use lib.Dec.{ltb}
use lib.ListN.{length, get_or, take, drop, replicate, length-append, length-drop, length-replicate, get_or-replicate, get_or-append}
use lib.Seq.{length-take-le, get_or-append-add, get_or-take, get_or-drop}
use borrow.Author.Tests.{lt-ltb, le-ltb}
use Rattle.rules.specs.Sets.{In, Out}
use Rattle.rules.specs.Rules.{Rule, Holds, Model, rename}
use Rattle.kinds.specs.Limits.{varying}
use Rattle.rules.specs.Preferred.{OfClass}
use Rattle.rules.proofs.Lists.{all_imp, all_map, map_all, any_map, map_any}
use Rattle.conditions.specs.Conditions.{Atom, planner, made}
use Rattle.conditions.specs.Readings.{WrittenClass}
use Rattle.conditions.specs.Numbers.{place, inserted, placed_words}

module _ (q k : ℕ) where
  pub unplace : ℕ → Atom
  unplace i = cond (ltb i q) (planner i) (cond (ltb i (q + k)) (made (suc (i - q))) (planner (i - k)))

  pub place_low : (a : ℕ) → a < q → place q k (planner a) ≡ a
  place_low a l = ap (λ (b : Bool). cond b a (a + k)) (lt-ltb a q l)

  pub place_high : (a : ℕ) → q ≤ a → place q k (planner a) ≡ a + k
  place_high a l = ap (λ (b : Bool). cond b a (a + k)) (le-ltb a q l)

  pub low : (i : ℕ) → i < q → unplace i ≡ planner i
  unfolding unplace
  low i l = ap (λ (b : Bool). cond b (planner i) (cond (ltb i (q + k)) (made (suc (i - q))) (planner (i - k)))) (lt-ltb i q l)

  pub mid : (i : ℕ) → q ≤ i → i < q + k → unplace i ≡ made (suc (i - q))
  unfolding unplace
  mid i l u = ap (λ (b : Bool). cond b (planner i) (cond (ltb i (q + k)) (made (suc (i - q))) (planner (i - k)))) (le-ltb i q l)
      ∙ ap (λ (b : Bool). cond b (made (suc (i - q))) (planner (i - k))) (lt-ltb i (q + k) u)

  pub high : (i : ℕ) → q + k ≤ i → unplace i ≡ planner (i - k)
  unfolding unplace
  high i l = ap (λ (b : Bool). cond b (planner i) (cond (ltb i (q + k)) (made (suc (i - q))) (planner (i - k)))) (le-ltb i q (omega arith))
      ∙ ap (λ (b : Bool). cond b (made (suc (i - q))) (planner (i - k))) (le-ltb i (q + k) l)

  -- where a number stands: before, among or after the T atoms
  pub stands : (i : ℕ) → (i < q) ⊎ (((q ≤ i) × (i < q + k)) ⊎ (q + k ≤ i))
  stands i = step (dec_lt i q) (dec_lt i (q + k))
    where
      step : Dec (i < q) → Dec (i < q + k) → (i < q) ⊎ (((q ≤ i) × (i < q + k)) ⊎ (q + k ≤ i))
      step (yes h) d = inl h
      step (no h) (yes g) = inr (inl (omega arith, g))
      step (no h) (no g) = inr (inr (omega arith))

  pub place_unplace : (i : ℕ) → place q k (unplace i) ≡ i
  place_unplace i = step (stands i)
    where
      step : (i < q) ⊎ (((q ≤ i) × (i < q + k)) ⊎ (q + k ≤ i)) → place q k (unplace i) ≡ i
      step (inl h) = ap (place q k) (low i h) ∙ place_low i h
      step (inr (inl h)) = let e : q + (suc (i - q) - 1) ≡ i = omega (arith, h.0) in ap (place q k) (mid i h.0 h.1) ∙ e
      step (inr (inr h)) = let e : i - k + k ≡ i = omega arith in ap (place q k) (high i h) ∙ (place_high (i - k) (omega arith) ∙ e)

  pub unplace_planner : (a : ℕ) → unplace (place q k (planner a)) ≡ planner a
  unplace_planner a = step (dec_lt a q)
    where
      step : Dec (a < q) → unplace (place q k (planner a)) ≡ planner a
      step (yes h) = ap unplace (place_low a h) ∙ low a h
      step (no h) = let e : a + k - k ≡ a = omega arith in ap unplace (place_high a (omega arith)) ∙ (high (a + k) (omega arith) ∙ ap planner e)

  pub unplace_made : (t : ℕ) → 1 ≤ t → t < 1 + k → unplace (place q k (made t)) ≡ made t
  unplace_made t l u = let e : suc (q + (t - 1) - q) ≡ t = omega arith in mid (q + (t - 1)) (omega arith) (omega arith) ∙ ap made e

  pub place_lt : (n a : ℕ) → a < n → place q k (planner a) < n + k
  place_lt n a l = step (dec_lt a q)
    where
      step : Dec (a < q) → place q k (planner a) < n + k
      step (yes h) = subst (λ (i : ℕ). i < n + k) (sym (place_low a h)) (omega arith)
      step (no h) = subst (λ (i : ℕ). i < n + k) (sym (place_high a (omega arith))) (omega arith)

  -- what a list with others between has for the atoms

  module _ {A : Type 0} (d : A) (l others : List A) (fits : q ≤ length l) (size : length others ≡ k) where
    pub inserted_length : length (inserted q others l) ≡ length l + k
    inserted_length = omega (arith, length-append (take q l) (others ++ drop q l), length-append others (drop q l), length-take-le q l fits, size, length-drop q l)

    past : (i : ℕ) → get_or (inserted q others l) (q + i) d ≡ get_or (others ++ drop q l) i d
    past i = subst (λ (j : ℕ). get_or (take q l ++ (others ++ drop q l)) (j + i) d ≡ get_or (others ++ drop q l) i d) (length-take-le q l fits) (get_or-append-add (take q l) (others ++ drop q l) i d)

    inserted_high : (i : ℕ) → get_or (inserted q others l) (q + (k + i)) d ≡ get_or l (q + i) d
    inserted_high i = past (k + i) ∙ (subst (λ (j : ℕ). get_or (others ++ drop q l) (j + i) d ≡ get_or (drop q l) i d) size (get_or-append-add others (drop q l) i d) ∙ get_or-drop q l i d)

    pub inserted_made : (i : ℕ) → i < k → get_or (inserted q others l) (q + i) d ≡ get_or others i d
    inserted_made i u = past i ∙ get_or-append others (drop q l) d i (omega arith)

    pub inserted_planner : (a : ℕ) → get_or (inserted q others l) (place q k (planner a)) d ≡ get_or l a d
    inserted_planner a = step (dec_lt a q)
      where
        at : (i j : ℕ) → i ≡ j → get_or (inserted q others l) i d ≡ get_or (inserted q others l) j d
        at i j e = ap (λ (x : ℕ). get_or (inserted q others l) x d) e

        step : Dec (a < q) → get_or (inserted q others l) (place q k (planner a)) d ≡ get_or l a d
        step (yes h) = at (place q k (planner a)) a (place_low a h) ∙ (get_or-append (take q l) (others ++ drop q l) d a (omega (arith, length-take-le q l fits)) ∙ get_or-take q l a d h)
        step (no h) =
            let e : a + k ≡ q + (k + (a - q)) = omega arith in
            let f : q + (a - q) ≡ a = omega arith in
            at (place q k (planner a)) (q + (k + (a - q))) (place_high a (omega arith) ∙ e) ∙ (inserted_high (a - q) ∙ ap (λ (j : ℕ). get_or l j d) f)

  -- the words are the atoms' classes

  module _ (ws : List ℕ) (fits : q ≤ length ws) where
    word_made : (i : ℕ) → i < k → get_or (placed_words q k ws) (q + i) 0 ≡ varying
    unfolding placed_words
    word_made i l = inserted_made 0 ws (replicate k varying) fits (length-replicate k varying) i l ∙ get_or-replicate k i varying 0 l

    word_planner : (a : ℕ) → get_or (placed_words q k ws) (place q k (planner a)) 0 ≡ get_or ws a 0
    unfolding placed_words
    word_planner a = inserted_planner 0 ws (replicate k varying) fits (length-replicate k varying) a

    pub words_length : length (placed_words q k ws) ≡ length ws + k
    unfolding placed_words
    words_length = inserted_length 0 ws (replicate k varying) fits (length-replicate k varying)

    pub class_up : (w a : ℕ) → OfClass ws w a → OfClass (placed_words q k ws) w (place q k (planner a))
    class_up w a h = (subst (λ (n : ℕ). place q k (planner a) < n) (sym words_length) (place_lt (length ws) a h.0), word_planner a ∙ h.1)

    pub class_down : (w i : ℕ) → OfClass (placed_words q k ws) w i → WrittenClass ws w (unplace i)
    class_down w i h = step (stands i)
      where
        below : i < length ws + k
        below = subst (λ (n : ℕ). i < n) words_length h.0

        of_planner : (a : ℕ) → a < length ws → place q k (planner a) ≡ i → unplace i ≡ planner a → WrittenClass ws w (unplace i)
        of_planner a l e f = subst (WrittenClass ws w) (sym f) (l, sym (word_planner a) ∙ (ap (λ (j : ℕ). get_or (placed_words q k ws) j 0) e ∙ h.1))

        step : (i < q) ⊎ (((q ≤ i) × (i < q + k)) ⊎ (q + k ≤ i)) → WrittenClass ws w (unplace i)
        step (inl l) = of_planner i (omega arith) (place_low i l) (low i l)
        step (inr (inl l)) =
            let e : q + (i - q) ≡ i = omega (arith, l.0) in
            subst (WrittenClass ws w) (sym (mid i l.0 l.1)) (sym h.1 ∙ (ap (λ (j : ℕ). get_or (placed_words q k ws) j 0) (sym e) ∙ word_made (i - q) (omega (arith, l.0, l.1))))
        step (inr (inr l)) = let e : i - k + k ≡ i = omega arith in of_planner (i - k) (omega (arith, below)) (place_high (i - k) (omega arith) ∙ e) (high i l)

-- the rules over numbers and over atoms ask the same
pub renamed_law : {A : Type 0} (num : A → ℕ) (x : ℕ → Bool) (rs : List (Rule A)) → Model (map (rename num) rs) x ↔ Model rs (λ c. x (num c))
renamed_law {A} num x rs = (
  λ h. all_imp (λ r. Holds x (rename num r)) (Holds at)
      (λ r f b n. map_any (In x) num r.head (f (all_map (In x) num r.body b) (all_map (Out x) num r.nots n))) rs (map_all (Holds x) (rename num) rs h),
  λ h. all_map (Holds x) (rename num) rs (all_imp (Holds at) (λ r. Holds x (rename num r))
      (λ r f b n. any_map (In x) num r.head (f (map_all (In x) num r.body b) (map_all (Out x) num r.nots n))) rs h),
)
  where
    at : A → Bool
    at c = x (num c)
