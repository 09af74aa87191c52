-- Where no atom outside m may be in, the final choice m is visited once and last.
use Prim.Native.Nat.{ℕ, zero, suc, ◌+◌, ◌%◌, ◌^◌, ◌≤◌, ◌<◌}
use mathlib.Core.Path.{◌≡◌, refl, sym, ap, ap₂, ◌∙◌, subst}
use mathlib.Core.Bool.{Bool, true, false, not, cond}
use mathlib.Core.List.{List, [], ◌∷◌, ◌++◌, append-nil, append_assoc}
use native.Mathlib.Omega.{arith}
use native.Mathlib.Nat.{mod-lt, mod-one, mod-eq_of_lt}
use lib.Dec.{T, eqb, eqb→eq, eqb_refl}
use lib.Pow.{pow_pos}
use Rattle.rules.specs.Lists.{All, filter}
use Rattle.rules.specs.Sets.{has}
use Rattle.rules.proofs.Booleans.{T_of, T_and, T-and-l, T-and-r, T-not-in, T-not-out}
use Rattle.rules.proofs.Lists.{all_imp}
use Rattle.choices.specs.Choices.{Choice, choice, Course, visited, is_final, is_set}
use Rattle.rules.proofs.Filtered.{filter_app, filter_none, filter_every}
use Rattle.choices.proofs.MoreAtoms.{top_out, wide_out, cut_out, cut_in}
use Rattle.choices.proofs.Trees.{branch, visited_open, all_branch, Below, visited_extend}

module _ (c : Course) (n m : ℕ) where
  abbrev is_other : Choice → Bool
  is_other k = not (is_set n m k)

  abbrev Ends : List Choice → Type 0
  Ends l = l ≡ filter is_other l ++ (choice n m ∷ [])

  ends_one : Ends (choice n m ∷ [])
  ends_one = ap (λ (l : List Choice). l ++ (choice n m ∷ [])) (sym (filter_none is_other (choice n m ∷ []) ((λ t. T-not-out (is_set n m (choice n m)) t (T_and (eqb n n) (eqb m m) (eqb_refl n) (eqb_refl m))), tt)))

  ends_app : (l r : List Choice) → All (λ k. T (is_other k)) l → Ends r → Ends (l ++ r)
  ends_app l r h e =
      ap (λ (z : List Choice). l ++ z) e
      ∙ sym (append_assoc l (filter is_other r) (choice n m ∷ []))
      ∙ ap (λ (z : List Choice). z ++ (choice n m ∷ [])) (ap (λ (z : List Choice). z ++ filter is_other r) (sym (filter_every is_other l h)) ∙ sym (filter_app is_other l r))

  module _ (inside : m < 2 ^ n)
      (unclosed : (d : ℕ) → d ≤ n → c.closed d (m % 2 ^ d) ≡ false)
      (allowed : (d : ℕ) → d < n → c.may d (has m d) ≡ true)
      (kept_out : (d : ℕ) → d < n → has m d ≡ false → c.may d true ≡ false) where
    last_below : (left d : ℕ) → d + left ≡ n → Ends (visited c left d (m % 2 ^ d))
    unfolding visited
    last_below zero d e =
        let full : n ≡ d = omega arith in
        subst Ends (ap (λ (k : Choice). k ∷ []) (ap₂ choice full (sym (mod-eq_of_lt inside) ∙ ap (λ (j : ℕ). m % 2 ^ j) full))) ends_one
    last_below (suc left) d e = subst Ends (sym (visited_open c left d x (unclosed d (omega arith)))) (step (has m d) refl (last_below left (suc d) deep))
      where
        x : ℕ
        x = m % 2 ^ d

        deep : suc d + left ≡ n
        deep = omega arith

        short : d < n
        short = omega arith

        low : x < 2 ^ d
        low = mod-lt m (pow_pos d)

        here : T (is_other (choice d x))
        here = T-not-in (is_set n m (choice d x)) (λ t. let q : d ≡ n = eqb→eq d n (T-and-l (eqb d n) (eqb x m) t) in omega arith)

        -- the sets beside the path lack atom d
        beside : has m d ≡ true → (k : Choice) → Below n (suc d) x k → T (is_other k)
        beside e k r = T-not-in (is_set n m k) (λ t. T_of (sym e ∙ ap (λ (s : ℕ). has s d) (sym (eqb→eq k.taken m (T-and-r (is_final n k) (eqb k.taken m) t))) ∙ r.same d (omega arith) ∙ top_out d x low) tt)

        step : (b : Bool) → has m d ≡ b → Ends (visited c left (suc d) (m % 2 ^ suc d)) → Ends (choice d x ∷ (branch c d false left x ++ branch c d true left (x + 2 ^ d)))
        step true e r = ends_app (choice d x ∷ branch c d false left x) (branch c d true left (x + 2 ^ d))
            (here, all_branch (λ k. T (is_other k)) c d false left x (all_imp (Below n (suc d) x) (λ k. T (is_other k)) (beside e) (visited c left (suc d) x) (visited_extend c n left (suc d) x deep (wide_out d x low))))
            (subst Ends (ap₂ (λ (b : Bool) (y : ℕ). cond b (visited c left (suc d) y) []) (sym (ap (c.may d) (sym e) ∙ allowed d short)) (cut_in d m e)) r)
        step false e r = ends_app (choice d x ∷ []) (branch c d false left x ++ branch c d true left (x + 2 ^ d)) (here, tt)
            (subst Ends (sym (append-nil (visited c left (suc d) (m % 2 ^ suc d)))
            ∙ ap₂ (λ (l r : List Choice). l ++ r)
            (ap₂ (λ (b : Bool) (y : ℕ). cond b (visited c left (suc d) y) []) (sym (ap (c.may d) (sym e) ∙ allowed d short)) (cut_out d m e))
            (ap (λ (b : Bool). cond b (visited c left (suc d) (x + 2 ^ d)) []) (sym (kept_out d short e)))) r)

    pub last_final : visited c n 0 0 ≡ filter (λ k. not (is_set n m k)) (visited c n 0 0) ++ (choice n m ∷ [])
    last_final = subst (λ (x : ℕ). Ends (visited c n 0 x)) (mod-one m) (last_below n 0 (omega arith))
