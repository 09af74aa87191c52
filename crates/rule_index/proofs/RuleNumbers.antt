-- The numbers of the rules that pass a test, and the rules with an atom.
use Prim.Native.Nat.{ℕ, suc, ◌+◌, ◌-◌, ◌≤◌, ◌<◌}
use mathlib.Core.Path.{◌≡◌, refl, sym, ap, ap₂, ◌∙◌}
use mathlib.Core.Logic.{◌⊎◌, inl, inr, ◌↔◌}
use mathlib.Core.Bool.{Bool, true, false, cond}
use mathlib.Core.List.{List, [], ◌∷◌, ◌++◌}
use native.Mathlib.Omega.{arith}
use native.Mathlib.Nat.{zero-add}
use native.Mathlib.Decide.{ℕ_discrete}
use lib.Dec.{T, eqb, eqb→eq}
use lib.ListN.{length, get_or, take, drop, length-append}
use lib.Seq.{length-take-le, take-suc, split_at, get_or-append_seam}
use Rattle.rules.specs.Lists.{All, keep}
use Rattle.rules.specs.Rules.{Rule, rule}
use Rattle.rules.proofs.Booleans.{T_of, T-or, T-or-out, eq_to_eqb, is_true_lem}
use Rattle.rules.proofs.Lists.{all_imp, all_keep}
use Rattle.rules.proofs.Sets.{digit}
use Rattle.restriction.specs.Atoms.{is_member}
use Rattle.rule_index.specs.Index.{numbers_of, is_standing, rules_with}
use Rattle.rule_index.specs.Meanings.{numbered}

-- one number more, or not

keep_app : (b : Bool) (x : ℕ) (xs ys : List ℕ) → keep b x (xs ++ ys) ≡ keep b x xs ++ ys
keep_app true x xs ys = refl
keep_app false x xs ys = refl

pub keep_length : (b : Bool) (x : ℕ) (xs : List ℕ) → length (keep b x xs) ≡ digit b + length xs
keep_length true x xs = omega arith
keep_length false x xs = omega arith

keep_last : (b : Bool) (x : ℕ) (xs : List ℕ) → length (xs ++ keep b x []) ≡ cond b (suc (length xs)) (length xs)
keep_last true x xs = omega (arith, length-append xs (x ∷ []))
keep_last false x xs = omega (arith, length-append xs [])

keep_member : (b : Bool) (x : ℕ) (xs : List ℕ) (i : ℕ) → T (is_member (keep b x xs) i) ↔ ((T b × (i ≡ x)) ⊎ T (is_member xs i))
keep_member true x xs i = (λ h. there (T-or-out (eqb i x) (is_member xs i) h), λ h. T-or (eqb i x) (is_member xs i) (back h))
  where
    there : T (eqb i x) ⊎ T (is_member xs i) → (T true × (i ≡ x)) ⊎ T (is_member xs i)
    there (inl h) = inl (tt, eqb→eq i x h)
    there (inr h) = inr h

    back : (T true × (i ≡ x)) ⊎ T (is_member xs i) → T (eqb i x) ⊎ T (is_member xs i)
    back (inl h) = inl (eq_to_eqb i x h.1)
    back (inr h) = inr h
keep_member false x xs i = (λ h. inr h, back)
  where
    back : (T false × (i ≡ x)) ⊎ T (is_member xs i) → T (is_member xs i)
    back (inl h) = absurd h.0
    back (inr h) = h

-- the numbers

pub numbers_app : (t : ℕ → Rule ℕ → Bool) (s : ℕ) (rs qs : List (Rule ℕ)) → numbers_of t s (rs ++ qs) ≡ numbers_of t s rs ++ numbers_of t (s + length rs) qs
numbers_app t s [] qs = ap (λ (i : ℕ). numbers_of t i qs) (omega arith)
numbers_app t s (r ∷ rs) qs =
    let e : suc s + length rs ≡ s + suc (length rs) = omega arith in
    ap (keep (t s r) s) (numbers_app t (suc s) rs qs ∙ ap (λ (i : ℕ). numbers_of t (suc s) rs ++ numbers_of t i qs) e)
    ∙ keep_app (t s r) s (numbers_of t (suc s) rs) (numbers_of t (s + suc (length rs)) qs)

pub numbers_within : (t : ℕ → Rule ℕ → Bool) (s : ℕ) (rs : List (Rule ℕ)) → All (λ i. (s ≤ i) × (i < s + length rs)) (numbers_of t s rs)
numbers_within t s [] = tt
numbers_within t s (r ∷ rs) =
    all_keep (λ i. (s ≤ i) × (i < s + suc (length rs))) (t s r) s (numbers_of t (suc s) rs) (λ h. (omega arith, omega arith))
    (all_imp (λ i. (suc s ≤ i) × (i < suc s + length rs)) (λ i. (s ≤ i) × (i < s + suc (length rs))) (λ i h. (omega (arith, h.0), omega (arith, h.1))) (numbers_of t (suc s) rs) (numbers_within t (suc s) rs))

pub numbers_member : (t : ℕ → Rule ℕ → Bool) (s : ℕ) (rs : List (Rule ℕ)) (i : ℕ) → T (is_member (numbers_of t s rs) i) ↔ ((s ≤ i) × (i < s + length rs) × T (t i (numbered rs (i - s))))
numbers_member t s [] i = (λ h. absurd h, λ h. absurd (omega (arith, h.0, h.1)))
numbers_member t s (r ∷ rs) i =
    let law = keep_member (t s r) s (numbers_of t (suc s) rs) i in
    let rest = numbers_member t (suc s) rs i in
    (λ h. there rest.0 (law.0 h), λ h. law.1 (back rest.1 h (ℕ_discrete i s)))
  where
    first : i ≡ s → t i (numbered (r ∷ rs) (i - s)) ≡ t s r
    first e = let z : i - s ≡ 0 = omega arith in ap₂ (λ (j k : ℕ). t j (numbered (r ∷ rs) k)) e z

    later : suc s ≤ i → t i (numbered (r ∷ rs) (i - s)) ≡ t i (numbered rs (i - suc s))
    later l = let z : i - s ≡ suc (i - suc s) = omega arith in ap (λ (k : ℕ). t i (numbered (r ∷ rs) k)) z

    there : (T (is_member (numbers_of t (suc s) rs) i) → (suc s ≤ i) × (i < suc s + length rs) × T (t i (numbered rs (i - suc s)))) → (T (t s r) × (i ≡ s)) ⊎ T (is_member (numbers_of t (suc s) rs) i)
        → (s ≤ i) × (i < s + suc (length rs)) × T (t i (numbered (r ∷ rs) (i - s)))
    there f (inl h) = let e : i ≡ s = h.1 in (omega arith, omega arith, T_of (sym (first e)) h.0)
    there f (inr h) = let q = f h in (omega (arith, q.0), omega (arith, q.1), T_of (sym (later q.0)) q.2)

    back : ((suc s ≤ i) × (i < suc s + length rs) × T (t i (numbered rs (i - suc s))) → T (is_member (numbers_of t (suc s) rs) i)) → (s ≤ i) × (i < s + suc (length rs)) × T (t i (numbered (r ∷ rs) (i - s))) → Dec (i ≡ s)
        → (T (t s r) × (i ≡ s)) ⊎ T (is_member (numbers_of t (suc s) rs) i)
    back f h (yes e) = inl (T_of (first e) h.2, e)
    back f h (no e) = let l : suc s ≤ i = omega (arith, h.0) in inr (f (l, omega (arith, h.1), T_of (later l) h.2))

pub numbers_few : (t : ℕ → Rule ℕ → Bool) (s : ℕ) (rs : List (Rule ℕ)) → length (numbers_of t s rs) ≤ length rs
numbers_few t s [] = omega arith
numbers_few t s (r ∷ rs) = step (t s r) (numbers_few t (suc s) rs)
  where
    step : (b : Bool) → length (numbers_of t (suc s) rs) ≤ length rs → length (keep b s (numbers_of t (suc s) rs)) ≤ suc (length rs)
    step true h = omega arith
    step false h = omega arith

-- the rules with an atom

pub with_snoc : (a : ℕ) (rs : List (Rule ℕ)) (r : Rule ℕ) → rules_with a (rs ++ (r ∷ [])) ≡ rules_with a rs ++ keep (is_standing a r) (length rs) []
unfolding rules_with
with_snoc a rs r = numbers_app (λ i q. is_standing a q) 0 rs (r ∷ []) ∙ ap (λ (i : ℕ). rules_with a rs ++ keep (is_standing a r) i []) (zero-add (length rs))

pub with_count : (a i : ℕ) (rs : List (Rule ℕ)) → i < length rs
    → length (rules_with a (take (suc i) rs)) ≡ cond (is_standing a (numbered rs i)) (suc (length (rules_with a (take i rs)))) (length (rules_with a (take i rs)))
with_count a i rs l =
    ap (λ (qs : List (Rule ℕ)). length (rules_with a qs)) (take-suc rs i (rule [] [] []) l)
    ∙ ap length (with_snoc a (take i rs) (numbered rs i))
    ∙ keep_last (is_standing a (numbered rs i)) (length (take i rs)) (rules_with a (take i rs))

-- rule i, which holds the atom, and the rules behind it
with_split : (a i : ℕ) (rs : List (Rule ℕ)) → i < length rs → T (is_standing a (numbered rs i))
    → rules_with a rs ≡ rules_with a (take i rs) ++ (i ∷ numbers_of (λ j r. is_standing a r) (suc i) (drop (suc i) rs))
unfolding rules_with
with_split a i rs l h =
    let before = take i rs in
    let after = drop (suc i) rs in
    let size : 0 + length before ≡ i = omega (arith, length-take-le i rs (omega arith)) in
    ap (rules_with a) (split_at rs i (rule [] [] []) l)
    ∙ numbers_app (λ j r. is_standing a r) 0 before (numbered rs i ∷ after)
    ∙ ap (λ (j : ℕ). rules_with a before ++ keep (is_standing a (numbered rs i)) j (numbers_of (λ k r. is_standing a r) (suc j) after)) size
    ∙ ap (λ (b : Bool). rules_with a before ++ keep b i (numbers_of (λ k r. is_standing a r) (suc i) after)) (is_true_lem (is_standing a (numbered rs i)) h)

pub with_at : (a i : ℕ) (rs : List (Rule ℕ)) → i < length rs → T (is_standing a (numbered rs i))
    → (length (rules_with a (take i rs)) < length (rules_with a rs)) × (get_or (rules_with a rs) (length (rules_with a (take i rs))) 0 ≡ i)
with_at a i rs l h =
    let rest = numbers_of (λ j r. is_standing a r) (suc i) (drop (suc i) rs) in
    let whole = with_split a i rs l h in (
      omega (arith, ap length whole, length-append (rules_with a (take i rs)) (i ∷ rest)),
      ap (λ (xs : List ℕ). get_or xs (length (rules_with a (take i rs))) 0) whole ∙ get_or-append_seam (rules_with a (take i rs)) i rest 0,
    )

pub with_few : (a : ℕ) (rs : List (Rule ℕ)) → length (rules_with a rs) ≤ length rs
unfolding rules_with
with_few a rs = numbers_few (λ i r. is_standing a r) 0 rs
