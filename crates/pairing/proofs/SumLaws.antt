-- Laws of sums over lists.
use Prim.Native.Nat.{ℕ, zero, suc, ◌+◌, ◌*◌, ◌≤◌, ◌<◌}
use native.Mathlib.Omega.{arith}
use native.Mathlib.Decide.{ℕ_discrete}
use mathlib.Core.Path.{◌≡◌, refl, sym, ap, ◌∙◌}
use mathlib.Core.List.{List, [], ◌∷◌}
use mathlib.Core.Bool.{Bool, true, false, not}
use mathlib.Core.Logic.{◌⊎◌, inl, inr}
use lib.Dec.{T, eqb, eqb→eq}
use lib.ListN.{length}
use Rattle.rules.specs.Lists.{keep, filter, from, sum}
use Rattle.rules.proofs.Booleans.{eq_to_eqb}
use Rattle.rules.proofs.Sets.{digit}
use Rattle.rules.proofs.Lists.{sum_eq}
use Rattle.rules.proofs.ListLaws.{all_each}

module _ {A : Type 0} where
  pub sum_add : (f g : A → ℕ) (l : List A) → sum (λ a. f a + g a) l ≡ sum f l + sum g l
  sum_add f g [] = omega arith
  sum_add f g (x ∷ l) = omega (arith, sum_add f g l)

  pub sum_const : (c : ℕ) (l : List A) → sum (λ a. c) l ≡ c * length l
  sum_const c [] = omega arith
  sum_const c (x ∷ l) = omega (arith, sum_const c l)

  -- an entry that is kept or not
  pub length_keep : (b : Bool) (x : A) (l : List A) → length (keep b x l) ≡ digit b + length l
  length_keep true x l = omega arith
  length_keep false x l = omega arith

  pub sum_keep : (f : A → ℕ) (b : Bool) (x : A) (l : List A) → sum f (keep b x l) ≡ digit b * f x + sum f l
  sum_keep f true x l = omega arith
  sum_keep f false x l = omega arith

  pub length_filter : (t : A → Bool) (l : List A) → length (filter t l) ≡ sum (λ a. digit (t a)) l
  length_filter t [] = refl
  length_filter t (x ∷ l) = omega (arith, length_keep (t x) x (filter t l), length_filter t l)

module _ {A B : Type 0} where
  pub sum_swap : (f : A → B → ℕ) (xs : List A) (ys : List B) → sum (λ a. sum (f a) ys) xs ≡ sum (λ b. sum (λ a. f a b) xs) ys
  sum_swap f [] ys = sym (sum_const 0 ys ∙ omega arith)
  sum_swap f (x ∷ xs) ys = ap (λ (n : ℕ). sum (f x) ys + n) (sum_swap f xs ys) ∙ sym (sum_add (f x) (λ b. sum (λ a. f a b) xs) ys)

-- the chosen and the others
pub length_parts : {A : Type 0} (t : A → Bool) (l : List A) → length (filter t l) + length (filter (λ a. not (t a)) l) ≡ length l
length_parts {A} t l =
    let e = sum_add (λ a. digit (t a)) (λ a. digit (not (t a))) l in
    let f = sum_eq (λ a. digit (t a) + digit (not (t a))) (λ a. 1) l (all_each (λ a. digit (t a) + digit (not (t a)) ≡ 1) (λ a. one (t a)) l) in
    omega (arith, length_filter t l, length_filter (λ a. not (t a)) l, sum_const 1 l)
  where
    one : (b : Bool) → digit b + digit (not b) ≡ 1
    one true = refl
    one false = refl

pub digit_same : (b : Bool) → T b → digit b ≡ 1
digit_same true h = refl
digit_same false h = absurd h

pub digit_other : (b : Bool) → (T b → ⊥) → digit b ≡ 0
digit_other true h = absurd (h tt)
digit_other false h = refl

-- how often c is met among l numbers from s on
abbrev pub met : ℕ → ℕ → ℕ → ℕ
met c s l = sum (λ i. digit (eqb c i)) (from s l)

pub met_not : (c s l : ℕ) → (c < s) ⊎ (s + l ≤ c) → met c s l ≡ 0
met_not c s zero h = refl
met_not c s (suc l) (inl h) = omega (arith, digit_other (eqb c s) (λ t. let e = eqb→eq c s t in omega arith), met_not c (suc s) l (inl (omega arith)))
met_not c s (suc l) (inr h) = omega (arith, digit_other (eqb c s) (λ t. let e = eqb→eq c s t in omega arith), met_not c (suc s) l (inr (omega arith)))

pub met_once : (c s l : ℕ) → s ≤ c → c < s + l → met c s l ≡ 1
met_once c s zero h k = absurd (omega arith)
met_once c s (suc l) h k = step (λ (h' : suc s ≤ c) (k' : c < suc s + l). met_once c (suc s) l h' k') (ℕ_discrete c s)
  where
    step : (suc s ≤ c → c < suc s + l → met c (suc s) l ≡ 1) → Dec (c ≡ s) → digit (eqb c s) + met c (suc s) l ≡ 1
    step f (yes e) = omega (arith, digit_same (eqb c s) (eq_to_eqb c s e), met_not c (suc s) l (inl (omega arith)))
    step f (no e) = omega (arith, digit_other (eqb c s) (λ t. e (eqb→eq c s t)), f (omega arith) (omega arith))
