-- How All, Any, the tests and Distinct go through the lists made from lists.
use Prim.Native.Nat.{ℕ, zero, suc, ◌+◌, ◌-◌, ◌*◌, ◌≤◌, ◌<◌}
use mathlib.Core.Path.{◌≡◌, refl, sym, ap, ap₂, ◌∙◌, subst}
use mathlib.Core.Logic.{◌⊎◌, inl, inr, ◌↔◌, ◌≢◌}
use mathlib.Core.List.{List, [], ◌∷◌, ◌++◌, map}
use mathlib.Core.Bool.{Bool, true, false, ◌||◌, or_comm}
use native.Mathlib.Omega.{arith}
use native.Mathlib.Decide.{ℕ_discrete}
use native.Mathlib.Nat.{add-sub_cancel_left}
use lib.Dec.{T, eqb}
use lib.ListN.{length, get_or, take, drop, length-drop}
use lib.Seq.{take_all}
use borrow.Author.Tests.{eq-eqb, ne_eqb}
use Rattle.rules.specs.Lists.{All, Any, Distinct, every, some, is_empty, keep, filter, sum, flat, from}
use Rattle.rules.proofs.Booleans.{decide, T_and, T-and-l, T-and-r, T-or, T-or-out, or_assoc, or-false}

module _ {A : Type 0} (P : A → Type 0) where
  pub all_app : (xs ys : List A) → All P xs → All P ys → All P (xs ++ ys)
  all_app [] ys h k = k
  all_app (x ∷ xs) ys h k = (h.0, all_app xs ys h.1 k)

  pub all_app_l : (xs ys : List A) → All P (xs ++ ys) → All P xs
  all_app_l [] ys h = tt
  all_app_l (x ∷ xs) ys h = (h.0, all_app_l xs ys h.1)

  pub all_app_r : (xs ys : List A) → All P (xs ++ ys) → All P ys
  all_app_r [] ys h = h
  all_app_r (x ∷ xs) ys h = all_app_r xs ys h.1

  pub all_keep : (b : Bool) (x : A) (r : List A) → (T b → P x) → All P r → All P (keep b x r)
  all_keep true x r h k = (h tt, k)
  all_keep false x r h k = k

  pub keep_all_head : (b : Bool) (x : A) (r : List A) → All P (keep b x r) → T b → P x
  keep_all_head true x r h t = h.0
  keep_all_head false x r h t = absurd t

  pub keep_all_tail : (b : Bool) (x : A) (r : List A) → All P (keep b x r) → All P r
  keep_all_tail true x r h = h.1
  keep_all_tail false x r h = h

  pub all_filter : (p : A → Bool) (l : List A) → All (λ a. T (p a) → P a) l → All P (filter p l)
  all_filter p [] h = tt
  all_filter p (x ∷ l) h = all_keep (p x) x (filter p l) h.0 (all_filter p l h.1)

  pub filter_all : (p : A → Bool) (l : List A) → All P (filter p l) → All (λ a. T (p a) → P a) l
  filter_all p [] h = tt
  filter_all p (x ∷ l) h = (keep_all_head (p x) x (filter p l) h, filter_all p l (keep_all_tail (p x) x (filter p l) h))

  pub all_imp : (Q : A → Type 0) → ((a : A) → P a → Q a) → (l : List A) → All P l → All Q l
  all_imp Q f [] h = tt
  all_imp Q f (x ∷ l) h = (f x h.0, all_imp Q f l h.1)

  pub all_both : (Q : A → Type 0) (l : List A) → All P l → All Q l → All (λ a. P a × Q a) l
  all_both Q [] h k = tt
  all_both Q (x ∷ l) h k = ((h.0, k.0), all_both Q l h.1 k.1)

  pub all_any : (Q : A → Type 0) (l : List A) → All P l → Any Q l → (a : A) × P a × Q a
  all_any Q [] h k = absurd k
  all_any Q (x ∷ l) h (inl q) = (x, h.0, q)
  all_any Q (x ∷ l) h (inr k) = all_any Q l h.1 k

  pub any_imp : (Q : A → Type 0) → ((a : A) → P a → Q a) → (l : List A) → Any P l → Any Q l
  any_imp Q f [] h = h
  any_imp Q f (x ∷ l) (inl p) = inl (f x p)
  any_imp Q f (x ∷ l) (inr h) = inr (any_imp Q f l h)

  -- Any with what All says at the same place
  pub any_with : (Q : A → Type 0) (l : List A) → All Q l → Any P l → Any (λ a. Q a × P a) l
  any_with Q [] h k = k
  any_with Q (x ∷ l) h (inl p) = inl (h.0, p)
  any_with Q (x ∷ l) h (inr k) = inr (any_with Q l h.1 k)

  pub any_app : (xs ys : List A) → Any P xs ⊎ Any P ys → Any P (xs ++ ys)
  any_app [] ys (inl h) = absurd h
  any_app [] ys (inr h) = h
  any_app (x ∷ xs) ys (inl (inl h)) = inl h
  any_app (x ∷ xs) ys (inl (inr h)) = inr (any_app xs ys (inl h))
  any_app (x ∷ xs) ys (inr h) = inr (any_app xs ys (inr h))

  pub app_any : (xs ys : List A) → Any P (xs ++ ys) → Any P xs ⊎ Any P ys
  app_any [] ys h = inr h
  app_any (x ∷ xs) ys (inl h) = inl (inl h)
  app_any (x ∷ xs) ys (inr h) = step (app_any xs ys h)
    where
      step : Any P xs ⊎ Any P ys → (P x ⊎ Any P xs) ⊎ Any P ys
      step (inl k) = inl (inr k)
      step (inr k) = inr k

  pub any_keep_head : (b : Bool) (x : A) (r : List A) → T b → P x → Any P (keep b x r)
  any_keep_head true x r t h = inl h
  any_keep_head false x r t h = absurd t

  pub any_keep_tail : (b : Bool) (x : A) (r : List A) → Any P r → Any P (keep b x r)
  any_keep_tail true x r h = inr h
  any_keep_tail false x r h = h

  pub any_filter : (p : A → Bool) (l : List A) → Any (λ a. T (p a) × P a) l → Any P (filter p l)
  any_filter p [] h = h
  any_filter p (x ∷ l) (inl h) = any_keep_head (p x) x (filter p l) h.0 h.1
  any_filter p (x ∷ l) (inr h) = any_keep_tail (p x) x (filter p l) (any_filter p l h)

  pub keep_any : (b : Bool) (x : A) (r : List A) → Any P (keep b x r) → (T b × P x) ⊎ Any P r
  keep_any true x r (inl h) = inl (tt, h)
  keep_any true x r (inr h) = inr h
  keep_any false x r h = inr h

  pub filter_any : (p : A → Bool) (l : List A) → Any P (filter p l) → Any (λ a. T (p a) × P a) l
  filter_any p [] h = h
  filter_any p (x ∷ l) h = step (λ (k : Any P (filter p l)). filter_any p l k) (keep_any (p x) x (filter p l) h)
    where
      step : (Any P (filter p l) → Any (λ a. T (p a) × P a) l) → (T (p x) × P x) ⊎ Any P (filter p l) → (T (p x) × P x) ⊎ Any (λ a. T (p a) × P a) l
      step f (inl k) = inl k
      step f (inr k) = inr (f k)

module _ {A B : Type 0} (P : B → Type 0) where
  pub all_map : (f : A → B) (l : List A) → All (λ a. P (f a)) l → All P (map f l)
  all_map f [] h = tt
  all_map f (x ∷ l) h = (h.0, all_map f l h.1)

  pub map_all : (f : A → B) (l : List A) → All P (map f l) → All (λ a. P (f a)) l
  map_all f [] h = tt
  map_all f (x ∷ l) h = (h.0, map_all f l h.1)

  pub any_map : (f : A → B) (l : List A) → Any (λ a. P (f a)) l → Any P (map f l)
  any_map f [] h = h
  any_map f (x ∷ l) (inl h) = inl h
  any_map f (x ∷ l) (inr h) = inr (any_map f l h)

  pub map_any : (f : A → B) (l : List A) → Any P (map f l) → Any (λ a. P (f a)) l
  map_any f [] h = h
  map_any f (x ∷ l) (inl h) = inl h
  map_any f (x ∷ l) (inr h) = inr (map_any f l h)

  pub all_flat : (f : A → List B) (l : List A) → All (λ a. All P (f a)) l → All P (flat f l)
  all_flat f [] h = tt
  all_flat f (x ∷ l) h = all_app P (f x) (flat f l) h.0 (all_flat f l h.1)

  pub flat_all : (f : A → List B) (l : List A) → All P (flat f l) → All (λ a. All P (f a)) l
  flat_all f [] h = tt
  flat_all f (x ∷ l) h = (all_app_l P (f x) (flat f l) h, flat_all f l (all_app_r P (f x) (flat f l) h))

module _ (P : ℕ → Type 0) where
  pub all_from : (s c : ℕ) → ((a : ℕ) → s ≤ a → a < s + c → P a) → All P (from s c)
  all_from s zero f = tt
  all_from s (suc c) f = (f s (omega arith) (omega arith), all_from (suc s) c (λ a h k. f a (omega arith) (omega arith)))

  pub from_all : (s c : ℕ) → All P (from s c) → (a : ℕ) → s ≤ a → a < s + c → P a
  from_all s zero h a l u = absurd (omega arith)
  from_all s (suc c) h a l u = step (λ (l' : suc s ≤ a) (u' : a < suc s + c). from_all (suc s) c h.1 a l' u') (ℕ_discrete s a)
    where
      step : (suc s ≤ a → a < suc s + c → P a) → Dec (s ≡ a) → P a
      step f (yes e) = subst P e h.0
      step f (no e) = f (omega arith) (omega arith)

  pub any_from : (s c a : ℕ) → s ≤ a → a < s + c → P a → Any P (from s c)
  any_from s zero a l u p = absurd (omega arith)
  any_from s (suc c) a l u p = step (λ (l' : suc s ≤ a) (u' : a < suc s + c). any_from (suc s) c a l' u' p) (ℕ_discrete s a)
    where
      step : (suc s ≤ a → a < suc s + c → Any P (from (suc s) c)) → Dec (s ≡ a) → P s ⊎ Any P (from (suc s) c)
      step f (yes e) = inl (subst P (sym e) p)
      step f (no e) = inr (f (omega arith) (omega arith))

  pub from_any : (s c : ℕ) → Any P (from s c) → (a : ℕ) × (s ≤ a) × (a < s + c) × P a
  from_any s zero h = absurd h
  from_any s (suc c) (inl p) = (s, omega arith, omega arith, p)
  from_any s (suc c) (inr h) = let r = from_any (suc s) c h in (r.0, omega arith, omega arith, r.3)

-- two facts of each entry, or a fact of each and one of some entry

module _ {A : Type 0} (P Q R : A → Type 0) (f : (a : A) → P a → Q a → R a) where
  pub all_zip : (l : List A) → All P l → All Q l → All R l
  all_zip [] h k = tt
  all_zip (x ∷ l) h k = (f x h.0 k.0, all_zip l h.1 k.1)

  pub any_zip : (l : List A) → All P l → Any Q l → Any R l
  any_zip [] h k = k
  any_zip (x ∷ l) h (inl k) = inl (f x h.0 k)
  any_zip (x ∷ l) h (inr k) = inr (any_zip l h.1 k)

-- a decided test, somewhere or nowhere
pub any_or_none : {A : Type 0} (p : A → Bool) (l : List A) → Any (λ a. T (p a)) l ⊎ All (λ a. T (p a) → ⊥) l
any_or_none p [] = inr tt
any_or_none {A} p (x ∷ l) = step (decide (p x)) (any_or_none p l)
  where
    step : T (p x) ⊎ (T (p x) → ⊥) → Any (λ a. T (p a)) l ⊎ All (λ a. T (p a) → ⊥) l → (T (p x) ⊎ Any (λ a. T (p a)) l) ⊎ ((T (p x) → ⊥) × All (λ a. T (p a) → ⊥) l)
    step (inl t) r = inl (inl t)
    step (inr t) (inl r) = inl (inr r)
    step (inr t) (inr r) = inr (t, r)

-- the same as rules for simp
module _ {A : Type 0} (P : A → Type 0) where
  pub app_iff : (xs ys : List A) → All P (xs ++ ys) ↔ (All P xs × All P ys)
  app_iff xs ys = (λ h. (all_app_l P xs ys h, all_app_r P xs ys h), λ h. all_app P xs ys h.0 h.1)

  pub filter_iff : (p : A → Bool) (l : List A) → All P (filter p l) ↔ All (λ a. T (p a) → P a) l
  filter_iff p l = (filter_all P p l, all_filter P p l)

  pub keep_iff : (b : Bool) (x : A) (l : List A) → All P (keep b x l) ↔ ((T b → P x) × All P l)
  keep_iff b x l = (λ h. (keep_all_head P b x l h, keep_all_tail P b x l h), λ h. all_keep P b x l h.0 h.1)

module _ {A B : Type 0} (P : B → Type 0) where
  pub map_iff : (f : A → B) (l : List A) → All P (map f l) ↔ All (λ a. P (f a)) l
  map_iff f l = (map_all P f l, all_map P f l)

  pub flat_iff : (f : A → List B) (l : List A) → All P (flat f l) ↔ All (λ a. All P (f a)) l
  flat_iff f l = (flat_all P f l, all_flat P f l)

pub from_iff : (P : ℕ → Type 0) (s c : ℕ) → All P (from s c) ↔ ((a : ℕ) → s ≤ a → a < s + c → P a)
from_iff P s c = (from_all P s c, all_from P s c)

pub ruleset All·simp = (app_iff, filter_iff, map_iff, flat_iff, from_iff)

-- the tests

module _ {A : Type 0} (p : A → Bool) (P : A → Type 0) (law : (a : A) → T (p a) ↔ P a) where
  pub every_all : (l : List A) → T (every p l) ↔ All P l
  every_all [] = (λ h. h, λ h. h)
  every_all (x ∷ l) =
      let r = every_all l in (
        λ h. ((law x).0 (T-and-l (p x) (every p l) h), r.0 (T-and-r (p x) (every p l) h)),
        λ h. T_and (p x) (every p l) ((law x).1 h.0) (r.1 h.1),
      )

  pub some_any : (l : List A) → T (some p l) ↔ Any P l
  some_any [] = (λ h. h, λ h. h)
  some_any (x ∷ l) = let r = some_any l in (λ h. there r (T-or-out (p x) (some p l) h), λ h. T-or (p x) (some p l) (back r h))
    where
      there : T (some p l) ↔ Any P l → T (p x) ⊎ T (some p l) → P x ⊎ Any P l
      there r (inl h) = inl ((law x).0 h)
      there r (inr h) = inr (r.0 h)

      back : T (some p l) ↔ Any P l → P x ⊎ Any P l → T (p x) ⊎ T (some p l)
      back r (inl h) = inl ((law x).1 h)
      back r (inr h) = inr (r.1 h)

pub every_from : (p : ℕ → Bool) (P : ℕ → Type 0) → ((a : ℕ) → T (p a) ↔ P a) → (s c : ℕ) → T (every p (from s c)) ↔ ((a : ℕ) → s ≤ a → a < s + c → P a)
every_from p P law s c = let r = every_all p P law (from s c) in (λ h. from_all P s c (r.0 h), λ h. r.1 (all_from P s c h))

-- lengths and parts

pub length_from : (s c : ℕ) → length (from s c) ≡ c
length_from s zero = refl
length_from s (suc c) = ap suc (length_from (suc s) c)

pub map_from_at : {A : Type 0} (f : ℕ → A) (d : A) (s c i : ℕ) → i < c → get_or (map f (from s c)) i d ≡ f (s + i)
map_from_at f d s zero i l = absurd (omega arith)
map_from_at f d s (suc c) zero l = ap f (omega arith)
map_from_at f d s (suc c) (suc i) l = let e : suc s + i ≡ s + suc i = omega arith in map_from_at f d (suc s) c i (omega arith) ∙ ap f e

-- the part from a to a + n
pub part_sized : {A : Type 0} (a n : ℕ) (l : List A) → take (a + n - a) l ≡ take n l
part_sized a n l = rw add-sub_cancel_left

-- a part to the end is what is left
pub part_rest : {A : Type 0} (k : ℕ) (l : List A) → take (length l - k) (drop k l) ≡ drop k l
part_rest k l = take_all (length l - k) (drop k l) (omega (arith, length-drop k l))

pub none_left : {A : Type 0} (l : List A) (k : ℕ) → k ≤ length l → eqb k (length l) ≡ is_empty (drop k l)
none_left {A} l k h = go (drop k l) (length-drop k l)
  where
    go : (rest : List A) → length rest ≡ length l - k → eqb k (length l) ≡ is_empty rest
    go [] e = eq-eqb k (length l) (omega arith)
    go (x ∷ rest) e = ne_eqb k (length l) (λ q. omega arith)

pub all_at : {A : Type 0} (P : A → Type 0) (d : A) (xs : List A) → All P xs → (i : ℕ) → i < length xs → P (get_or xs i d)
all_at P d [] h i l = absurd (omega arith)
all_at P d (x ∷ xs) h zero l = h.0
all_at P d (x ∷ xs) h (suc i) l = all_at P d xs h.1 i (omega arith)

pub map_at : {A B : Type 0} (f : A → B) (l : List A) (i : ℕ) (d : A) (e : B) → i < length l → get_or (map f l) i e ≡ f (get_or l i d)
map_at f [] i d e h = absurd (omega arith)
map_at f (x ∷ l) zero d e h = refl
map_at f (x ∷ l) (suc i) d e h = map_at f l i d e (omega arith)

-- a test somewhere in two lists, and in a list with one more entry
pub some_app : {A : Type 0} (p : A → Bool) (xs ys : List A) → some p (xs ++ ys) ≡ (some p xs || some p ys)
some_app p [] ys = refl
some_app p (x ∷ xs) ys = ap (λ (b : Bool). p x || b) (some_app p xs ys) ∙ or_assoc (p x) (some p xs) (some p ys)

pub some_last : {A : Type 0} (p : A → Bool) (xs : List A) (x : A) → some p (xs ++ (x ∷ [])) ≡ (p x || some p xs)
some_last p xs x = some_app p xs (x ∷ []) ∙ or_comm (some p xs) (p x || false) ∙ ap (λ (b : Bool). b || some p xs) (or-false (p x))

-- each entry that passes a test makes it pass somewhere
pub some_each : {A B : Type 0} (p : B → A → Bool) (l : List A) → All (λ x. (b : B) → T (p b x) → T (some (p b) l)) l
some_each p [] = tt
some_each {B} p (x ∷ l) = (
  λ b t. T-or (p b x) (some (p b) l) (inl t),
  all_imp (λ y. (b : B) → T (p b y) → T (some (p b) l)) _ (λ y h b t. T-or (p b x) (some (p b) l) (inr (h b t))) l (some_each p l),
)

pub distinct_from : (s c : ℕ) → Distinct (from s c)
distinct_from s zero = tt
distinct_from s (suc c) = (all_from (λ y. s ≢ y) (suc s) c (λ a l u. omega arith), distinct_from (suc s) c)

-- f tells the entries of l apart
pub distinct_map : {A B : Type 0} (f : A → B) (P : A → Type 0) → ((a b : A) → P a → P b → f a ≡ f b → a ≡ b) → (l : List A) → All P l → Distinct l → Distinct (map f l)
distinct_map f P i [] h d = tt
distinct_map f P i (x ∷ l) h d = (
  all_map (λ y. f x ≢ y) f l (all_imp (λ a. P a × (x ≢ a)) (λ a. f x ≢ f a) (λ a k e. k.1 (i x a h.0 k.0 e)) l (all_both P (λ a. x ≢ a) l h.1 d.0)),
  distinct_map f P i l h.1 d.1,
)

pub sum_app : {A : Type 0} (f : A → ℕ) (xs ys : List A) → sum f (xs ++ ys) ≡ sum f xs + sum f ys
sum_app f [] ys = omega arith
sum_app f (x ∷ xs) ys = omega (arith, sum_app f xs ys)

pub sum_eq : {A : Type 0} (f g : A → ℕ) (l : List A) → All (λ a. f a ≡ g a) l → sum f l ≡ sum g l
sum_eq f g [] h = refl
sum_eq f g (x ∷ l) h = omega (arith, h.0, sum_eq f g l h.1)

pub sum_twice : {A : Type 0} (f : A → ℕ) (l : List A) → sum (λ a. f a * 2) l ≡ 2 * sum f l
sum_twice f [] = refl
sum_twice f (x ∷ l) = omega (arith, sum_twice f l)

-- following numbers in two parts
pub from_append : (s c d : ℕ) → from s c ++ from (s + c) d ≡ from s (c + d)
from_append s zero d = let e : s + 0 ≡ s = omega arith in let f : d ≡ 0 + d = omega arith in ap₂ from e f
from_append s (suc c) d =
    let e : s + suc c ≡ suc s + c = omega arith in
    let f : suc (c + d) ≡ suc c + d = omega arith in
    ap (λ (l : List ℕ). s ∷ l) (ap (λ (b : ℕ). from (suc s) c ++ from b d) e ∙ from_append (suc s) c d) ∙ ap (from s) f
