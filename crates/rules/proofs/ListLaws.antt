-- General laws of lists: following numbers, chosen entries, entries that differ.
use Prim.Native.Nat.{ℕ, zero, suc, ◌+◌, ◌≤◌, ◌<◌}
use native.Mathlib.Omega.{arith}
use mathlib.Core.Path.{◌≡◌, refl, sym, ap, ap₂, subst, ◌∙◌}
use mathlib.Core.List.{List, [], ◌∷◌, ◌++◌, map, map-append, append_assoc, head-eq_of_cons-eq, tail-eq_of_cons-eq}
use mathlib.Core.Bool.{Bool, true, false}
use mathlib.Core.Logic.{◌≢◌}
use lib.Dec.{T, ltb, lt→ltb, ltb→lt}
use lib.ListN.{length, get_or, take, length-append}
use lib.Seq.{get_or-append_seam}
use Rattle.rules.specs.Lists.{All, Any, Distinct, keep, filter, flat, from}
use Rattle.rules.proofs.Booleans.{T_of, bool_ext}
use Rattle.rules.proofs.Filtered.{filter_none}
use Rattle.rules.proofs.Lists.{all_imp, all_app, all_filter, any_filter, all_map, all_from, from_all, any_from, from_any, distinct_map}

-- following numbers

pub shifted : (b s c : ℕ) → map (λ (a : ℕ). b + a) (from s c) ≡ from (b + s) c
shifted b s zero = refl
shifted b s (suc c) = let e : b + suc s ≡ suc (b + s) = omega arith in ap (λ (l : List ℕ). (b + s) ∷ l) (shifted b (suc s) c ∙ ap (λ (x : ℕ). from x c) e)

-- the entries at following places
pub entries : {A : Type 0} (d : A) (l : List A) (pre : List A) (c : ℕ) → c ≤ length l → map (λ (a : ℕ). get_or (pre ++ l) a d) (from (length pre) c) ≡ take c l
entries d [] pre zero h = refl
entries d [] pre (suc c) h = absurd (omega arith)
entries d (x ∷ l) pre zero h = refl
entries {A} d (x ∷ l) pre (suc c) h = ap₂ (λ (y : A) (r : List A). y ∷ r) (get_or-append_seam pre x l d) (next ∙ entries d l (pre ++ (x ∷ [])) c (omega arith))
  where
    longer : suc (length pre) ≡ length (pre ++ (x ∷ []))
    longer = omega (arith, length-append pre (x ∷ []))

    next : map (λ (a : ℕ). get_or (pre ++ (x ∷ l)) a d) (from (suc (length pre)) c) ≡ map (λ (a : ℕ). get_or ((pre ++ (x ∷ [])) ++ l) a d) (from (length (pre ++ (x ∷ []))) c)
    next = ap₂ (λ (r : List A) (s : ℕ). map (λ (a : ℕ). get_or r a d) (from s c)) (sym (append_assoc pre (x ∷ []) l)) longer

-- a list numbered along is found again by its numbers
pub found : {A : Type 0} (num : A → ℕ) (d : A) (pre l : List A) → map num l ≡ from (length pre) (length l) → All (λ c. get_or (pre ++ l) (num c) d ≡ c) l
found num d pre [] e = tt
found {A} num d pre (c ∷ l) e = (
  ap (λ (i : ℕ). get_or (pre ++ (c ∷ l)) i d) (head-eq_of_cons-eq e) ∙ get_or-append_seam pre c l d,
  subst (λ (w : List A). All (λ x. get_or w (num x) d ≡ x) l) (append_assoc pre (c ∷ []) l) (found num d (pre ++ (c ∷ [])) l (tail-eq_of_cons-eq e ∙ ap (λ (i : ℕ). from i (length l)) longer)),
)
  where
    longer : suc (length pre) ≡ length (pre ++ (c ∷ []))
    longer = omega (arith, length-append pre (c ∷ []))

-- maps

pub map_flat : {A B C : Type 0} (f : B → C) (g : A → List B) (l : List A) → map f (flat g l) ≡ flat (λ a. map f (g a)) l
map_flat f g [] = refl
map_flat {C} f g (x ∷ l) = map-append f (g x) (flat g l) ∙ ap (λ (r : List C). map f (g x) ++ r) (map_flat f g l)

pub flat_map : {A B C : Type 0} (f : B → List C) (g : A → B) (l : List A) → flat f (map g l) ≡ flat (λ a. f (g a)) l
flat_map f g [] = refl
flat_map {C} f g (x ∷ l) = ap (λ (r : List C). f (g x) ++ r) (flat_map f g l)

pub flat_append : {A B : Type 0} (f : A → List B) (xs ys : List A) → flat f (xs ++ ys) ≡ flat f xs ++ flat f ys
flat_append f [] ys = refl
flat_append {B} f (x ∷ xs) ys = ap (λ (r : List B). f x ++ r) (flat_append f xs ys) ∙ sym (append_assoc (f x) (flat f xs) (flat f ys))

pub all_each : {A : Type 0} (P : A → Type 0) → ((a : A) → P a) → (l : List A) → All P l
all_each P f [] = tt
all_each P f (x ∷ l) = (f x, all_each P f l)

-- functions that agree on a list

pub map_same : {A B : Type 0} (f g : A → B) (l : List A) → All (λ a. f a ≡ g a) l → map f l ≡ map g l
map_same f g [] h = refl
map_same {B} f g (x ∷ l) h = ap₂ (λ (y : B) (r : List B). y ∷ r) h.0 (map_same f g l h.1)

pub map_eq : {A B : Type 0} (f g : A → B) → ((a : A) → f a ≡ g a) → (l : List A) → map f l ≡ map g l
map_eq f g h l = map_same f g l (all_each (λ a. f a ≡ g a) h l)

pub map_itself : {A : Type 0} (f : A → A) (l : List A) → All (λ a. f a ≡ a) l → map f l ≡ l
map_itself f [] h = refl
map_itself {A} f (x ∷ l) h = ap₂ (λ (y : A) (r : List A). y ∷ r) h.0 (map_itself f l h.1)

pub flat_same : {A B : Type 0} (f g : A → List B) (l : List A) → All (λ a. f a ≡ g a) l → flat f l ≡ flat g l
flat_same f g [] h = refl
flat_same {B} f g (x ∷ l) h = ap₂ (λ (y r : List B). y ++ r) h.0 (flat_same f g l h.1)

-- chosen entries

-- a test that holds below wherever it holds chooses a first part
pub filter_first : (t : ℕ → Bool) (s c : ℕ) → ((a b : ℕ) → s ≤ a → a < b → b < s + c → T (t b) → T (t a)) → filter t (from s c) ≡ from s (length (filter t (from s c)))
filter_first t s zero h = refl
filter_first t s (suc c) h = step (t s) refl (filter_first t (suc s) c (λ a b l m u. h a b (omega arith) m (omega arith)))
  where
    rest : List ℕ
    rest = filter t (from (suc s) c)

    step : (b : Bool) → t s ≡ b → rest ≡ from (suc s) (length rest) → keep b s rest ≡ from s (length (keep b s rest))
    step true e ih = ap (λ (l : List ℕ). s ∷ l) ih
    step false e ih = none ∙ ap (λ (l : List ℕ). from s (length l)) (sym none)
      where
        none : rest ≡ []
        none = filter_none t (from (suc s) c) (all_from (λ a. T (t a) → ⊥) (suc s) c (λ a l u k. T_of e (h s a (omega arith) l (omega arith) k)))

-- a test that chooses a first part holds below its end
pub first_part : (t : ℕ → Bool) (n c : ℕ) → filter t (from 0 n) ≡ from 0 c → (a : ℕ) → a < n → t a ≡ ltb a c
first_part t n c e a l = bool_ext (t a) (ltb a c) there back
  where
    there : T (t a) → T (ltb a c)
    there h =
        let q = from_any (λ b. b ≡ a) 0 c (subst (Any (λ b. b ≡ a)) e (any_filter (λ b. b ≡ a) t (from 0 n) (any_from (λ b. T (t b) × (b ≡ a)) 0 n a (omega arith) (omega arith) (h, refl)))) in
        let is : q.0 ≡ a = q.3 in
        lt→ltb a c (omega (arith, q.2))

    back : T (ltb a c) → T (t a)
    back h = from_all (λ b. T (t b)) 0 c (subst (All (λ b. T (t b))) e (all_filter (λ b. T (t b)) t (from 0 n) (all_each (λ b. T (t b) → T (t b)) (λ b k. k) (from 0 n)))) a (omega arith) (omega (arith, ltb→lt a c h))

-- entries that differ

module _ {A : Type 0} where
  pub distinct_app : (xs ys : List A) → Distinct xs → Distinct ys → All (λ x. All (λ y. x ≢ y) ys) xs → Distinct (xs ++ ys)
  distinct_app [] ys h k a = k
  distinct_app (x ∷ xs) ys h k a = (all_app (λ y. x ≢ y) xs ys h.0 a.0, distinct_app xs ys h.1 k a.1)

  pub all_take : (P : A → Type 0) (n : ℕ) (l : List A) → All P l → All P (take n l)
  all_take P zero l h = tt
  all_take P (suc n) [] h = tt
  all_take P (suc n) (x ∷ l) h = (h.0, all_take P n l h.1)

  pub distinct_take : (n : ℕ) (l : List A) → Distinct l → Distinct (take n l)
  distinct_take zero l h = tt
  distinct_take (suc n) [] h = tt
  distinct_take (suc n) (x ∷ l) h = (all_take (λ y. x ≢ y) n l h.0, distinct_take n l h.1)

module _ {A B : Type 0} (f : A → B) where
  pub distinct_inj : ((a b : A) → f a ≡ f b → a ≡ b) → (l : List A) → Distinct l → Distinct (map f l)
  distinct_inj i l h = distinct_map f (λ a. Unit {0}) (λ a b p q. i a b) l (all_each (λ a. Unit {0}) (λ a. tt) l) h

  -- y is f of nothing
  abbrev pub NoImage : B → Type 0
  NoImage y = (a : A) → f a ≢ y

  pub distinct_map_app : ((a b : A) → f a ≡ f b → a ≡ b) → (l : List A) (ys : List B) → Distinct l → Distinct ys → All NoImage ys → Distinct (map f l ++ ys)
  distinct_map_app i l ys h k apart = distinct_app (map f l) ys (distinct_inj i l h) k
      (all_map (λ x. All (λ y. x ≢ y) ys) f l (all_each (λ a. All (λ y. f a ≢ y) ys) (λ a. all_imp NoImage (λ y. f a ≢ y) (λ y q. q a) ys apart) l))
