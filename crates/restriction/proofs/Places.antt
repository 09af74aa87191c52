-- Lists of atoms and the places of the atoms in them.
use Prim.Native.Nat.{ℕ, zero, suc, ◌+◌, ◌-◌, ◌<◌}
use mathlib.Core.Path.{◌≡◌, refl, sym, ap, subst, ◌∙◌}
use mathlib.Core.List.{List, [], ◌∷◌, ◌++◌, map, map-append}
use mathlib.Core.Bool.{Bool, true, false, cond, ◌||◌}
use mathlib.Core.Logic.{◌↔◌}
use native.Mathlib.Omega.{arith}
use lib.Dec.{T, eqb, eqb→eq, eqb_refl}
use lib.ListN.{length, get_or, length-map}
use lib.Seq.{ext_get_or}
use borrow.Author.Tests.{eq-eqb, ne_eqb}
use Rattle.rules.specs.Lists.{All, Any, Distinct, keep, filter, from}
use Rattle.rules.specs.Rules.{Rule, rename}
use Rattle.rules.specs.Renumbering.{Within}
use Rattle.rules.proofs.Booleans.{eq_to_eqb, is_true_lem}
use Rattle.rules.proofs.Lists.{all_app, all_app_l, all_app_r, all_imp, all_any, all_zip, all_filter, all_from, all_at, from_all, any_imp, any_map, any_filter, filter_any, any_from, from_any, some_any, some_each, length_from, map_from_at, distinct_from, from_append}
use Rattle.rules.proofs.Filtered.{filter_app, filter_every, filter_full, distinct_filter}
use Rattle.rules.proofs.Rules.{any_in}
use Rattle.restriction.specs.Atoms.{is_member, atoms_of, is_used, used, place_in, renumbered, entries}
use Rattle.restriction.specs.Covers.{Covers}

-- members

pub member_any : (xs : List ℕ) (a : ℕ) → T (is_member xs a) ↔ Any (λ x. a ≡ x) xs
member_any xs a = some_any (eqb a) (λ x. a ≡ x) (λ x. (eqb→eq a x, eq_to_eqb a x)) xs

pub member_all : (P : ℕ → Type 0) (xs : List ℕ) (a : ℕ) → All P xs → T (is_member xs a) → P a
member_all P xs a h t = let q = all_any P (λ x. a ≡ x) xs h ((member_any xs a).0 t) in subst P (sym q.2) q.1

pub members : (xs : List ℕ) → All (λ a. T (is_member xs a)) xs
members xs = all_imp (λ x. (b : ℕ) → T (eqb b x) → T (is_member xs b)) (λ a. T (is_member xs a)) (λ a h. h a (eqb_refl a)) xs (some_each eqb xs)

pub member_at : (xs : List ℕ) (i : ℕ) → i < length xs → T (is_member xs (get_or xs i 0))
member_at xs i l = all_at (λ a. T (is_member xs a)) 0 xs (members xs) i l

-- places

pub place_at : (xs : List ℕ) → Distinct xs → (i : ℕ) → i < length xs → place_in xs (get_or xs i 0) ≡ i
place_at [] d i l = absurd (omega arith)
place_at (x ∷ xs) d zero l = ap (λ (b : Bool). cond b 0 (suc (place_in xs x))) (eq-eqb x x refl)
place_at (x ∷ xs) d (suc i) l =
    ap (λ (b : Bool). cond b 0 (suc (place_in xs (get_or xs i 0)))) (ne_eqb (get_or xs i 0) x (λ e. all_at (λ y. (x ≡ y) → ⊥) 0 xs d.0 i (omega arith) (sym e)))
    ∙ ap suc (place_at xs d.1 i (omega arith))

pub at_place : (xs : List ℕ) (a : ℕ) → T (is_member xs a) → (place_in xs a < length xs) × (get_or xs (place_in xs a) 0 ≡ a)
at_place [] a t = absurd t
at_place (x ∷ xs) a t = step (eqb a x) (eqb→eq a x) (at_place xs a) t
  where
    step : (b : Bool) → (T b → a ≡ x) → (T (is_member xs a) → (place_in xs a < length xs) × (get_or xs (place_in xs a) 0 ≡ a)) → T (b || is_member xs a)
        → (cond b 0 (suc (place_in xs a)) < suc (length xs)) × (get_or (x ∷ xs) (cond b 0 (suc (place_in xs a))) 0 ≡ a)
    step true e rest u = (omega arith, sym (e tt))
    step false e rest u = let q = rest u in (omega arith, q.1)

-- an atom behind smaller ones
place_behind : (xs ys : List ℕ) (a : ℕ) → All (λ x. x < a) xs → place_in (xs ++ (a ∷ ys)) a ≡ length xs
place_behind [] ys a h = ap (λ (b : Bool). cond b 0 (suc (place_in ys a))) (eq-eqb a a refl)
place_behind (x ∷ xs) ys a h =
    let l : x < a = h.0 in
    ap (λ (b : Bool). cond b 0 (suc (place_in (xs ++ (a ∷ ys)) a))) (ne_eqb a x (λ e. omega arith)) ∙ ap suc (place_behind xs ys a h.1)

-- the numbers below n that pass a test

module _ (t : ℕ → Bool) where
  pub member_filter : (n a : ℕ) → T (is_member (filter t (from 0 n)) a) ↔ ((a < n) × T (t a))
  member_filter n a = (
    λ h.
        let q = from_any (λ x. T (t x) × (a ≡ x)) 0 n (filter_any (λ x. a ≡ x) t (from 0 n) ((member_any (filter t (from 0 n)) a).0 h)) in
        let e : a ≡ q.0 = q.3.1 in
        (omega (arith, q.2), subst (λ (x : ℕ). T (t x)) (sym e) q.3.0),
    λ h. (member_any (filter t (from 0 n)) a).1 (any_filter (λ x. a ≡ x) t (from 0 n) (any_from (λ x. T (t x) × (a ≡ x)) 0 n a (omega arith) (omega (arith, h.0)) (h.1, refl))),
  )

  pub filter_distinct : (n : ℕ) → Distinct (filter t (from 0 n))
  filter_distinct n = distinct_filter t (from 0 n) (distinct_from 0 n)

  filter_inside : (n : ℕ) → All (λ a. a < n) (filter t (from 0 n))
  filter_inside n = all_filter (λ a. a < n) t (from 0 n) (all_from (λ a. T (t a) → a < n) 0 n (λ a l u h. omega arith))

  filter_parts : (a c : ℕ) → filter t (from 0 (a + suc c)) ≡ filter t (from 0 a) ++ keep (t a) a (filter t (from (suc a) c))
  filter_parts a c =
      let e : 0 + a ≡ a = omega arith in
      ap (filter t) (sym (from_append 0 a (suc c)) ∙ ap (λ (b : ℕ). from 0 a ++ from b (suc c)) e) ∙ filter_app t (from 0 a) (a ∷ from (suc a) c)

  pub filter_last : (n : ℕ) → filter t (from 0 (suc n)) ≡ filter t (from 0 n) ++ keep (t n) n []
  filter_last n = let e : suc n ≡ n + 1 = omega arith in ap (λ (c : ℕ). filter t (from 0 c)) e ∙ filter_parts n 0

  -- before an atom of the list stand those below it
  pub filter_place : (n a : ℕ) → a < n → T (t a) → place_in (filter t (from 0 n)) a ≡ length (filter t (from 0 a))
  filter_place n a l h =
      let e : n ≡ a + suc (n - suc a) = omega arith in
      let later = filter t (from (suc a) (n - suc a)) in
      ap (λ (c : ℕ). place_in (filter t (from 0 c)) a) e
      ∙ ap (λ (r : List ℕ). place_in r a) (filter_parts a (n - suc a) ∙ ap (λ (b : Bool). filter t (from 0 a) ++ keep b a later) (is_true_lem (t a) h))
      ∙ place_behind (filter t (from 0 a)) later a (filter_inside a)

  -- all of them

  pub filter_all_length : (n : ℕ) → length (filter t (from 0 n)) ≡ n → (a : ℕ) → a < n → T (t a)
  filter_all_length n e a l = from_all (λ b. T (t b)) 0 n (filter_full t (from 0 n) (e ∙ sym (length_from 0 n))) a (omega arith) (omega arith)

  pub filter_whole : (n : ℕ) → ((a : ℕ) → a < n → T (t a)) → filter t (from 0 n) ≡ from 0 n
  filter_whole n h = filter_every t (from 0 n) (all_from (λ b. T (t b)) 0 n (λ a l u. h a (omega arith)))

pub entries_whole : {A : Type 0} (d : A) (l : List A) → entries d l (from 0 (length l)) ≡ l
entries_whole {A} d l = ext_get_or d (entries d l (from 0 (length l))) l size (λ i h. let e : 0 + i ≡ i = omega arith in map_from_at (λ a. get_or l a d) d 0 (length l) i (omega (arith, size)) ∙ ap (λ (a : ℕ). get_or l a d) e)
  where
    size : length (entries d l (from 0 (length l))) ≡ length l
    size = length-map (from 0 (length l)) (λ a. get_or l a d) ∙ length_from 0 (length l)

pub place_whole : (n a : ℕ) → a < n → place_in (from 0 n) a ≡ a
place_whole n a l = ap (λ (r : List ℕ). place_in r a) (sym (whole n)) ∙ filter_place (λ b. true) n a l tt ∙ ap length (whole a) ∙ length_from 0 a
  where
    whole : (c : ℕ) → filter (λ b. true) (from 0 c) ≡ from 0 c
    whole c = filter_whole (λ b. true) c (λ b u. tt)

-- the atoms of rules

pub within_atoms : (Q : ℕ → Type 0) (r : Rule ℕ) → Within Q r ↔ All Q (atoms_of r)
within_atoms Q r = (
  λ h. all_app Q r.head (r.body ++ r.nots) h.head (all_app Q r.body r.nots h.body h.nots),
  λ h.
      let rest = all_app_r Q r.head (r.body ++ r.nots) h in
      record {
        head = all_app_l Q r.head (r.body ++ r.nots) h;
        body = all_app_l Q r.body r.nots rest;
        nots = all_app_r Q r.body r.nots rest;
      },
)

used_member : (n : ℕ) (rs : List (Rule ℕ)) (a : ℕ) → T (is_member (used n rs) a) ↔ ((a < n) × T (is_used rs a))
unfolding used
used_member n rs a = member_filter (is_used rs) n a

used_distinct : (n : ℕ) (rs : List (Rule ℕ)) → Distinct (used n rs)
unfolding used
used_distinct n rs = filter_distinct _ n

-- the atoms that stand in some rule are all that the rules have
pub used_covers : (n : ℕ) (rs : List (Rule ℕ)) → All (Within (λ a. a < n)) rs → Covers n (used n rs) rs
used_covers n rs h = record {
  inside = all_imp (λ a. T (is_member (used n rs) a)) (λ a. a < n) (λ a k. ((used_member n rs a).0 k).0) (used n rs) (members (used n rs));
  different = used_distinct n rs;
  atoms = all_zip (Within (λ a. a < n)) (λ r. (a : ℕ) → T (is_member (atoms_of r) a) → T (is_used rs a)) (Within (λ a. T (is_member (used n rs) a))) each rs h (some_each (λ a r. is_member (atoms_of r) a) rs);
}
  where
    each : (r : Rule ℕ) → Within (λ a. a < n) r → ((a : ℕ) → T (is_member (atoms_of r) a) → T (is_used rs a)) → Within (λ a. T (is_member (used n rs) a)) r
    each r below f =
        (within_atoms (λ a. T (is_member (used n rs) a)) r).1
        (all_zip (λ a. a < n) (λ a. T (is_member (atoms_of r) a)) _ (λ a l k. (used_member n rs a).1 (l, f a k)) (atoms_of r) ((within_atoms (λ a. a < n) r).0 below) (members (atoms_of r)))

member_map : (f : ℕ → ℕ) (xs : List ℕ) (a : ℕ) → T (is_member xs a) → T (is_member (map f xs) (f a))
member_map f xs a h = (member_any (map f xs) (f a)).1 (any_map (λ y. f a ≡ y) f xs (any_imp (λ x. a ≡ x) (λ x. f a ≡ f x) (λ x e. ap f e) xs ((member_any xs a).0 h)))

pub atoms_renamed : (f : ℕ → ℕ) (r : Rule ℕ) → map f (atoms_of r) ≡ atoms_of (rename f r)
atoms_renamed f r = map-append f r.head (r.body ++ r.nots) ∙ ap (λ (l : List ℕ). map f r.head ++ l) (map-append f r.body r.nots)

-- and each stands, by its place, in some rule of what is left
pub used_left : (n : ℕ) (rs : List (Rule ℕ)) (i : ℕ) → i < length (used n rs) → T (is_used (renumbered (used n rs) rs) i)
used_left n rs i l =
    (any_in (λ r. is_member (atoms_of r) i) (renumbered (used n rs) rs)).1
    (any_map (λ r. T (is_member (atoms_of r) i)) (rename f) rs (any_imp (λ r. T (is_member (atoms_of r) a)) _ moved rs
    ((any_in (λ r. is_member (atoms_of r) a) rs).0 ((used_member n rs a).0 (member_at (used n rs) i l)).1)))
  where
    f : ℕ → ℕ
    f = place_in (used n rs)

    a : ℕ
    a = get_or (used n rs) i 0

    moved : (r : Rule ℕ) → T (is_member (atoms_of r) a) → T (is_member (atoms_of (rename f r)) i)
    moved r h =
        subst (λ (j : ℕ). T (is_member (atoms_of (rename f r)) j)) (place_at (used n rs) (used_distinct n rs) i l)
        (subst (λ (l : List ℕ). T (is_member l (f a))) (atoms_renamed f r) (member_map f (atoms_of r) a h))
