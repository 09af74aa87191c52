-- The atoms that stand in some written rule: those that a statement names, and every T atom.
use Prim.Native.Nat.{ℕ, suc, ◌+◌, ◌-◌, ◌≤◌, ◌<◌}
use native.Mathlib.Omega.{arith}
use mathlib.Core.Path.{◌≡◌, refl, sym, ap, subst, ◌∙◌}
use mathlib.Core.List.{List}
use lib.Dec.{T}
use lib.ListN.{length}
use Rattle.rules.specs.Lists.{All, filter, flat, from}
use Rattle.rules.specs.Rules.{Rule}
use Rattle.rules.specs.Renumbering.{Within}
use Rattle.rules.proofs.Booleans.{T_of, bool_ext}
use Rattle.rules.proofs.Lists.{all_imp, all_zip, all_any, all_from, from_all, some_each}
use Rattle.rules.proofs.Rules.{any_in}
use Rattle.restriction.specs.Atoms.{is_member, atoms_of, is_used, used, place_in, entries}
use Rattle.restriction.proofs.Places.{member_all, members, within_atoms}
use Rattle.conditions.specs.Conditions.{Atom, planner, made, Statement, statement_names, made_atoms}
use Rattle.conditions.specs.Written.{written}
use Rattle.conditions.specs.Numbers.{place, inserted, placed_rules, Taken, Declared}
use Rattle.conditions.specs.Left.{spoken}
use Rattle.conditions.proofs.Placed.{place_low, place_high}
use Rattle.conditions.proofs.Formed.{apart}
use Rattle.conditions.proofs.Atoms.{within_renamed, written_within}
use Rattle.conditions.proofs.Between.{between_length, between_entries, among_place, planner_place}
use Rattle.conditions.proofs.Renamed.{rename_atom}

-- the atoms that stand in some rule

within_used : (rs : List (Rule ℕ)) → All (Within (λ a. T (is_used rs a))) rs
within_used rs =
    all_imp (λ r. (a : ℕ) → T (is_member (atoms_of r) a) → T (is_used rs a)) (Within (λ a. T (is_used rs a)))
    (λ r f. (within_atoms (λ a. T (is_used rs a)) r).1 (all_imp (λ a. T (is_member (atoms_of r) a)) (λ a. T (is_used rs a)) f (atoms_of r) (members (atoms_of r)))) rs
    (some_each (λ a r. is_member (atoms_of r) a) rs)

used_within : (Q : ℕ → Type 0) (rs : List (Rule ℕ)) → All (Within Q) rs → (a : ℕ) → T (is_used rs a) → Q a
used_within Q rs h a t =
    let q = all_any (Within Q) (λ r. T (is_member (atoms_of r) a)) rs h ((any_in (λ r. is_member (atoms_of r) a) rs).0 t) in
    member_all Q (atoms_of q.0) a ((within_atoms Q q.0).0 q.1) q.2

-- q planner's atoms before the T atoms
module _ (ws : List ℕ) (ls : List Statement) (taken : Taken ws ls) (q : ℕ) (fits : q ≤ length ws) where
  abbrev n : ℕ
  n = length ws

  abbrev k : ℕ
  k = length (made_atoms ls)

  abbrev names : List ℕ
  names = flat statement_names ls

  abbrev xs : List ℕ
  xs = spoken n ls

  abbrev rules : List (Rule ℕ)
  rules = placed_rules q k ls

  pub used_at : All (Within (λ c. T (is_used rules (place q k c)))) (written ls)
  unfolding placed_rules
  used_at = (within_renamed (λ a. T (is_used rules a)) (place q k) (written ls)).0 (within_used rules)

  used_atoms : All (λ a. T (is_used rules (place q k (planner a)))) names × All (λ t. T (is_used rules (place q k (made t)))) (made_atoms ls)
  used_atoms = (written_within (λ c. T (is_used rules (place q k c))) ls).0 used_at

  -- an atom at a's place is a
  abbrev IsSpoken : ℕ → ℕ → Type 0
  IsSpoken a i = i ≡ place q k (planner a) → T (is_member names a)

  spoken_at : (a : ℕ) → a < n → All (Within (IsSpoken a)) rules
  unfolding placed_rules
  spoken_at a l = (within_renamed (IsSpoken a) (place q k) (written ls)).1 ((written_within (λ c. IsSpoken a (place q k c)) ls).1 (
    all_zip (λ b. b < n) (λ b. T (is_member names b)) _ (λ b m h e. let f : planner b ≡ planner a = apart n k q fits (planner b) (planner a) m l e in let g : b ≡ a = cc in subst (λ (c : ℕ). T (is_member names c)) g h) names taken.declared (members names),
    subst (All (λ t. IsSpoken a (place q k (made t)))) (sym taken.numbered) (all_from _ 1 k (λ t lo up e. let f : made t ≡ planner a = apart n k q fits (made t) (planner a) (lo, omega arith) l e in let z : ◌≡◌ {A = ℕ} 0 1 = cc in absurd (omega arith))),
  ))

  planner_used : (a : ℕ) → a < n → is_used rules (place q k (planner a)) ≡ is_member names a
  planner_used a l = bool_ext (is_used rules (place q k (planner a))) (is_member names a)
      (λ t. used_within (IsSpoken a) rules (spoken_at a l) (place q k (planner a)) t refl)
      (λ t. member_all (λ b. T (is_used rules (place q k (planner b)))) names a used_atoms.0 t)

  low : (a : ℕ) → a < q → is_used rules a ≡ is_member names a
  low a l = ap (is_used rules) (sym (place_low q k a l)) ∙ planner_used a (omega arith)

  high : (a : ℕ) → q ≤ a → a < n → is_used rules (k + a) ≡ is_member names a
  high a l u = let e : k + a ≡ a + k = omega arith in ap (is_used rules) (e ∙ sym (place_high q k a l)) ∙ planner_used a u

  among : (i : ℕ) → q ≤ i → i < q + k → T (is_used rules i)
  among i l u =
      let e : q + (suc (i - q) - 1) ≡ i = omega arith in
      subst (λ (j : ℕ). T (is_used rules j)) e (from_all (λ t. T (is_used rules (place q k (made t)))) 1 k (subst (All (λ t. T (is_used rules (place q k (made t))))) taken.numbered used_atoms.1) (suc (i - q)) (omega arith) (omega arith))

  -- the atoms that are left
  abbrev pub ys : List ℕ
  ys = used (n + k) rules

  -- as many of the first q atoms are left
  abbrev pub q' : ℕ
  q' = length (filter (is_member names) (from 0 q))

  pub left_length : length ys ≡ length xs + k
  unfolding used spoken
  left_length = between_length (is_member names) (is_used rules) q k n fits low among high

  pub left_entries : {A : Type 0} (d : A) (l others : List A) → length l ≡ n → length others ≡ k → entries d (inserted q others l) ys ≡ inserted q' others (entries d l xs)
  unfolding used spoken
  left_entries d l others = between_entries (is_member names) (is_used rules) q k n fits low among high d l others

  pub left_place : (c : Atom) → Declared n k c → T (is_used rules (place q k c)) → place_in ys (place q k c) ≡ place q' k (rename_atom (place_in xs) c)
  unfolding used spoken
  left_place (planner a) l h = planner_place (is_member names) (is_used rules) q k n fits low among high a l (T_of (planner_used a l) h)
  left_place (made t) l h = among_place (is_member names) (is_used rules) q k n fits low among high (t - 1) (omega (arith, l.0, l.1))
