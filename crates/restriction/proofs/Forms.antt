-- What is left of a program of the form is of the form, and its names fit.
use Prim.Native.Nat.{ℕ, zero, suc, ◌+◌, ◌≤◌, ◌<◌}
use native.Mathlib.Omega.{arith}
use mathlib.Core.Path.{◌≡◌, refl, sym, ap, subst, ◌∙◌}
use mathlib.Core.Logic.{◌≢◌}
use mathlib.Core.Bool.{Bool, true, false}
use mathlib.Core.List.{List, [], ◌∷◌, map}
use lib.Dec.{T}
use lib.ListN.{length, get_or, length-map}
use Rattle.kinds.specs.Limits.{atom_limit, rule_limit, occurrence_limit}
use Rattle.kinds.specs.declared.limits.Kind.{Kind}
use Rattle.kinds.specs.declared.limits.Kind.TheVariants.{Plain, Preference}
use Rattle.rules.specs.Lists.{All, Distinct, keep, filter, from}
use Rattle.rules.specs.Rules.{Rule, rename}
use Rattle.rules.specs.Renumbering.{Within}
use Rattle.rules.proofs.Lists.{all_imp, all_map, all_zip, all_at, length_from, distinct_map}
use Rattle.rules.proofs.Filtered.{filter_length}
use Rattle.rules.proofs.Rules.{rename_occurrences}
use Rattle.names.specs.Names.{allowed}
use Rattle.stores.specs.Program.{Program, role_of, RoleForm, NeverFalling, ClassesForm, ListForm, NotForm, RuleForm, ProgramForm}
use Rattle.stores.proofs.RuleTests.{rising_at}
use Rattle.stores.proofs.StoredRules.{rules_within}
use Rattle.name_store.specs.NameStore.{NamesForm}
use Rattle.restriction.specs.Atoms.{is_member, is_used, used, place_in, entries}
use Rattle.restriction.specs.Remaining.{restrict, left, remaining_of, remaining_names_of, remaining, remaining_names}
use Rattle.restriction.specs.Covers.{Covers}
use Rattle.restriction.proofs.Places.{at_place, used_covers}

-- rules

module _ (xs : List ℕ) where
  pub same_place : (a b : ℕ) → T (is_member xs a) → T (is_member xs b) → place_in xs a ≡ place_in xs b → a ≡ b
  same_place a b h k e = sym (at_place xs a h).1 ∙ ap (λ (i : ℕ). get_or xs i 0) e ∙ (at_place xs b k).1

  list_left : (n : ℕ) (l : List ℕ) → ListForm n l → All (λ a. T (is_member xs a)) l → ListForm (length xs) (map (place_in xs) l)
  list_left n l f h = (
    all_map (λ a. a < length xs) (place_in xs) l (all_imp (λ a. T (is_member xs a)) _ (λ a k. (at_place xs a k).0) l h),
    distinct_map (place_in xs) (λ a. T (is_member xs a)) same_place l h f.1,
  )

  nots_left : (kind : Kind) (l : List ℕ) → NotForm kind l → NotForm kind (map (place_in xs) l)
  nots_left Plain l h = tt
  nots_left Preference l h = ap (map (place_in xs)) h

  rule_left : (kind : Kind) (n : ℕ) (r : Rule ℕ) → RuleForm kind n r → Within (λ a. T (is_member xs a)) r → RuleForm kind (length xs) (rename (place_in xs) r)
  rule_left kind n r f h = record {
    head_form = list_left n r.head f.head_form h.head;
    body_form = list_left n r.body f.body_form h.body;
    nots_form = list_left n r.nots f.nots_form h.nots;
    no_nots = nots_left kind r.nots f.no_nots;
  }

-- over any list that has the rules' atoms, where the class words along it are of the form
pub restrict_form : (xs : List ℕ) (p : Program) → ProgramForm p → Covers p.atoms xs p.rules → length xs ≤ atom_limit p.kind
    → ClassesForm p.kind (length xs) p.classes (entries 0 p.words xs) → ProgramForm (restrict xs p)
unfolding restrict
restrict_form xs p f c few classes = record {
  atoms_fit = few;
  rules_fit_lem = subst (λ (n : ℕ). n ≤ rule_limit p.kind) (sym (length-map p.rules (rename (place_in xs)))) f.rules_fit_lem;
  occurrences_fit = subst (λ (n : ℕ). n ≤ occurrence_limit p.kind) (sym (rename_occurrences (place_in xs) p.rules)) f.occurrences_fit;
  classes_form = classes;
  rule_forms = all_map (RuleForm p.kind (length xs)) (rename (place_in xs)) p.rules
      (all_zip (RuleForm p.kind p.atoms) (Within (λ a. T (is_member xs a))) _ (rule_left xs p.kind p.atoms) p.rules f.rule_forms c.atoms);
}

-- class words

module _ (ws : List ℕ) (rising : (i j : ℕ) → i < j → j < length ws → get_or ws i 0 ≤ get_or ws j 0) (t : ℕ → Bool) where
  rising_left : (b s c : ℕ) → ((i : ℕ) → s ≤ i → i < s + c → b ≤ get_or ws i 0) → s + c ≤ length ws → NeverFalling b (entries 0 ws (filter t (from s c)))
  rising_left b s zero h l = tt
  rising_left b s (suc c) h l = step (t s) (rising_left b (suc s) c (λ i m u. h i (omega arith) (omega arith)) (omega arith)) (rising_left (get_or ws s 0) (suc s) c (λ i m u. rising s i m (omega arith)) (omega arith))
    where
      step : (v : Bool) → NeverFalling b (entries 0 ws (filter t (from (suc s) c))) → NeverFalling (get_or ws s 0) (entries 0 ws (filter t (from (suc s) c))) → NeverFalling b (entries 0 ws (keep v s (filter t (from (suc s) c))))
      step true same more = (h s (omega arith) (omega arith), more)
      step false same more = same

module _ (n k : ℕ) (ws : List ℕ) (rs : List (Rule ℕ)) (f : ClassesForm Preference n k ws) (c : Covers n (used n rs) rs) where
  classes_left : ClassesForm Preference (length (used n rs)) k (entries 0 ws (used n rs))
  unfolding used
  classes_left = (
    f.0,
    length-map (used n rs) (λ a. get_or ws a 0),
    all_map (λ w. RoleForm k (role_of w)) (λ a. get_or ws a 0) (used n rs) (all_imp (λ a. a < n) _ (λ a l. all_at (λ w. RoleForm k (role_of w)) 0 ws f.2 a (omega (arith, f.1))) (used n rs) c.inside),
    rising_left ws (rising_at 0 ws f.3) (is_used rs) 0 0 n (λ i m u. omega arith) (omega (arith, f.1)),
  )

pub covers_left : (p : Program) → ProgramForm p → Covers p.atoms (left p) p.rules
covers_left p f = used_covers p.atoms p.rules (rules_within f)

few_left : (p : Program) → ProgramForm p → length (left p) ≤ atom_limit p.kind
unfolding used
few_left p f = omega (arith, filter_length (is_used p.rules) (from 0 p.atoms), length_from 0 p.atoms, f.atoms_fit)

pub remaining_form : (p : Program) → ProgramForm p → ProgramForm (remaining p)
unfolding remaining
remaining_form p f = step p.kind refl
  where
    step : (k : Kind) → p.kind ≡ k → ProgramForm (remaining_of k p)
    step Plain e = f
    step Preference e =
        let c = covers_left p f in
        restrict_form (left p) p f c (few_left p f)
        (subst (λ (kind : Kind). ClassesForm kind (length (left p)) p.classes (entries 0 p.words (left p))) (sym e)
        (classes_left p.atoms p.classes p.words p.rules (subst (λ (kind : Kind). ClassesForm kind p.atoms p.classes p.words) e f.classes_form) c))

-- names

distinct_at : {A : Type 0} (d : A) (l : List A) → Distinct l → (i j : ℕ) → i < length l → j < length l → get_or l i d ≡ get_or l j d → i ≡ j
distinct_at d [] h i j l u e = absurd (omega arith)
distinct_at d (x ∷ l) h zero zero m u e = refl
distinct_at d (x ∷ l) h zero (suc j) m u e = absurd (all_at (λ y. x ≢ y) d l h.0 j (omega arith) e)
distinct_at d (x ∷ l) h (suc i) zero m u e = absurd (all_at (λ y. x ≢ y) d l h.0 i (omega arith) (sym e))
distinct_at d (x ∷ l) h (suc i) (suc j) m u e = ap suc (distinct_at d l h.1 i j (omega arith) (omega arith) e)

pub names_left : (kind : Kind) (n : ℕ) (xs : List ℕ) (names : List (List ℕ)) → All (λ a. a < n) xs → Distinct xs → NamesForm kind n names → NamesForm kind (length xs) (entries [] names xs)
names_left kind n xs names inside different f = record {
  count = length-map xs (λ a. get_or names a []);
  all_allowed = all_map (λ x. T (allowed kind x)) (λ a. get_or names a []) xs (all_imp (λ a. a < n) _ (λ a l. all_at (λ x. T (allowed kind x)) [] names f.all_allowed a (omega (arith, f.count))) xs inside);
  different = distinct_map (λ a. get_or names a []) (λ a. a < n) (λ a b l u. distinct_at [] names f.different a b (omega (arith, f.count)) (omega (arith, f.count))) xs inside different;
}

pub remaining_names_lem : (p : Program) (names : List (List ℕ)) → ProgramForm p → NamesForm p.kind p.atoms names → NamesForm (remaining p).kind (remaining p).atoms (remaining_names p names)
unfolding remaining remaining_names restrict
remaining_names_lem p names f g = step p.kind refl
  where
    step : (k : Kind) → p.kind ≡ k → NamesForm (remaining_of k p).kind (remaining_of k p).atoms (remaining_names_of k p names)
    step Plain e = g
    step Preference e = let c = covers_left p f in names_left p.kind p.atoms (left p) names c.inside c.different g
