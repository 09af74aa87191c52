-- The canonical program of a program of the form is of the form.
use Prim.Native.Nat.{ℕ, ◌+◌, ◌<◌, ◌≤◌}
use mathlib.Core.Path.{◌≡◌, refl, ap}
use mathlib.Core.Logic.{◌≢◌}
use mathlib.Core.List.{List, [], ◌∷◌, map}
use native.Mathlib.Omega.{arith}
use lib.ListN.{length, length-map}
use Rattle.kinds.specs.declared.limits.Kind.{Kind}
use Rattle.kinds.specs.declared.limits.Kind.TheVariants.{Plain, Preference}
use Rattle.rules.specs.Lists.{Distinct, sum}
use Rattle.rules.specs.Rules.{Rule, occurrences}
use Rattle.rules.proofs.Lists.{all_imp, all_map}
use Rattle.stores.specs.Program.{Program, ProgramForm, RuleForm, ListForm, NotForm}
use Rattle.canonical.specs.Order.{numbers, place, insert, ordered, Ascending}
use Rattle.canonical.specs.Canonical.{compare_rules, tidy, canonical}
use Rattle.canonical.specs.CanonicalProgram.{canonical_program}
use Rattle.canonical.specs.TidyProgram.{tidy_program}
use Rattle.std.specs.declared.cmp.Ordering.{Ordering}
use Rattle.std.specs.declared.cmp.Ordering.TheVariants.{Less, Equal, Greater}
use Rattle.canonical.proofs.Orders.{less_number, number_order, rule_order}
use Rattle.canonical.proofs.Ordered.{ordered_all, ordered_ascends}

-- entries only fall out
module _ {A : Type 0} (c : A → A → Ordering) (f : A → ℕ) where
  insert_sum : (x : A) (l : List A) → sum f (insert c x l) ≤ f x + sum f l
  insert_sum x [] = omega arith
  insert_sum x (y ∷ l) = step (c x y) (insert_sum x l)
    where
      step : (q : Ordering) → sum f (insert c x l) ≤ f x + sum f l → sum f (place q x y l (insert c x l)) ≤ f x + (f y + sum f l)
      step Less h = omega arith
      step Equal h = omega arith
      step Greater h = omega arith

  ordered_sum : (l : List A) → sum f (ordered c l) ≤ sum f l
  ordered_sum [] = omega arith
  ordered_sum (x ∷ l) = let h = insert_sum x (ordered c l) in let k = ordered_sum l in omega arith

count_sum : {A : Type 0} (l : List A) → length l ≡ sum (λ (a : A). 1) l
count_sum [] = refl
count_sum (x ∷ l) = let h = count_sum l in omega arith

ordered_fewer : {A : Type 0} (c : A → A → Ordering) (l : List A) → length (ordered c l) ≤ length l
ordered_fewer c l = omega (arith, ordered_sum c (λ a. 1) l, count_sum (ordered c l), count_sum l)

-- lists

ascending_distinct : (l : List ℕ) → Ascending numbers l → Distinct l
ascending_distinct [] h = tt
ascending_distinct (x ∷ l) h = (all_imp (λ y. numbers x y ≡ Less) (λ y. x ≢ y) (λ y e d. omega (arith, less_number x y e)) l h.0, ascending_distinct l h.1)

ordered_form : (n : ℕ) (l : List ℕ) → ListForm n l → ListForm n (ordered numbers l)
ordered_form n l h = (ordered_all numbers number_order (λ a. a < n) l h.0, ascending_distinct (ordered numbers l) (ordered_ascends numbers number_order l))

ordered_not : (kind : Kind) (l : List ℕ) → NotForm kind l → NotForm kind (ordered numbers l)
ordered_not Plain l h = tt
ordered_not Preference l h = ap (ordered numbers) h

-- rules

tidy_form : (kind : Kind) (n : ℕ) (r : Rule ℕ) → RuleForm kind n r → RuleForm kind n (tidy r)
unfolding tidy
tidy_form kind n r h = record {
  head_form = ordered_form n r.head h.head_form;
  body_form = ordered_form n r.body h.body_form;
  nots_form = ordered_form n r.nots h.nots_form;
  no_nots = ordered_not kind r.nots h.no_nots;
}

tidy_occurrences : (rs : List (Rule ℕ)) → sum occurrences (map tidy rs) ≤ sum occurrences rs
unfolding tidy
tidy_occurrences [] = omega arith
tidy_occurrences (r ∷ rs) = omega (arith, ordered_fewer numbers r.head, ordered_fewer numbers r.body, ordered_fewer numbers r.nots, tidy_occurrences rs)

pub tidy_program_form : (p : Program) → ProgramForm p → ProgramForm (tidy_program p)
tidy_program_form p f = record {
  atoms_fit = f.atoms_fit;
  rules_fit_lem = omega (arith, f.rules_fit_lem, length-map p.rules tidy);
  occurrences_fit = omega (arith, f.occurrences_fit, tidy_occurrences p.rules);
  classes_form = f.classes_form;
  rule_forms = all_map (RuleForm p.kind p.atoms) tidy p.rules (all_imp (RuleForm p.kind p.atoms) (λ r. RuleForm p.kind p.atoms (tidy r)) (tidy_form p.kind p.atoms) p.rules f.rule_forms);
}

pub canonical_form : (p : Program) → ProgramForm p → ProgramForm (canonical_program p)
unfolding canonical_program canonical
canonical_form p f =
    let t = tidy_program_form p f in
    record {
      atoms_fit = f.atoms_fit;
      rules_fit_lem = omega (arith, t.rules_fit_lem, ordered_fewer compare_rules (map tidy p.rules));
      occurrences_fit = omega (arith, t.occurrences_fit, ordered_sum compare_rules occurrences (map tidy p.rules));
      classes_form = f.classes_form;
      rule_forms = ordered_all compare_rules rule_order (RuleForm p.kind p.atoms) (map tidy p.rules) t.rule_forms;
    }
