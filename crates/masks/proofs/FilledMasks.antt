-- What filled masks say of the program.
use Prim.Native.Nat.{ℕ, ◌≤◌}
use mathlib.Core.Path.{◌≡◌, sym, ap, ◌∙◌, subst}
use mathlib.Core.List.{List, []}
use native.Mathlib.Omega.{arith}
use lib.ListN.{length, take, length-take, length-map}
use Rattle.kinds.specs.declared.limits.Kind.{Kind}
use Rattle.kinds.specs.declared.limits.Kind.TheVariants.{Preference}
use Rattle.rules.specs.Lists.{All}
use Rattle.rules.proofs.Lists.{all_imp}
use Rattle.stores.specs.Program.{Program, ClassesForm, RuleForm, NotForm}
use Rattle.masks.specs.Masks.{care_at, want_at}
use Rattle.masks.specs.FilledMasks.{MasksOf}
use Rattle.masks.specs.declared.masks.Sizes.{Sizes}

-- a list has as many entries as were taken
pub taken_fits : (r : ℕ) (l : List ℕ) → r ≡ length (take r l) → r ≤ length l
taken_fits r l e = omega (arith, length-take r l)

module _ {p : Program} {cs wants ks : List ℕ} {z : Sizes} (d : MasksOf p cs wants ks z) where
  pub care_length : z.rules ≡ length (take z.rules cs)
  care_length = sym (ap length d.care_front ∙ length-map p.rules (care_at p.atoms) ∙ sym d.rules_are)

  pub want_length : z.rules ≡ length (take z.rules wants)
  want_length = sym (ap length d.want_front ∙ length-map p.rules (want_at p.atoms) ∙ sym d.rules_are)

  pub class_forms : ClassesForm Preference p.atoms p.classes p.words
  class_forms = subst (λ (x : Kind). ClassesForm x p.atoms p.classes p.words) d.is_preference d.form.classes_form

  pub nots_empty : All (λ x. x.nots ≡ []) p.rules
  nots_empty = all_imp (RuleForm p.kind p.atoms) (λ x. x.nots ≡ []) (λ x f. subst (λ (y : Kind). NotForm y x.nots) d.is_preference f.no_nots) p.rules d.form.rule_forms
