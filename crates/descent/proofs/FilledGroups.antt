-- What the masks of a preference program give the sort and the walks over it.
use Prim.Native.Nat.{ℕ, ◌^◌, ◌≤◌, ◌<◌}
use mathlib.Core.Path.{◌≡◌, sym, ap, ◌∙◌, subst}
use mathlib.Core.List.{List, map}
use native.Mathlib.Omega.{arith}
use lib.ListN.{length, take}
use lib.Pow.{pow_mono}
use Rattle.kinds.specs.Limits.{walk_atoms, rule_limit}
use Rattle.kinds.specs.declared.limits.Kind.TheVariants.{Plain, Preference}
use Rattle.rules.specs.Lists.{All}
use Rattle.rules.proofs.Lists.{all_imp}
use Rattle.stores.specs.Program.{Program}
use Rattle.choices.specs.Choices.{RulesBelow}
use Rattle.masks.specs.Masks.{care_at, want_at}
use Rattle.masks.specs.FilledMasks.{MasksOf}
use Rattle.masks.specs.declared.masks.Sizes.{Sizes}
use Rattle.stores.proofs.StoredRules.{rules_within}
use Rattle.masks.proofs.FilledMasks.{care_length, want_length, class_forms}
use Rattle.masks.proofs.MaskSizes.{cares_lt}
use Rattle.groups.specs.Groups.{GroupsOf}
use Rattle.descent.proofs.ChoiceMasks.{within_below}

module _ {p : Program} {cs wants ks : List ℕ} {z : Sizes} (d : MasksOf p cs wants ks z) where
  pub same_length : length (take z.rules wants) ≡ length (take z.rules cs)
  same_length = sym (want_length d) ∙ care_length d

  pub rules_fit_lem : length (take z.rules cs) ≤ rule_limit Plain
  rules_fit_lem = let f : length p.rules ≤ rule_limit p.kind = d.form.rules_fit_lem in let g : rule_limit p.kind ≡ rule_limit Preference = ap rule_limit d.is_preference in omega (arith, care_length d, d.rules_are)

  pub masks_small : All (λ c. c < 2 ^ walk_atoms) (take z.rules cs)
  masks_small = subst (All (λ c. c < 2 ^ walk_atoms)) (sym d.care_front) (all_imp (λ c. c < 2 ^ p.atoms) (λ c. c < 2 ^ walk_atoms) (λ c l. omega (arith, pow_mono {i = p.atoms} {j = walk_atoms} d.few)) (map (care_at p.atoms) p.rules) (cares_lt p.atoms p.rules (rules_within d.form)))

  pub atoms_few : z.atoms ≤ walk_atoms
  atoms_few = omega (arith, d.few, d.atoms_are)

  pub words_are : z.atoms ≡ length p.words
  words_are = d.atoms_are ∙ sym (class_forms d).1

  pub words_few : length p.words ≤ walk_atoms
  words_few = subst (λ (n : ℕ). n ≤ walk_atoms) words_are atoms_few

  pub rules_below : RulesBelow (length p.words) p.rules
  rules_below = subst (λ (n : ℕ). RulesBelow n p.rules) (sym (class_forms d).1) (within_below p.atoms p.rules (rules_within d.form))

  -- what is sorted is the program's
  pub groups_are : {care want starts : List ℕ} → GroupsOf (take z.rules cs) (take z.rules wants) care want starts → GroupsOf (map (care_at (length p.words)) p.rules) (map (want_at (length p.words)) p.rules) care want starts
  groups_are {care} {want} {starts} g = subst (λ (n : ℕ). GroupsOf (map (care_at n) p.rules) (map (want_at n) p.rules) care want starts) (sym (class_forms d).1)
      (subst (λ (c : List ℕ). GroupsOf c (map (want_at p.atoms) p.rules) care want starts) d.care_front (subst (λ (w : List ℕ). GroupsOf (take z.rules cs) w care want starts) d.want_front g))
