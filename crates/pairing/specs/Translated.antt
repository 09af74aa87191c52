-- The plain program of the ten steps, its names, and the three sums (document 01, "The translation"; document 02, W-214).
use Rattle.std.specs.Prelude.{ℕ, ◌+◌, ◌-◌, ◌*◌, List, [], map, length}
use Rattle.kinds.specs.declared.limits.Kind.TheVariants.{Plain}
use Rattle.rules.specs.Lists.{sum}
use Rattle.rules.specs.Rules.{Rule, occurrences, rename}
use Rattle.stores.specs.Program.{Program}
use Rattle.pairing.specs.Atoms.{minimised_atoms, varying_atoms, fixed_atoms, declared, atom_number, name_of}
use Rattle.pairing.specs.Steps.{translation}

unfoldable pub translated_rules : Program → List (Rule ℕ)
translated_rules p = map (rename (atom_number p)) (translation p)

abbrev pub translated : Program → Program
translated p = record { kind = Plain; atoms = length (declared p); classes = 0; words = []; rules = translated_rules p }

unfoldable pub translated_names : Program → List (List ℕ) → List (List ℕ)
translated_names p names = map (name_of names) (declared p)

-- p, v, f count the minimised, varying and fixed atoms, n all three, k the classes, r the rules, L the atom places in rules
pub record Numbers : Type 0 where
  pub p : ℕ
  pub v : ℕ
  pub f : ℕ
  pub n : ℕ
  pub k : ℕ
  pub r : ℕ
  pub L : ℕ

unfoldable pub numbers : Program → Numbers
numbers file = record {
  p = length (minimised_atoms file);
  v = length (varying_atoms file);
  f = length (fixed_atoms file);
  n = file.atoms;
  k = file.classes;
  r = length file.rules;
  L = sum occurrences file.rules;
}

-- the three sums

abbrev pub atoms_sum : Numbers → ℕ
atoms_sum c = 3 * c.n - c.f + c.p + c.k + 2

abbrev pub rules_sum : Numbers → ℕ
rules_sum c = 3 * c.n - c.f + 2 * c.r + 4 * c.p + 2 * c.k + 4

abbrev pub occurrences_sum : Numbers → ℕ
occurrences_sum c = 6 * c.n - 2 * c.f + 2 * c.L + c.r + 15 * c.p + 5 * c.k + 7
