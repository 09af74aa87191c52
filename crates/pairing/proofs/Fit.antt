-- What the form of a preference program says of each atom and rule.
use Prim.Native.Nat.{ℕ, ◌≤◌, ◌<◌}
use native.Mathlib.Omega.{arith}
use native.Mathlib.Decide.{ℕ_discrete, dec_le}
use mathlib.Core.Path.{◌≡◌, sym, subst}
use mathlib.Core.List.{[]}
use mathlib.Core.Logic.{◌⊎◌, inl, inr}
use lib.Dec.{T, eqb→eq}
use lib.ListN.{length}
use Rattle.kinds.specs.Limits.{atom_limit, rule_limit, occurrence_limit, class_limit, varying, fixed}
use Rattle.kinds.specs.declared.limits.Kind.{Kind}
use Rattle.kinds.specs.declared.limits.Kind.TheVariants.{Preference}
use Rattle.rules.specs.Lists.{All, Distinct, sum}
use Rattle.rules.specs.Rules.{Rule, occurrences}
use Rattle.rules.proofs.Booleans.{decide, T-not-in}
use Rattle.rules.proofs.Lists.{all_imp, all_at}
use Rattle.stores.specs.Program.{Program, ProgramForm, ClassesForm, RuleForm, RoleForm, role_of}
use Rattle.stores.proofs.ClassWord.{minimised, below, above}
use Rattle.stores.proofs.RuleTests.{rising_at}
use Rattle.pairing.specs.Atoms.{class_word, is_fixed, is_unfixed}

abbrev pub Minimised : Program → ℕ → Type 0
Minimised p a = class_word p a ≤ class_limit

-- a rule of a preference program with n atoms
pub record Inside (n : ℕ) (r : Rule ℕ) : Type 0 where
  pub head : All (λ a. a < n) r.head
  pub body : All (λ a. a < n) r.body
  pub nots : r.nots ≡ []
  pub head_distinct : Distinct r.head
  pub body_distinct : Distinct r.body

pub record Fit (p : Program) : Type 0 where
  pub count : length p.words ≡ p.atoms
  pub classes : p.classes ≤ class_limit
  pub low : (a : ℕ) → a < p.atoms → 1 ≤ class_word p a
  pub class : (a : ℕ) → a < p.atoms → Minimised p a → class_word p a ≤ p.classes
  pub high : (a : ℕ) → a < p.atoms → class_word p a ≤ fixed
  pub rising : (a b : ℕ) → a < b → b < p.atoms → class_word p a ≤ class_word p b
  pub rules : All (Inside p.atoms) p.rules
  pub atoms_fit : p.atoms ≤ atom_limit Preference
  pub rules_fit_lem : length p.rules ≤ rule_limit Preference
  pub occurrences_fit : sum occurrences p.rules ≤ occurrence_limit Preference

-- 1 to 16 a class that is there, 17 varying, 18 fixed
record Word (k w : ℕ) : Type 0 where
  low : 1 ≤ w
  class : w ≤ class_limit → w ≤ k
  high : w ≤ fixed

word : (k w : ℕ) → RoleForm k (role_of w) → Word k w
word k w h = first (dec_le 1 w) (dec_le w class_limit)
  where
    first : Dec (1 ≤ w) → Dec (w ≤ class_limit) → Word k w
    first (no l) u = absurd (subst (RoleForm k) (sym (below w (omega arith))) h)
    first (yes l) (yes u) = record { low = l; class = λ c. subst (RoleForm k) (sym (minimised w l u)) h; high = omega arith }
    first (yes l) (no u) = last (ℕ_discrete w varying) (ℕ_discrete w fixed)
      where
        last : Dec (w ≡ varying) → Dec (w ≡ fixed) → Word k w
        last (no e) (no f) = absurd (subst (RoleForm k) (sym (above w (omega arith) e f)) h)
        last (yes e) f = record { low = l; class = λ c. absurd (u c); high = omega arith }
        last (no e) (yes f) = record { low = l; class = λ c. absurd (u c); high = omega arith }

pub fit_of : (p : Program) → p.kind ≡ Preference → ProgramForm p → Fit p
fit_of p e f =
    let c : ClassesForm Preference p.atoms p.classes p.words = subst (λ (k : Kind). ClassesForm k p.atoms p.classes p.words) e f.classes_form in
    let rs : All (RuleForm Preference p.atoms) p.rules = subst (λ (k : Kind). All (RuleForm k p.atoms) p.rules) e f.rule_forms in
    let size : length p.words ≡ p.atoms = c.1 in
    record {
      count = size;
      classes = c.0;
      low = λ a l. (words c a (omega arith)).low;
      class = λ a l. (words c a (omega arith)).class;
      high = λ a l. (words c a (omega arith)).high;
      rising = λ a b m u. rising_at 0 p.words c.3 a b m (omega arith);
      rules = all_imp (RuleForm Preference p.atoms) (Inside p.atoms) (λ r h. record { head = h.head_form.0; body = h.body_form.0; nots = h.no_nots; head_distinct = h.head_form.1; body_distinct = h.body_form.1 }) p.rules rs;
      atoms_fit = subst (λ (k : Kind). p.atoms ≤ atom_limit k) e f.atoms_fit;
      rules_fit_lem = subst (λ (k : Kind). length p.rules ≤ rule_limit k) e f.rules_fit_lem;
      occurrences_fit = subst (λ (k : Kind). sum occurrences p.rules ≤ occurrence_limit k) e f.occurrences_fit;
    }
  where
    words : ClassesForm Preference p.atoms p.classes p.words → (a : ℕ) → a < length p.words → Word p.classes (class_word p a)
    words c a l = word p.classes (class_word p a) (all_at (λ w. RoleForm p.classes (role_of w)) 0 p.words c.2 a l)

-- an atom is fixed or not
pub fixed_or : (p : Program) (a : ℕ) → T (is_fixed p a) ⊎ T (is_unfixed p a)
fixed_or p a = step (decide (is_fixed p a))
  where
    step : T (is_fixed p a) ⊎ (T (is_fixed p a) → ⊥) → T (is_fixed p a) ⊎ T (is_unfixed p a)
    step (inl h) = inl h
    step (inr h) = inr (T-not-in (is_fixed p a) h)

-- a minimised atom is not
pub minimised_unfixed : (p : Program) (a : ℕ) → Minimised p a → T (is_unfixed p a)
minimised_unfixed p a c = T-not-in (is_fixed p a) (λ e. let k : class_word p a ≡ fixed = eqb→eq (class_word p a) fixed e in omega arith)
