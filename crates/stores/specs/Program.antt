-- A program of either kind, and when it is of the form (document 01, "The two kinds of file").
use Rattle.std.specs.Prelude.{ℕ, ◌≤◌, ◌<◌, ◌≡◌, ◌&&◌, cond, List, [], ◌∷◌, leb, eqb, length}
use Rattle.kinds.specs.Limits.{atom_limit, rule_limit, occurrence_limit, class_limit, varying, fixed}
use Rattle.kinds.specs.declared.limits.Kind.{Kind}
use Rattle.kinds.specs.declared.limits.Kind.TheVariants.{Plain, Preference}
use Rattle.rules.specs.Lists.{All, Distinct, sum}
use Rattle.rules.specs.Rules.{Rule, occurrences}
use Rattle.stores.specs.declared.roles.Role.{Role}
use Rattle.stores.specs.declared.roles.Role.TheVariants.{Minimised, Varying, Fixed, Unknown}

pub record Program : Type 0 where
  pub kind : Kind
  pub atoms : ℕ
  pub classes : ℕ
  -- a class word for each atom of a preference program; none in a plain one
  pub words : List ℕ
  pub rules : List (Rule ℕ)

unfoldable pub role_of : ℕ → Role
role_of w = cond (leb 1 w && leb w class_limit) (Minimised w) (cond (eqb w varying) Varying (cond (eqb w fixed) Fixed Unknown))

-- 1 to 16 the class, 17 varying, 18 fixed, none naming a class above k
abbrev pub RoleForm : ℕ → Role → Type 0
RoleForm k (Minimised i) = i ≤ k
RoleForm k Varying = Unit {0}
RoleForm k Fixed = Unit {0}
RoleForm k Unknown = ⊥

-- never falling, b being the word before
abbrev pub NeverFalling : ℕ → List ℕ → Type 0
NeverFalling b [] = Unit {0}
NeverFalling b (w ∷ ws) = (b ≤ w) × NeverFalling w ws

abbrev pub ClassesForm : Kind → ℕ → ℕ → List ℕ → Type 0
ClassesForm Plain n k ws = (k ≡ 0) × (ws ≡ [])
ClassesForm Preference n k ws = (k ≤ class_limit) × (length ws ≡ n) × All (λ w. RoleForm k (role_of w)) ws × NeverFalling 0 ws

-- atom numbers below n, none twice
abbrev pub ListForm : ℕ → List ℕ → Type 0
ListForm n xs = All (λ a. a < n) xs × Distinct xs

abbrev pub NotForm : Kind → List ℕ → Type 0
NotForm Plain xs = Unit {0}
NotForm Preference xs = xs ≡ []

pub record RuleForm (kind : Kind) (n : ℕ) (r : Rule ℕ) : Type 0 where
  pub head_form : ListForm n r.head
  pub body_form : ListForm n r.body
  pub nots_form : ListForm n r.nots
  pub no_nots : NotForm kind r.nots

pub record ProgramForm (p : Program) : Type 0 where
  pub atoms_fit : p.atoms ≤ atom_limit p.kind
  pub rules_fit_lem : length p.rules ≤ rule_limit p.kind
  pub occurrences_fit : sum occurrences p.rules ≤ occurrence_limit p.kind
  pub classes_form : ClassesForm p.kind p.atoms p.classes p.words
  pub rule_forms : All (RuleForm p.kind p.atoms) p.rules
