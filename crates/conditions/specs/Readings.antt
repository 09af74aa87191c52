-- The two readings of a file with conditions: directly, and by the written program (document 02, W-208). Definition 3 is stated once, for any atoms and any models.
use Rattle.std.specs.Prelude.{ℕ, ◌^◌, ◌≤◌, ◌<◌, ◌≡◌, List, Bool, ◌↔◌, T, length}
use Rattle.kinds.specs.Limits.{class_limit, varying, fixed}
use Rattle.rules.specs.Lists.{All}
use Rattle.rules.specs.Sets.{has, In, Out}
use Rattle.rules.specs.Rules.{Holds, Model}
use Rattle.rules.specs.Preferred.{OfClass}
use Rattle.conditions.specs.Conditions.{Atom, planner, made, Statement, states, when, truth}
use Rattle.conditions.specs.Written.{written}

module _ {A : Type 0} (Models : (A → Bool) → Type 0) (Class : ℕ → A → Type 0) where
  -- s beats m: a model that agrees with m on the fixed atoms and on all classes before some class, while its part of that class is a proper subset of m's
  pub record BeatsOver (s m : A → Bool) : Type 0 where
    pub model : Models s
    pub agrees : (a : A) → Class fixed a → In s a ↔ In m a
    pub class : ℕ
    pub is_class_holds : (1 ≤ class) × (class ≤ class_limit)
    pub earlier : (j : ℕ) → 1 ≤ j → j < class → (a : A) → Class j a → In s a ↔ In m a
    pub subset : (a : A) → Class class a → In s a → In m a
    pub proper : (a : A) × Class class a × In m a × Out s a

  -- a model that nothing beats
  pub record PreferredOver (m : A → Bool) : Type 0 where
    pub model : Models m
    pub unbeaten : (s : A → Bool) → BeatsOver s m → ⊥

-- a rule holds; a holds wherever its condition does
abbrev pub StatementHolds : (ℕ → Bool) → Statement → Type 0
StatementHolds m (states r) = Holds m r
StatementHolds m (when c a) = T (truth m c) → In m a

-- a model of the rules and conditions, read directly
abbrev pub DirectModel : List Statement → (ℕ → Bool) → Type 0
DirectModel ls m = All (StatementHolds m) ls

-- preferred directly: Definition 3 over those models, the planner's classes
abbrev pub DirectPreferred : List ℕ → List Statement → (ℕ → Bool) → Type 0
DirectPreferred ws ls m = PreferredOver (DirectModel ls) (OfClass ws) m

-- the same of a set by its number, as `Preferred` has it
pub record DirectSet (ws : List ℕ) (ls : List Statement) (s : ℕ) : Type 0 where
  pub model : DirectModel ls (has s)
  pub unbeaten : (u : ℕ) → u < 2 ^ length ws → BeatsOver (DirectModel ls) (OfClass ws) (has u) (has s) → ⊥

-- the planner's classes; T atoms are varying
abbrev pub WrittenClass : List ℕ → ℕ → Atom → Type 0
WrittenClass ws w (planner a) = OfClass ws w a
WrittenClass ws w (made t) = w ≡ varying

-- a preferred set of the written program
abbrev pub WrittenPreferred : List ℕ → List Statement → (Atom → Bool) → Type 0
WrittenPreferred ws ls x = PreferredOver (Model (written ls)) (WrittenClass ws) x

-- a set cut to the planner's atoms
abbrev pub cut_down : (Atom → Bool) → ℕ → Bool
cut_down x a = x (planner a)
