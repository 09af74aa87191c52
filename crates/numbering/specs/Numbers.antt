-- The names of a rule's lists as atom numbers.
use Rattle.std.specs.Prelude.{ℕ, ◌+◌, ◌*◌, ◌≤◌, ◌≡◌, Bool, true, false, not, List, [], ◌++◌, map, length, drop, Option, Some, None}
use Rattle.rules.specs.Lists.{some}
use Rattle.stores.specs.Checking.{Below}
use Rattle.output.specs.Emitted.{Emitted}
use Rattle.numbering.specs.declared.numbers.Numbers.{Numbers}
use Rattle.numbering.specs.declared.numbers.RuleCounts.{RuleCounts}
use Rattle.lines.specs.Tokens.{Token, tokens, items}
use Rattle.lines.specs.Forms.{LineForm, rules, split, split_names, closed_lastly, rule_form, typed_form}
use Rattle.lines.specs.Faults.{name_number, any_of}
use Rattle.lines.specs.Faults as Faults
use Rattle.name_store.specs.NameStore.{among}

-- some name is not declared
abbrev pub undeclared : List (List ℕ) → List (List ℕ) → Bool
undeclared names xs = some (λ x. not (among names x)) xs

-- every name of the list is declared, and its numbers stand written
pub record Numbered (names xs : List (List ℕ)) (stamp : ℕ) (before : List ℕ) (at : ℕ) (marks after : List ℕ) (end : ℕ) (twice : Bool) : Type 0 where
  pub declared : undeclared names xs ≡ false
  pub is_twice : twice ≡ Faults.twice [] xs
  pub written : Emitted before at (map (name_number names) xs) after end
  pub below : Below (stamp + 1) marks

-- the list from a place on
pub record ListNumbered (names : List (List ℕ)) (s : List ℕ) (from stamp : ℕ) (before : List ℕ) (at : ℕ) (marks after : List ℕ) (place end : ℕ) (twice : Bool) : Type 0 where
  pub cuts : split_names (tokens (drop from s)) ≡ split (items (drop from s)) (tokens (drop place s))
  pub inside : place ≤ length s
  pub numbered : Numbered names (items (drop from s)) stamp before at marks after end twice

abbrev pub NumbersSay : List (List ℕ) → List ℕ → ℕ → ℕ → List ℕ → ℕ → List ℕ → List ℕ → Option Numbers → Type 0
NumbersSay names s from stamp before at marks after (Some n) = ListNumbered names s from stamp before at marks after n.place n.end n.twice
NumbersSay names s from stamp before at marks after None =
    (xs : List (List ℕ)) (rest : List Token) → split_names (tokens (drop from s)) ≡ split xs rest → undeclared names xs ≡ true

-- what the answer for a list says
pub record NumbersAre (names : List (List ℕ)) (s : List ℕ) (from stamp : ℕ) (before : List ℕ) (at : ℕ) (marks after : List ℕ) (r : Option Numbers) : Type 0 where
  pub says : NumbersSay names s from stamp before at marks after r

-- the same of a rule's three lists
abbrev pub rule_numbers : List (List ℕ) → List (List ℕ) → List (List ℕ) → List (List ℕ) → List ℕ
rule_numbers names hs bs ns = map (name_number names) hs ++ (map (name_number names) bs ++ map (name_number names) ns)

pub record RuleNumbered (names hs bs ns : List (List ℕ)) (stamp : ℕ) (before : List ℕ) (at : ℕ) (marks after : List ℕ) (c : RuleCounts) : Type 0 where
  pub declared : any_of (undeclared names) hs bs ns ≡ false
  pub is_twice : c.twice ≡ any_of (Faults.twice []) hs bs ns
  pub written : Emitted before at (rule_numbers names hs bs ns) after c.end
  pub below : Below (stamp + 3) marks
  pub is_heads : c.heads ≡ length hs
  pub is_bodies : c.bodies ≡ length bs
  pub is_nots : c.nots ≡ length ns

-- the lists behind `(rule`, up to a place behind which the rule is closed
pub record ListsNumbered (names : List (List ℕ)) (s : List ℕ) (from stamp : ℕ) (before : List ℕ) (at : ℕ) (marks after : List ℕ) (c : RuleCounts) : Type 0 where
  pub heads : List (List ℕ)
  pub bodies : List (List ℕ)
  pub nots : List (List ℕ)
  pub form : rule_form (tokens (drop from s)) ≡ closed_lastly (tokens (drop c.place s)) (rules heads bodies nots)
  pub inside : c.place ≤ length s
  pub few : c.heads + c.bodies + c.nots ≤ 3 * length s
  pub numbered : RuleNumbered names heads bodies nots stamp before at marks after c

-- no rule, or one with a name that is not declared
abbrev pub NoRule : List (List ℕ) → LineForm → Type 0
NoRule names f = (hs bs ns : List (List ℕ)) → f ≡ rules hs bs ns → any_of (undeclared names) hs bs ns ≡ true

abbrev pub ListsSay : List (List ℕ) → List ℕ → ℕ → ℕ → List ℕ → ℕ → List ℕ → List ℕ → Option RuleCounts → Type 0
ListsSay names s from stamp before at marks after (Some c) = ListsNumbered names s from stamp before at marks after c
ListsSay names s from stamp before at marks after None = NoRule names (rule_form (tokens (drop from s)))

pub record ListsAre (names : List (List ℕ)) (s : List ℕ) (from stamp : ℕ) (before : List ℕ) (at : ℕ) (marks after : List ℕ) (r : Option RuleCounts) : Type 0 where
  pub says : ListsSay names s from stamp before at marks after r

-- a rule's line
pub record LineNumbered (names : List (List ℕ)) (l : List ℕ) (stamp : ℕ) (before : List ℕ) (at : ℕ) (marks after : List ℕ) (c : RuleCounts) : Type 0 where
  pub heads : List (List ℕ)
  pub bodies : List (List ℕ)
  pub nots : List (List ℕ)
  pub form : typed_form l ≡ rules heads bodies nots
  pub few : c.heads + c.bodies + c.nots ≤ 3 * length l
  pub numbered : RuleNumbered names heads bodies nots stamp before at marks after c

abbrev pub RuleSays : List (List ℕ) → List ℕ → ℕ → List ℕ → ℕ → List ℕ → List ℕ → Option RuleCounts → Type 0
RuleSays names l stamp before at marks after (Some c) = LineNumbered names l stamp before at marks after c
RuleSays names l stamp before at marks after None = NoRule names (typed_form l)

pub record RuleIs (names : List (List ℕ)) (l : List ℕ) (stamp : ℕ) (before : List ℕ) (at : ℕ) (marks after : List ℕ) (r : Option RuleCounts) : Type 0 where
  pub says : RuleSays names l stamp before at marks after r
