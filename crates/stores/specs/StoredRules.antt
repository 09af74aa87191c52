-- Rules that stand in words one after the other, as in a rule store.
use Rattle.std.specs.Prelude.{ℕ, zero, suc, ◌+◌, ◌*◌, ◌≤◌, ◌<◌, ◌≡◌, List, length, drop}
use Rattle.kinds.specs.Limits.{atom_limit, rule_limit, occurrence_limit}
use Rattle.kinds.specs.declared.limits.Kind.TheVariants.{Plain}
use Rattle.rules.specs.Lists.{All, sum}
use Rattle.rules.specs.Rules.{occurrences}
use Rattle.stores.specs.Program.{Program}
use Rattle.stores.specs.RuleStore.{places, rule_at, rules_from}
use Rattle.stores.specs.declared.rule_store.Header.{Header}

-- a rule at the front of the words, its atoms below n
pub record StoredRule (n : ℕ) (ws : List ℕ) : Type 0 where
  pub inside : 3 + places ws ≤ length ws
  pub few : places ws ≤ occurrence_limit Plain
  pub heads : All (λ a. a < n) (rule_at ws).head
  pub bodies : All (λ a. a < n) (rule_at ws).body
  pub nots : All (λ a. a < n) (rule_at ws).nots

-- r rules, one after the other
abbrev pub StoredRules : ℕ → ℕ → List ℕ → Type 0
StoredRules n zero ws = Unit {0}
StoredRules n (suc r) ws = StoredRule n ws × StoredRules n r (drop (3 + places ws) ws)

-- what a store of p has, and where its rules start
pub record HeaderOf (p : Program) (ws : List ℕ) (h : Header) : Type 0 where
  pub atoms_are : h.atoms ≡ p.atoms
  pub rules_are : h.rules ≡ length p.rules
  pub few_atoms : h.atoms ≤ atom_limit Plain
  pub few_rules : h.rules ≤ rule_limit Plain
  pub size : length ws ≡ h.start + (3 * h.rules + sum occurrences p.rules)
  pub stored : StoredRules h.atoms h.rules (drop h.start ws)
  pub read : rules_from h.rules (drop h.start ws) ≡ p.rules
