-- The three lists of the rule at the front of words, as the code takes them.
use Prim.Native.Nat.{ℕ, ◌+◌, ◌-◌, ◌<◌}
use mathlib.Core.Path.{◌≡◌, sym, subst}
use mathlib.Core.List.{List}
use lib.ListN.{take, drop}
use Rattle.rules.specs.Lists.{All}
use Rattle.rules.proofs.Lists.{part_sized}
use Rattle.stores.specs.RuleStore.{heads, bodies, nots, rule_at}
use Rattle.stores.specs.StoredRules.{StoredRule}

module _ (ws : List ℕ) where
  abbrev head_part : List ℕ
  head_part = take (3 + heads ws - 3) (drop 3 ws)

  abbrev body_part : List ℕ
  body_part = take (3 + heads ws + bodies ws - (3 + heads ws)) (drop (3 + heads ws) ws)

  abbrev not_part : List ℕ
  not_part = take (3 + heads ws + bodies ws + nots ws - (3 + heads ws + bodies ws)) (drop (3 + heads ws + bodies ws) ws)

  pub head_is : head_part ≡ (rule_at ws).head
  unfolding rule_at
  head_is = part_sized 3 (heads ws) (drop 3 ws)

  pub body_is : body_part ≡ (rule_at ws).body
  unfolding rule_at
  body_is = part_sized (3 + heads ws) (bodies ws) (drop (3 + heads ws) ws)

  pub nots_are : not_part ≡ (rule_at ws).nots
  unfolding rule_at
  nots_are = part_sized (3 + heads ws + bodies ws) (nots ws) (drop (3 + heads ws + bodies ws) ws)

-- the atoms of each list of a stored rule are below n
module _ {n : ℕ} {ws : List ℕ} (h : StoredRule n ws) {xs : List ℕ} where
  pub heads_below : xs ≡ (rule_at ws).head → All (λ a. a < n) xs
  heads_below e = subst (All (λ a. a < n)) (sym e) h.heads

  pub bodies_below : xs ≡ (rule_at ws).body → All (λ a. a < n) xs
  bodies_below e = subst (All (λ a. a < n)) (sym e) h.bodies

  pub nots_below : xs ≡ (rule_at ws).nots → All (λ a. a < n) xs
  nots_below e = subst (All (λ a. a < n)) (sym e) h.nots
