-- The check of an index over the rules of a checked store, with tables for its atoms.
use Prim.Native.Nat.{ℕ, ◌-◌, ◌≤◌, ◌<◌}
use native.Mathlib.Omega.{arith}
use mathlib.Core.Path.{◌≡◌, sym, ap₂, subst, ◌∙◌}
use mathlib.Core.Bool.{Bool, true}
use mathlib.Core.List.{List}
use lib.ListN.{length, take, drop, replicate, length-replicate}
use lib.Seq.{length-take-le}
use Rattle.kinds.specs.Limits.{atom_limit, rule_limit}
use Rattle.kinds.specs.declared.limits.Kind.TheVariants.{Plain}
use Rattle.rules.specs.Rules.{Rule}
use Rattle.rules.proofs.Lists.{part_rest}
use Rattle.stores.specs.Checking.{Below}
use Rattle.stores.specs.RuleStore.{decode, rules_from}
use Rattle.stores.specs.StoredRules.{StoredRules, HeaderOf}
use Rattle.stores.specs.declared.rule_store.Header.{Header}
use Rattle.stores.proofs.StoreHeader.{unmarked}
use Rattle.name_store.specs.NameStore.{same_bytes as same_words}
use Rattle.rule_index.specs.Index.{index}
use Rattle.rule_index.specs.Answers.{store_index}
use Rattle.rule_index.specs.Places.{Placed}

module _ {rules : List ℕ} {h : Header} (s : HeaderOf (decode rules) rules h) where
  -- the tables and the rules, as the code lends them
  abbrev table : List ℕ
  table = replicate (atom_limit Plain) 0

  abbrev next : List ℕ
  next = take h.atoms table

  abbrev part : List ℕ
  part = take (length rules - h.start) (drop h.start rules)

  next_size : length next ≡ h.atoms
  next_size = length-take-le h.atoms table (omega (arith, s.few_atoms, length-replicate {A = ℕ} (atom_limit Plain) 0))

  pub next_sized : h.atoms ≡ length next
  next_sized = sym next_size

  pub tables_ready : {room : ℕ} → rule_limit Plain ≤ room
      → (StoredRules (length next) h.rules part × (h.rules < 65535)) × ((length next ≤ atom_limit Plain) × (length next ≤ atom_limit Plain) × Below 1 table × (h.rules ≤ room))
  tables_ready r = (
    (subst (λ (m : ℕ). StoredRules m h.rules part) next_sized (subst (StoredRules h.atoms h.rules) (sym (part_rest h.start rules)) s.stored), omega (arith, s.few_rules)),
    (omega (arith, next_size, s.few_atoms), omega (arith, next_size, s.few_atoms), unmarked (atom_limit Plain), omega (arith, s.few_rules)),
  )

  pub store_decided : (words : List ℕ) {r : Bool} {starts : List ℕ} → (r ≡ same_words words (index (length next) (rules_from h.rules part))) × (r ≡ true → Placed (length next) h.rules part starts)
      → (r ≡ same_words words (store_index rules)) × (r ≡ true → Placed h.atoms h.rules (drop h.start rules) starts)
  unfolding store_index
  store_decided words {starts = starts} e =
      let q : rules_from h.rules part ≡ (decode rules).rules = subst (λ (l : List ℕ). rules_from h.rules l ≡ (decode rules).rules) (sym (part_rest h.start rules)) s.read in (
        e.0 ∙ ap₂ (λ (n : ℕ) (qs : List (Rule ℕ)). same_words words (index n qs)) (next_size ∙ s.atoms_are) q,
        λ t. subst (λ (n : ℕ). Placed n h.rules (drop h.start rules) starts) next_size (subst (λ (ws : List ℕ). Placed (length next) h.rules ws starts) (part_rest h.start rules) (e.1 t)),
      )
