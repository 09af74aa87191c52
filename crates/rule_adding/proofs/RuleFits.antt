-- Whether a store with one rule more is of the form, by its parts.
use Prim.Native.Nat.{ℕ, suc, ◌+◌, ◌-◌, ◌*◌, ◌≤◌, ◌<◌}
use native.Mathlib.Omega.{arith}
use native.Mathlib.Nat.{zero-add}
use mathlib.Core.Path.{◌≡◌, refl, sym, ap, ◌∙◌}
use mathlib.Core.Bool.{Bool, true, false, ◌&&◌, cond}
use mathlib.Core.List.{List}
use lib.Dec.{leb, eqb}
use lib.ListN.{length, replicate}
use borrow.Author.Tests.{le-leb, lt-leb}
use Rattle.std.specs.Prelude.{Option, Some, None}
use Rattle.kinds.specs.Limits.{atom_limit, rule_limit, occurrence_limit}
use Rattle.kinds.specs.declared.limits.Kind.{Kind}
use Rattle.kinds.specs.declared.limits.Kind.TheVariants.{Plain}
use Rattle.rules.specs.Lists.{sum}
use Rattle.rules.specs.Rules.{occurrences}
use Rattle.stores.specs.Checking.{Below, rule_check, rule_end}
use Rattle.stores.specs.RuleStore.{decode, places, is_rule, is_store}
use Rattle.stores.specs.declared.rule_store.Header.{Header}
use Rattle.stores.specs.declared.rule_store.RuleEnd.{RuleEnd}
use Rattle.stores.proofs.RuleStores.{store_law}
use Rattle.stores.proofs.StoreHeader.{unmarked}
use Rattle.rule_index.specs.Growth.{grown_store}
use Rattle.rule_index.proofs.Growth.{grown_tested}
use Rattle.rule_adding.specs.CheckedStore.{CheckedStore}

-- what an answer says of a test and of the words behind the rule
when_broken : (t e : Bool) (i u : ℕ) → None ≡ cond t (Some (rule_end i u)) None → (t && e) ≡ false
when_broken true e i u h = absurd (let z : ◌≡◌ {A = ℕ} 0 1 = cc in omega arith)
when_broken false e i u h = refl

when_passed : (t : Bool) (i u n : ℕ) (end : RuleEnd) → Some end ≡ cond t (Some (rule_end i u)) None → (t && eqb i n) ≡ eqb end.at n
when_passed true i u n end h = let e : rule_end i u ≡ end = cc in ap (λ (r : RuleEnd). eqb r.at n) e
when_passed false i u n end h = absurd (let z : ◌≡◌ {A = ℕ} 0 1 = cc in omega arith)

abbrev no_marks : List ℕ
no_marks = replicate (atom_limit Plain) 0

module _ {ws : List ℕ} {kind : Kind} {h : Header} (s : CheckedStore ws kind h) where
  -- as the code counts them
  abbrev used_here : ℕ
  used_here = length ws - h.start - 3 * h.rules

  used_is : used_here ≡ sum occurrences (decode ws).rules
  used_is = omega (arith, s.header.size)

  pub rule_ready : (rule : List ℕ) → (0 ≤ length rule) × (used_here ≤ occurrence_limit kind) × (h.atoms ≤ length no_marks) × (1 ≤ 65532) × Below 1 no_marks
  rule_ready rule =
      let few : sum occurrences (decode ws).rules ≤ occurrence_limit kind = rw (sym s.kind_is) s.store.form.occurrences_fit in
      (omega arith, omega (arith, used_is, few), omega (arith, s.header.few_atoms), omega arith, unmarked (atom_limit Plain))

  module _ (rule : List ℕ) where
    abbrev ends : Bool
    ends = eqb (3 + places rule) (length rule)

    tested : is_store (grown_store ws rule) ≡ (leb (suc h.rules) (rule_limit kind) && (is_rule kind h.atoms used_here rule && ends))
    tested =
        grown_tested ws rule ((store_law ws).1 (decode ws, s.store))
        ∙ λ i. leb (suc (sym s.header.rules_are i)) (rule_limit (s.kind_is i)) && (is_rule (s.kind_is i) (sym s.header.atoms_are i) (sym used_is i) rule && ends)

    pub no_rule_more : rule_limit kind ≤ h.rules → false ≡ is_store (grown_store ws rule)
    no_rule_more l = sym (tested ∙ ap (λ (b : Bool). b && (is_rule kind h.atoms used_here rule && ends)) (lt-leb (suc h.rules) (rule_limit kind) (omega arith)))

    module _ (l : h.rules < rule_limit kind) {got : Option RuleEnd} (g : got ≡ rule_check kind h.atoms used_here 0 rule) where
      left : is_store (grown_store ws rule) ≡ (is_rule kind h.atoms used_here rule && ends)
      left = tested ∙ ap (λ (b : Bool). b && (is_rule kind h.atoms used_here rule && ends)) (le-leb (suc h.rules) (rule_limit kind) (omega arith))

      pub rule_broken : got ≡ None → false ≡ is_store (grown_store ws rule)
      unfolding rule_check
      rule_broken e = sym (left ∙ when_broken (is_rule kind h.atoms used_here rule) ends (0 + (3 + places rule)) (used_here + places rule) (sym e ∙ g))

      pub rule_passed : {end : RuleEnd} → got ≡ Some end → eqb end.at (length rule) ≡ is_store (grown_store ws rule)
      unfolding rule_check
      rule_passed {end} e =
          let test = is_rule kind h.atoms used_here rule in
          sym
          (left
          ∙ ap (λ (k : ℕ). test && eqb k (length rule)) (sym (zero-add (3 + places rule)))
          ∙ when_passed test (0 + (3 + places rule)) (used_here + places rule) (length rule) end (sym e ∙ g))
