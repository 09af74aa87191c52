-- What adding a rule answers and leaves, from what its parts did.
use Prim.Native.Nat.{ℕ}
use mathlib.Core.Path.{◌≡◌, sym, ◌∙◌}
use mathlib.Core.Bool.{Bool, true, false, not}
use mathlib.Core.List.{List}
use lib.ListN.{length}
use borrow.Author.Tests.{not-true, not-false}
use Rattle.std.specs.Prelude.{Some, None, Result, Err}
use Rattle.kinds.specs.declared.limits.Kind.{Kind}
use Rattle.kinds.specs.declared.refusals.Refusal.{Refusal}
use Rattle.kinds.specs.declared.refusals.Refusal.TheVariants.{RuleStore as NoStore, RuleIndex}
use Rattle.rules.proofs.Booleans.{is_true_lem, is_false}
use Rattle.stores.specs.RuleStore.{decode, is_store, rule_store}
use Rattle.stores.specs.StoredRules.{HeaderOf}
use Rattle.stores.specs.declared.rule_store.Header.{Header}
use Rattle.stores.proofs.RuleTests.{T-is}
use Rattle.stores.proofs.RuleStores.{store_law, of_kind_lem, refused}
use Rattle.name_store.specs.NameStore.{same_bytes as same_words}
use Rattle.name_store.proofs.NameStores.{same_law}
use Rattle.rule_index.specs.Growth.{grown_store}
use Rattle.rule_index.specs.Answers.{store_index, add_answer, add_store, add_index}
use Rattle.rule_index.specs.declared.GrownSizes.{GrownSizes}
use Rattle.rule_adding.specs.CheckedStore.{CheckedStore, Addable}
use Rattle.rule_adding.specs.Delivered.{Delivered}

-- the contract of `add_rule`
abbrev Answered : List ℕ → List ℕ → List ℕ → List ℕ → List ℕ → List ℕ → List ℕ → Result GrownSizes Refusal → Type 0
Answered ws index rule before index_before after index_after r =
    (r ≡ add_answer ws index rule (length before) (length index_before)) × ((after ≡ add_store ws index rule before index_before) × (index_after ≡ add_index ws index rule before index_before))

pub checked : (ws : List ℕ) (kind : Kind) → rule_store ws ≡ Some kind → {h : Header} → HeaderOf (decode ws) ws h → CheckedStore ws kind h
checked ws kind e head = let s = of_kind_lem ws kind e in record { store = s.0; kind_is = s.1; header = head }

pub no_store : (ws index rule before index_before : List ℕ) → rule_store ws ≡ None → Answered ws index rule before index_before before index_before (Err NoStore)
unfolding add_answer add_store add_index
no_store ws index rule before index_before e = let t : is_store ws ≡ false = is_false (is_store ws) ((refused ws).0 e) in (rw t, (rw t, rw t))

module _ {ws : List ℕ} {kind : Kind} {h : Header} (s : CheckedStore ws kind h) (index rule : List ℕ) {b : Bool} (f : b ≡ is_store (grown_store ws rule)) where
  is_store_lem : is_store ws ≡ true
  is_store_lem = is_true_lem (is_store ws) ((store_law ws).1 (decode ws, s.store))

  pub no_fit : (before index_before : List ℕ) → not b ≡ true → Answered ws index rule before index_before before index_before (Err NoStore)
  unfolding add_answer add_store add_index
  no_fit before index_before g = let t : is_store (grown_store ws rule) ≡ false = sym f ∙ not-true b g in (rw (is_store_lem, t), (rw (is_store_lem, t), rw (is_store_lem, t)))

  module _ (g : not b ≡ false) {c : Bool} (k : c ≡ same_words index (store_index ws)) where
    fits : is_store (grown_store ws rule) ≡ true
    fits = sym f ∙ not-false b g

    pub no_index : (before index_before : List ℕ) → not c ≡ true → Answered ws index rule before index_before before index_before (Err RuleIndex)
    unfolding add_answer add_store add_index
    no_index before index_before l = let t : same_words index (store_index ws) ≡ false = sym k ∙ not-true c l in (rw (is_store_lem, fits, t), (rw (is_store_lem, fits, t), rw (is_store_lem, fits, t)))

    module _ (l : not c ≡ false) where
      same : same_words index (store_index ws) ≡ true
      same = sym k ∙ not-false c l

      pub addable : Addable ws index rule h
      addable = record { store = s.store; header = s.header; rule_fits = T-is fits; index_is = (same_law index (store_index ws)).0 (T-is same) }

      pub added : {before index_before after index_after : List ℕ} {r : Result GrownSizes Refusal} → Delivered (grown_store ws rule) (store_index (grown_store ws rule)) before index_before after index_after r
          → Answered ws index rule before index_before after index_after r
      unfolding add_answer add_store add_index
      added d = rw (is_store_lem, fits, same) (d.answer, (rw (sym d.answer) d.store_after, rw (sym d.answer) d.index_after_holds))
