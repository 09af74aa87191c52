-- The index of a store's words: refused, or that of the store's program.
use Prim.Native.Nat.{ℕ, ◌-◌, ◌≤◌}
use native.Mathlib.Omega.{arith}
use mathlib.Core.Path.{◌≡◌, sym, ap, ap₂, ◌∙◌, subst}
use mathlib.Core.Bool.{true, false}
use mathlib.Core.List.{List}
use lib.ListN.{length, take, drop}
use Rattle.std.specs.Prelude.{Some, None, Result, Err}
use Rattle.kinds.specs.declared.limits.Kind.{Kind}
use Rattle.kinds.specs.declared.refusals.Refusal.{Refusal}
use Rattle.kinds.specs.declared.refusals.Refusal.TheVariants.{RuleStore}
use Rattle.rules.specs.Lists.{over}
use Rattle.rules.proofs.Booleans.{is_true_lem, is_false}
use Rattle.rules.proofs.Lists.{part_rest}
use Rattle.stores.specs.RuleStore.{StoreOf, rule_store, is_store, decode, rules_from}
use Rattle.stores.specs.StoredRules.{StoredRules, HeaderOf}
use Rattle.stores.specs.declared.rule_store.Header.{Header}
use Rattle.stores.proofs.RulePlace.{limit_small}
use Rattle.stores.proofs.RuleStores.{of_kind_lem, store_law, refused}
use Rattle.rule_index.specs.Index.{index}
use Rattle.rule_index.specs.Answers.{fitted, filled_words, store_index, index_answer, index_output}
use Rattle.rule_index.proofs.IndexSize.{index_few}

module _ (ws before : List ℕ) where
  pub no_store : rule_store ws ≡ None → (Err RuleStore ≡ index_answer ws (length before)) × (before ≡ index_output ws before)
  unfolding index_answer index_output
  no_store e = let t : is_store ws ≡ false = is_false (is_store ws) ((refused ws).0 e) in (rw t, rw t)

  module _ {kind : Kind} (e : rule_store ws ≡ Some kind) where
    store_here : StoreOf ws (decode ws)
    store_here = (of_kind_lem ws kind e).0

    module _ {h : Header} (q : HeaderOf (decode ws) ws h) where
      -- the words of the rules, as the code takes them
      abbrev rest : List ℕ
      rest = take (length ws - h.start) (drop h.start ws)

      rest_is : rest ≡ drop h.start ws
      rest_is = part_rest h.start ws

      same_rules : rules_from h.rules rest ≡ (decode ws).rules
      same_rules = ap (rules_from h.rules) rest_is ∙ q.read

      same_index : index h.atoms (rules_from h.rules rest) ≡ store_index ws
      unfolding store_index
      same_index = ap₂ index q.atoms_are same_rules

      pub rules_ready : StoredRules h.atoms h.rules rest × (h.rules ≤ 4200) × (h.atoms ≤ 1100) × (length (index h.atoms (rules_from h.rules rest)) ≤ 65535)
      rules_ready =
          let p = decode ws in (
            subst (StoredRules h.atoms h.rules) (sym rest_is) q.stored,
            q.few_rules,
            q.few_atoms,
            omega (arith, ap length (ap₂ index q.atoms_are same_rules), index_few p.atoms p.rules, q.atoms_are, q.few_atoms, store_here.form.occurrences_fit, limit_small p.kind),
          )

      pub answered : {r : Result ℕ Refusal} {after : List ℕ} → (r ≡ fitted (index h.atoms (rules_from h.rules rest)) (length before)) × (after ≡ over (filled_words r (index h.atoms (rules_from h.rules rest))) before)
          → (r ≡ index_answer ws (length before)) × (after ≡ index_output ws before)
      unfolding index_answer index_output
      answered {r} {after} a =
          let t : is_store ws ≡ true = is_true_lem (is_store ws) ((store_law ws).1 (decode ws, store_here)) in
          let s : r ≡ fitted (store_index ws) (length before) = a.0 ∙ ap (λ (l : List ℕ). fitted l (length before)) same_index in (
            rw t s,
            rw t (a.1 ∙ ap₂ (λ (f : Result ℕ Refusal) (l : List ℕ). over (filled_words f l) before) s same_index),
          )
