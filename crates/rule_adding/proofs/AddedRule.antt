-- The index of a store with one rule more, in a scratch that has room for every index.
use Prim.Native.Nat.{ℕ, suc, ◌+◌, ◌≤◌, ◌<◌}
use native.Mathlib.Omega.{arith}
use mathlib.Core.Path.{◌≡◌, sym, ap, ap₂, subst, ◌∙◌}
use mathlib.Core.Bool.{◌&&◌}
use mathlib.Core.List.{List, [], ◌∷◌, ◌++◌}
use lib.Dec.{T, leb, eqb}
use lib.ListN.{length, get_or, take, drop, length-append}
use lib.Seq.{drop-append_seam}
use Rattle.std.specs.Prelude.{Result}
use Rattle.kinds.specs.declared.refusals.Refusal.{Refusal}
use Rattle.kinds.specs.Limits.{atom_limit, rule_limit, occurrence_limit}
use Rattle.kinds.specs.declared.limits.Kind.TheVariants.{Plain}
use Rattle.rules.specs.Lists.{sum, flat, from}
use Rattle.rules.specs.Rules.{occurrences}
use Rattle.rules.proofs.Booleans.{T_of, T-and-l, T-and-r}
use Rattle.rules.proofs.Lists.{length_from}
use Rattle.stores.specs.Program.{Program}
use Rattle.stores.specs.RuleStore.{StoreOf, decode, rule_at, places, is_rule, is_store}
use Rattle.stores.specs.StoredRules.{StoredRule}
use Rattle.stores.specs.declared.rule_store.Header.{Header}
use Rattle.stores.proofs.RulePlace.{limit_small}
use Rattle.stores.proofs.RuleTests.{RuleHere, rule_law}
use Rattle.stores.proofs.RuleStores.{decoded, store_law, words_fit}
use Rattle.stores.proofs.StoreHeader.{atoms_small}
use Rattle.stores.proofs.StoredRules.{has_header, rules_word}
use Rattle.output.specs.Emitted.{Emitted, InRange}
use Rattle.output.proofs.Emitting.{front_inside, front_is}
use Rattle.rule_index.specs.Index.{counted, index, index_of, rules_with}
use Rattle.rule_index.specs.Growth.{grown_store, grown_index}
use Rattle.rule_index.specs.Answers.{store_index}
use Rattle.rule_index.specs.declared.GrownSizes.{GrownSizes}
use Rattle.rule_index.proofs.Growth.{grown_tested, grown_decoded, grown_index_lem}
use Rattle.rule_index.proofs.IndexSize.{index_few}
use Rattle.rule_adding.specs.CheckedStore.{Addable}
use Rattle.rule_adding.specs.Delivered.{Delivered}
use Rattle.rule_adding.specs.GrownLists.{CountedLists}

-- an index has a list for each atom
lists_of : (f : ℕ → List ℕ) (xs : List ℕ) → CountedLists (length xs) (flat (λ a. counted (f a)) xs)
lists_of f [] = tt
lists_of f (x ∷ xs) =
    let rest = flat (λ a. counted (f a)) xs in
    let one : suc (length (f x)) ≡ 1 + length (f x) = omega arith in (
      omega (arith, length-append (f x) rest),
      subst (CountedLists (length xs)) (sym (drop-append_seam (f x) rest) ∙ ap (λ (k : ℕ). drop k (counted (f x) ++ rest)) one) (lists_of f xs),
    )

index_lists : (p : Program) → CountedLists p.atoms (index_of p)
unfolding index
index_lists p = subst (λ (n : ℕ). CountedLists n (index_of p)) (length_from 0 p.atoms) (lists_of (λ a. rules_with a p.rules) (from 0 p.atoms))

index_small : {ws : List ℕ} → StoreOf ws (decode ws) → length (store_index ws) ≤ atom_limit Plain + occurrence_limit Plain
unfolding store_index
index_small {ws} s =
    let p = decode ws in
    omega (arith, index_few p.atoms p.rules, s.form.atoms_fit, s.form.occurrences_fit, atoms_small p.kind, limit_small p.kind)

module _ {ws index rule : List ℕ} {h : Header} (a : Addable ws index rule h) where
  is_store_lem : T (is_store ws)
  is_store_lem = (store_law ws).1 (decode ws, a.store)

  grown_store_lem : StoreOf (grown_store ws rule) (decode (grown_store ws rule))
  grown_store_lem = decoded (grown_store ws rule) a.rule_fits

  rule_here : RuleHere (decode ws).kind (decode ws).atoms (sum occurrences (decode ws).rules) rule
  rule_here =
      let p = decode ws in
      let count = leb (suc (length p.rules)) (rule_limit p.kind) in
      let test = is_rule p.kind p.atoms (sum occurrences p.rules) rule in
      let end = eqb (3 + places rule) (length rule) in
      (rule_law p.kind p.atoms (sum occurrences p.rules) rule).0 (T-and-l test end (T-and-r count (test && end) (T_of (grown_tested ws rule is_store_lem) a.rule_fits)))

  rule_stored : StoredRule h.atoms rule
  rule_stored =
      let r = rule_here in
      subst (λ (n : ℕ). StoredRule n rule) (sym a.header.atoms_are)
      (record {
        inside = r.inside;
        few = omega (arith, r.fits, limit_small (decode ws).kind);
        heads = r.form.head_form.0;
        bodies = r.form.body_form.0;
        nots = r.form.nots_form.0;
      })

  grown_is : grown_index (rule_at rule) h.rules 0 h.atoms index ≡ store_index (grown_store ws rule)
  unfolding store_index
  grown_is =
      let p = decode ws in
      let r = rule_at rule in
      ap₂ (λ (k n : ℕ). grown_index r k 0 n index) a.header.rules_are a.header.atoms_are
      ∙ ap (grown_index r (length p.rules) 0 p.atoms) a.index_is
      ∙ grown_index_lem r p.atoms p.rules
      ∙ ap index_of (sym (grown_decoded ws rule is_store_lem a.rule_fits).1)

  grown_small : length (grown_index (rule_at rule) h.rules 0 h.atoms index) ≤ atom_limit Plain + occurrence_limit Plain
  grown_small = omega (arith, ap length grown_is, index_small grown_store_lem)

  -- what `grow_index` requires
  pub grow_ready : (h.atoms ≤ atom_limit Plain) × StoredRule h.atoms rule × CountedLists h.atoms index × (length index ≤ 65535) × InRange 0 (grown_index (rule_at rule) h.rules 0 h.atoms index)
  unfolding store_index
  grow_ready = (
    a.header.few_atoms,
    rule_stored,
    subst (CountedLists h.atoms) (sym a.index_is) (subst (λ (n : ℕ). CountedLists n (store_index ws)) (sym a.header.atoms_are) (index_lists (decode ws))),
    omega (arith, ap length a.index_is, index_small a.store),
    record { below = omega (arith, grown_small) },
  )

  module _ {scratch scratch' : List ℕ} {size : ℕ} (e : Emitted scratch 0 (grown_index (rule_at rule) h.rules 0 h.atoms index) scratch' size) (room : atom_limit Plain + occurrence_limit Plain ≤ length scratch) where
    pub index_inside : size ≤ length scratch'
    index_inside = front_inside e (omega (arith, grown_small))

    front_index : take size scratch' ≡ store_index (grown_store ws rule)
    front_index = front_is e (omega (arith, grown_small)) ∙ grown_is

    -- what `deliver` requires
    pub deliver_ready : (4 ≤ length ws) × (get_or ws 3 0 < 65535) × InRange 0 (grown_store ws rule) × InRange 0 (take size scratch')
    deliver_ready =
        let g = grown_store_lem in (
          has_header ws (decode ws) a.store,
          omega (arith, rules_word ws (decode ws) a.store, a.header.rules_are, a.header.few_rules),
          record { below = omega (arith, ap length g.words, words_fit (decode (grown_store ws rule)) g.form) },
          record { below = omega (arith, ap length front_index, index_small g) },
        )

    pub index_delivered : {before index_before after index_after : List ℕ} {r : Result GrownSizes Refusal} → Delivered (grown_store ws rule) (take size scratch') before index_before after index_after r
        → Delivered (grown_store ws rule) (store_index (grown_store ws rule)) before index_before after index_after r
    index_delivered {before} {index_before} {after} {index_after} {r} d = subst (λ (l : List ℕ). Delivered (grown_store ws rule) l before index_before after index_after r) front_index d
