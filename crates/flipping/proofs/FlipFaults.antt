-- The faults of a call, in their order.
use Prim.Native.Nat.{ℕ, ◌^◌, ◌≤◌, ◌<◌}
use native.Mathlib.Omega.{arith}
use mathlib.Core.Path.{◌≡◌, sym, ap, ◌∙◌}
use mathlib.Core.Bool.{Bool, true, false, not, ◌&&◌}
use mathlib.Core.List.{List}
use lib.Dec.{leb, ltb}
use lib.ListN.{length}
use borrow.Author.Tests.{not-true, not-false, le-leb, lt-leb, ltb-true}
use Rattle.std.specs.Prelude.{None, Result, Err}
use Rattle.kinds.specs.Limits.{walk_atoms}
use Rattle.kinds.specs.declared.refusals.Refusal.{Refusal}
use Rattle.kinds.specs.declared.refusals.Refusal.TheVariants.{RuleStore as NoStore, TooManyAtoms, SetNumber, RuleIndex}
use Rattle.rules.proofs.Booleans.{is_true_lem, is_false, both_true}
use Rattle.stores.specs.RuleStore.{StoreOf, decode, is_store, rule_store}
use Rattle.stores.specs.StoredRules.{HeaderOf}
use Rattle.stores.specs.declared.rule_store.Header.{Header}
use Rattle.stores.proofs.RuleStores.{store_law, refused}
use Rattle.stores.proofs.RuleTests.{T-is}
use Rattle.name_store.proofs.NameStores.{same_equal}
use Rattle.rule_index.specs.Flip.{is_rising}
use Rattle.rule_index.specs.Answers.{store_index, is_indexed, is_listed, flip_list, flip_answer, flip_output, fitted}
use Rattle.flipping.specs.Checked.{Checked, fitted_output}

module _ (rules index list : List ℕ) (set atom : ℕ) (before : List ℕ) where
  abbrev ws : List ℕ
  ws = flip_list rules list set atom

  abbrev pub Answered : Result ℕ Refusal → List ℕ → Type 0
  Answered r after = (r ≡ flip_answer rules index list set atom (length before)) × (after ≡ flip_output rules index list set atom before)

  pub no_store : rule_store rules ≡ None → Answered (Err NoStore) before
  unfolding flip_answer flip_output
  no_store e = let t : is_store rules ≡ false = is_false (is_store rules) ((refused rules).0 e) in (rw t, rw t)

  module _ (e : StoreOf rules (decode rules)) {header : Header} (h : HeaderOf (decode rules) rules header) {b : Bool} (i : b ≡ is_indexed rules index) where
    is_store_lem : is_store rules ≡ true
    is_store_lem = is_true_lem (is_store rules) ((store_law rules).1 (decode rules, e))

    pub no_index : not b ≡ true → Answered (Err RuleIndex) before
    unfolding flip_answer flip_output
    no_index n = let t : is_indexed rules index ≡ false = sym i ∙ not-true b n in (rw (is_store_lem, t), rw (is_store_lem, t))

    module _ (is : not b ≡ false) {l : Bool} (f : l ≡ is_rising 0 header.rules list) where
      is_index : is_indexed rules index ≡ true
      is_index = sym i ∙ not-false b is

      rises : (t : Bool) → l ≡ t → is_listed rules list ≡ t
      rises t q = ap (λ (r : ℕ). is_rising 0 r list) (sym h.rules_are) ∙ sym f ∙ q

      pub not_rising : not l ≡ true → Answered (Err RuleIndex) before
      unfolding flip_answer flip_output
      not_rising n = let t : is_listed rules list ≡ false = rises false (not-true l n) in (rw (is_store_lem, is_index, t), rw (is_store_lem, is_index, t))

      module _ (up : not l ≡ false) where
        is_list_lem : is_listed rules list ≡ true
        is_list_lem = rises true (not-false l up)

        pub too_many_lem : walk_atoms < header.atoms → Answered (Err TooManyAtoms) before
        unfolding flip_answer flip_output
        too_many_lem n =
            let t : leb (decode rules).atoms walk_atoms ≡ false = lt-leb (decode rules).atoms walk_atoms (omega (arith, h.atoms_are)) in
            (rw (is_store_lem, is_index, is_list_lem, t), rw (is_store_lem, is_index, is_list_lem, t))

        module _ (few : header.atoms ≤ walk_atoms) {d : Bool} (g : d ≡ (ltb set (2 ^ header.atoms) && ltb atom header.atoms)) where
          are_few : leb (decode rules).atoms walk_atoms ≡ true
          are_few = le-leb (decode rules).atoms walk_atoms (omega (arith, h.atoms_are))

          inside : (t : Bool) → d ≡ t → (ltb set (2 ^ (decode rules).atoms) && ltb atom (decode rules).atoms) ≡ t
          inside t q = ap (λ (n : ℕ). ltb set (2 ^ n) && ltb atom n) (sym h.atoms_are) ∙ sym g ∙ q

          pub outside : not d ≡ true → Answered (Err SetNumber) before
          unfolding flip_answer flip_output
          outside n = let t = inside false (not-true d n) in (rw (is_store_lem, is_index, is_list_lem, are_few, t), rw (is_store_lem, is_index, is_list_lem, are_few, t))

          module _ (all : not d ≡ false) where
            pub checked : Checked rules header index list set atom
            checked =
                let p = both_true (ltb set (2 ^ header.atoms)) (ltb atom header.atoms) (sym g ∙ not-false d all) in
                record {
                  read = h;
                  indexed = same_equal index (store_index rules) (T-is is_index);
                  rises = is_list_lem;
                  few = few;
                  set_inside = ltb-true set (2 ^ header.atoms) p.0;
                  atom_inside = ltb-true atom header.atoms p.1;
                }

            pub answered : {r : Result ℕ Refusal} {after : List ℕ} → (r ≡ fitted ws (length before)) × (after ≡ fitted_output ws before) → Answered r after
            unfolding flip_answer flip_output
            answered q = let t = inside true (not-false d all) in (rw (is_store_lem, is_index, is_list_lem, are_few, t) q.0, rw (is_store_lem, is_index, is_list_lem, are_few, t) q.1)
