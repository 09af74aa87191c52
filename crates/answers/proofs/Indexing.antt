-- The refusals of the entry points over the index of rules, test by test.
use Prim.Native.Nat.{ℕ, ◌^◌, ◌<◌}
use native.Mathlib.Omega.{arith}
use mathlib.Core.Path.{◌≡◌, sym, ap, ◌∙◌, subst}
use mathlib.Core.Logic.{◌↔◌, ◌⊎◌, inl, inr}
use mathlib.Core.Bool.{Bool, true, false, ◌&&◌, cond}
use mathlib.Core.List.{List, ◌++◌}
use lib.Dec.{T, leb, ltb}
use lib.ListN.{length, drop}
use Rattle.std.specs.Prelude.{Result, Ok, Err}
use Rattle.kinds.specs.Limits.{walk_atoms}
use Rattle.kinds.specs.declared.refusals.Refusal.{Refusal}
use Rattle.kinds.specs.declared.refusals.Refusal.TheVariants.{Output, RuleStore, TooManyAtoms, SetNumber, RuleIndex}
use Rattle.rules.specs.Lists.{over}
use Rattle.stores.specs.Program.{Program, ProgramForm}
use Rattle.stores.specs.RuleStore.{StoreOf, is_store, rule_at, rule_words, decode}
use Rattle.stores.proofs.RuleStores.{store_law, decoded, only_decoded}
use Rattle.stores.proofs.RuleTests.{and_iff}
use Rattle.name_store.proofs.NameStores.{same_law}
use Rattle.rule_index.specs.Index.{index_of}
use Rattle.rule_index.specs.Flip.{after_flip}
use Rattle.rule_index.specs.Growth.{with_rule, grown_store}
use Rattle.rule_index.specs.Answers.{fitted, filled_words, grown_sizes, grown_words, store_index, is_indexed, is_listed, index_answer, index_output, flip_list, flip_answer, flip_output, add_answer, add_store, add_index}
use Rattle.rule_index.specs.declared.GrownSizes.{GrownSizes}
use Rattle.rule_index.proofs.RisingLists.{rising_iff}
use Rattle.rule_index.proofs.Growth.{grows, grown_decoded}
use Rattle.answers.specs.Refusals.{Tested, NoOther, TooShort}
use Rattle.answers.specs.Indexing.{NoGrowth, NoIndex, NoList, Outside, Fills, IndexRefuses, FlipRefuses, AddRefuses, Indexes}
use Rattle.answers.proofs.Refusals.{refused_by, no_store, past, outside}

-- two tests in one
module _ {P Q : Type 0} where
  both : (a b : Bool) → P ↔ (T a → ⊥) → Q ↔ (T b → ⊥) → (P ⊎ Q) ↔ (T (a && b) → ⊥)
  both true b p q = (λ h t. one h t, λ h. inr (q.1 h))
    where
      one : P ⊎ Q → T b → ⊥
      one (inl h) t = p.0 h tt
      one (inr h) t = q.0 h t
  both false b p q = (λ h t. t, λ h. inl (p.1 (λ t. t)))

-- what is no refusal is told only past a test
told : {A : Type 0} {v w : A} (b : Bool) (refusal : A) → (refusal ≡ w → ⊥) → cond b v refusal ≡ w → v ≡ w
told true refusal other e = e
told false refusal other e = absurd (other e)

-- an output of words, by its answer

filled_inj : (x y : Refusal) → ◌≡◌ {A = Result ℕ Refusal} (Err x) (Err y) → x ≡ y
filled_inj x y e = cc

never_words : {x : Refusal} {size : ℕ} → Err x ≡ Ok size → ⊥
never_words e = let z : ◌≡◌ {A = ℕ} 0 1 = cc in omega arith

module _ (result : List ℕ) (room : ℕ) where
  fitted_refused : (r : Refusal) → fitted result room ≡ Err r ↔ Tested Output (TooShort result room) NoOther r
  fitted_refused r = refused_by Err filled_inj (leb (length result) room) (past (length result) room) Output NoOther r (λ t. (λ e. never_words (sym e), λ h. absurd h))

  fitted_size : (size : ℕ) → fitted result room ≡ Ok size → size ≡ length result
  fitted_size size e = let z : ◌≡◌ {A = Result ℕ Refusal} (Ok (length result)) (Ok size) = told (leb (length result) room) (Err Output) never_words e in cc

fills : (answer : Result ℕ Refusal) (result before : List ℕ) → ((size : ℕ) → answer ≡ Ok size → size ≡ length result) → Fills answer result before (over (filled_words answer result) before)
fills answer result before sizes = record {
  refused = λ r e. ap (λ (a : Result ℕ Refusal). over (filled_words a result) before) e;
  filled = λ size e. (sizes size e, ap (λ (a : Result ℕ Refusal). over (filled_words a result) before) e ∙ ap (λ (k : ℕ). result ++ drop k before) (sym (sizes size e)));
}

pub index_refuses : (rules before : List ℕ) → IndexRefuses rules before
unfolding index_answer index_output
index_refuses rules before = record {
  refused = λ r. refused_by Err filled_inj (is_store rules) (no_store rules) RuleStore (Tested Output (TooShort (store_index rules) (length before)) NoOther) r (λ t. fitted_refused (store_index rules) (length before) r);
  output = fills (index_answer rules (length before)) (store_index rules) before (λ size e. fitted_size (store_index rules) (length before) size (told (is_store rules) (Err RuleStore) never_words e));
}

-- 19, 12

no_index : (rules index : List ℕ) → NoIndex rules index ↔ (T (is_indexed rules index) → ⊥)
no_index rules index = (λ h t. h ((same_law index (store_index rules)).0 t), λ h e. h ((same_law index (store_index rules)).1 e))

no_list : (rules list : List ℕ) → NoList rules list ↔ (T (is_listed rules list) → ⊥)
no_list rules list = let law = rising_iff (length (decode rules).rules) list in (λ h t. h (law.0 t), λ h r. h (law.1 r))

module _ (rules index list : List ℕ) (set atom : ℕ) (before : List ℕ) where
  abbrev n : ℕ
  n = (decode rules).atoms

  abbrev result : List ℕ
  result = flip_list rules list set atom

  abbrev Short : Refusal → Type 0
  Short = Tested Output (TooShort result (length before)) NoOther

  abbrev Numbers : Refusal → Type 0
  Numbers = Tested TooManyAtoms (walk_atoms < n) (Tested SetNumber (Outside rules set atom) Short)

  pub flip_refuses : FlipRefuses rules index list set atom before
  unfolding flip_answer flip_output
  flip_refuses = record {
    refused = λ r.
        refused_by Err filled_inj (is_store rules) (no_store rules) RuleStore (Tested RuleIndex (NoIndex rules index ⊎ NoList rules list) Numbers) r (λ t.
        refused_by Err filled_inj (is_indexed rules index && is_listed rules list) (both (is_indexed rules index) (is_listed rules list) (no_index rules index) (no_list rules list)) RuleIndex Numbers r (λ u.
        refused_by Err filled_inj (leb n walk_atoms) (past n walk_atoms) TooManyAtoms (Tested SetNumber (Outside rules set atom) Short) r (λ v.
        refused_by Err filled_inj (ltb set (2 ^ n) && ltb atom n) (both (ltb set (2 ^ n)) (ltb atom n) (outside set (2 ^ n)) (outside atom n)) SetNumber Short r (λ w.
        fitted_refused result (length before) r))));
    output = fills (flip_answer rules index list set atom (length before)) result before (λ size e.
        fitted_size result (length before) size
        (told (ltb set (2 ^ n) && ltb atom n) (Err SetNumber) never_words
        (told (leb n walk_atoms) (Err TooManyAtoms) never_words
        (told (is_indexed rules index && is_listed rules list) (Err RuleIndex) never_words
        (told (is_store rules) (Err RuleStore) never_words e)))));
  }

-- a rule added

grown_inj : (x y : Refusal) → ◌≡◌ {A = Result GrownSizes Refusal} (Err x) (Err y) → x ≡ y
grown_inj x y e = cc

never_stores : {x : Refusal} {size index_size : ℕ} → Err x ≡ Ok (grown_sizes size index_size) → ⊥
never_stores e = let z : ◌≡◌ {A = ℕ} 0 1 = cc in omega arith

no_growth : (rules words : List ℕ) → NoGrowth rules words ↔ (T (is_store rules && is_store (grown_store rules words)) → ⊥)
no_growth rules words = (
  λ h t.
      let b = (and_iff (is_store rules) (is_store (grown_store rules words))).0 t in
      let d = grown_decoded rules words b.0 b.1 in
      h (decode rules) (rule_at words) (decoded rules b.0) d.0 (subst ProgramForm d.1 (decoded (grown_store rules words) b.1).form),
  λ h p r s e f.
      h ((and_iff (is_store rules) (is_store (grown_store rules words))).1
      ((store_law rules).1 (p, s), subst (λ (w : List ℕ). T (is_store (grown_store rules w))) e ((store_law (grown_store rules (rule_words r))).1 (with_rule p r, (grows rules p r s f).store)))),
)

module _ (rules index words before index_before : List ℕ) where
  abbrev store : List ℕ
  store = grown_store rules words

  abbrev NoSpace : Type 0
  NoSpace = TooShort store (length before) ⊎ TooShort (store_index store) (length index_before)

  abbrev space : Bool
  space = leb (length store) (length before) && leb (length (store_index store)) (length index_before)

  pub add_refuses : AddRefuses rules index words before index_before
  unfolding add_answer add_store add_index
  add_refuses = record {
    refused = λ r.
        refused_by Err grown_inj (is_store rules && is_store store) (no_growth rules words) RuleStore (Tested RuleIndex (NoIndex rules index) (Tested Output NoSpace NoOther)) r (λ t.
        refused_by Err grown_inj (is_indexed rules index) (no_index rules index) RuleIndex (Tested Output NoSpace NoOther) r (λ u.
        refused_by Err grown_inj space
        (both (leb (length store) (length before)) (leb (length (store_index store)) (length index_before)) (past (length store) (length before)) (past (length (store_index store)) (length index_before)))
        Output NoOther r (λ v. (λ e. never_stores (sym e), λ h. absurd h))));
    kept = λ r e. (ap (λ (a : Result GrownSizes Refusal). over (grown_words a store) before) e, ap (λ (a : Result GrownSizes Refusal). over (grown_words a (store_index store)) index_before) e);
    grown = λ size index_size e.
        let y : ◌≡◌ {A = Result GrownSizes Refusal} (Ok (grown_sizes (length store) (length (store_index store)))) (Ok (grown_sizes size index_size)) = told space (Err Output) never_stores (told (is_indexed rules index) (Err RuleIndex) never_stores (told (is_store rules && is_store store) (Err RuleStore) never_stores e)) in
        let z : grown_sizes (length store) (length (store_index store)) ≡ grown_sizes size index_size = cc in
        let k : length store ≡ size = ap (λ (s : GrownSizes). s.words) z in
        let l : length (store_index store) ≡ index_size = ap (λ (s : GrownSizes). s.index_words) z in (
          sym k,
          ap (λ (a : Result GrownSizes Refusal). over (grown_words a store) before) e ∙ ap (λ (j : ℕ). store ++ drop j before) k,
          sym l,
          ap (λ (a : Result GrownSizes Refusal). over (grown_words a (store_index store)) index_before) e ∙ ap (λ (j : ℕ). store_index store ++ drop j index_before) l,
        );
  }

-- index and flip by the program of the store

pub indexes : (rules : List ℕ) (p : Program) → StoreOf rules p → Indexes rules p
unfolding store_index flip_list
indexes rules p s = record {
  index = ap index_of (sym (only_decoded rules p s));
  grown = λ r f. ap index_of (sym (only_decoded (grown_store rules (rule_words r)) (with_rule p r) (grows rules p r s f).store));
  flips = λ list set atom. ap (λ (q : Program). after_flip q.rules list set atom) (sym (only_decoded rules p s));
}
