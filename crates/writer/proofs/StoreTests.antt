-- The tests of two stores by a writer, whatever text it then writes.
use Prim.Native.Nat.{ℕ, ◌≤◌}
use native.Mathlib.Omega.{arith}
use mathlib.Core.Path.{◌≡◌, sym, ap, ◌∙◌, subst}
use mathlib.Core.Bool.{Bool, true, false}
use mathlib.Core.List.{List}
use lib.Dec.{T}
use lib.ListN.{length, get_or}
use Rattle.std.specs.Prelude.{Option, Some, None, Result, Err, ok_or}
use Rattle.kinds.specs.Limits.{atom_limit}
use Rattle.kinds.specs.declared.limits.Kind.{Kind}
use Rattle.kinds.specs.declared.limits.Kind.TheVariants.{Plain}
use Rattle.kinds.specs.declared.refusals.Refusal.{Refusal}
use Rattle.kinds.specs.declared.refusals.Refusal.TheVariants.{RuleStore, NameStore}
use Rattle.rules.specs.Lists.{over}
use Rattle.rules.proofs.Booleans.{is_true_lem, is_false}
use Rattle.stores.specs.RuleStore.{StoreOf, decode, rule_store, is_store}
use Rattle.stores.proofs.RuleStores.{store_law, of_kind_lem, refused}
use Rattle.stores.proofs.StoreHeader.{atoms_small}
use Rattle.name_store.specs.NameStore.{NamesOf, decode_names, are_names}
use Rattle.name_store.proofs.NameStores.{decoded_names}
use Rattle.answers.specs.Writing.{fitted, written_bytes, stores_answer}
use Rattle.writer.specs.Fitted.{fitted_output}

-- what `ok_or` makes of no rule store
pub refusal_is : {store : Option Kind} {x r : Refusal} → ◌≡◌ {A = Result Kind Refusal} (Err r) (ok_or store x) → store ≡ None → r ≡ x
refusal_is {store} {x} {r} e n = let z : ◌≡◌ {A = Result Kind Refusal} (Err r) (ok_or None x) = rw n at e in cc

-- a rule store of some kind
module _ (rules : List ℕ) (kind : Kind) (e : rule_store rules ≡ Some kind) where
  pub store_here : StoreOf rules (decode rules)
  store_here = (of_kind_lem rules kind e).0

  is_store_lem : is_store rules ≡ true
  is_store_lem = is_true_lem (is_store rules) ((store_law rules).1 (decode rules, store_here))

  pub atoms_fit : get_or rules 1 0 ≤ atom_limit Plain
  unfolding decode
  atoms_fit = omega (arith, store_here.form.atoms_fit, atoms_small (decode rules).kind)

  -- with names that are tested against it
  module _ (names : List ℕ) (b : Bool) (f : b ≡ are_names kind (get_or rules 1 0) names) where
    fits : are_names (decode rules).kind (decode rules).atoms names ≡ b
    unfolding decode
    fits = ap (λ (k : Kind). are_names k (get_or rules 1 0) names) (of_kind_lem rules kind e).1 ∙ sym f

    pub names_here : b ≡ true → NamesOf names (decode rules).kind (decode rules).atoms (decode_names (decode rules).atoms names)
    names_here g = decoded_names (decode rules).kind (decode rules).atoms names (subst T (sym (fits ∙ g)) tt)

-- the refusals, in their order, and what is written where there is none
module _ (rules names text before : List ℕ) where
  abbrev answer : Result ℕ Refusal
  answer = stores_answer rules names text (length before)

  abbrev output : List ℕ
  output = over (written_bytes answer text) before

  pub not_stored : rule_store rules ≡ None → (Err RuleStore ≡ answer) × (before ≡ output)
  not_stored e = let t : is_store rules ≡ false = is_false (is_store rules) ((refused rules).0 e) in (rw t, rw t)

  module _ (kind : Kind) (e : rule_store rules ≡ Some kind) (b : Bool) (f : b ≡ are_names kind (get_or rules 1 0) names) where
    pub not_named : b ≡ false → (Err NameStore ≡ answer) × (before ≡ output)
    not_named g = let s = is_store_lem rules kind e in let t = fits rules kind e names b f ∙ g in (rw (s, t), rw (s, t))

    pub both_stored : b ≡ true → {r : Result ℕ Refusal} {after : List ℕ} → (r ≡ fitted text (length before)) × (after ≡ fitted_output text before) → (r ≡ answer) × (after ≡ output)
    both_stored g h = let s = is_store_lem rules kind e in let t = fits rules kind e names b f ∙ g in (rw (s, t) h.0, rw (s, t) h.1)
