-- The caller's faults in their order, and what holds of a call that passes.
use Prim.Native.Nat.{ℕ, ◌+◌, ◌*◌, ◌%◌, ◌^◌, ◌≤◌, ◌<◌}
use mathlib.Core.Path.{◌≡◌, refl, sym, ap, ◌∙◌, subst}
use mathlib.Core.Bool.{Bool, true, false, cond}
use mathlib.Core.List.{List}
use native.Mathlib.Nat.{add-zero}
use native.Mathlib.Numerals.{add-one}
use native.Mathlib.Omega.{arith}
use Rattle.std.specs.Prelude.{Option, Some, None, Result, Ok, Err}
use lib.Dec.{leb, ltb, leb-suc-suc}
use lib.Pow.{pow_mono}
use lib.ListN.{length, get_or}
use borrow.Author.Tests.{le-leb, lt-leb, leb-true, lt-ltb, le-ltb, ltb-true}
use Rattle.kinds.specs.Limits.{walk_atoms, budget_limit}
use Rattle.kinds.specs.declared.limits.Kind.{Kind}
use Rattle.kinds.specs.declared.limits.Kind.TheVariants.{Plain, Preference}
use Rattle.kinds.specs.declared.refusals.Refusal.{Refusal}
use Rattle.kinds.specs.declared.refusals.Refusal.TheVariants.{RuleStore as NoStore, TooManyAtoms, SetNumber, Budget}
use Rattle.stores.specs.RuleStore.{StoreOf, decode, rule_store, is_of}
use Rattle.stores.proofs.RuleStores.{of_kind_lem}
use Rattle.walks.specs.Answers.{guarded}
use Rattle.masks.proofs.MaskLoops.{shifted}
use Rattle.stores.proofs.StoredRules.{has_header, atoms_word_lem}

pub not_of : (k : Kind) → false ≡ is_of k None
not_of Plain = refl
not_of Preference = refl

no : {A : Type 0} → false ≡ true → A
no e = absurd (let z : ◌≡◌ {A = ℕ} 0 1 = cc in omega arith)

is_of_kind : (k : Kind) (r : Option Kind) → is_of k r ≡ true → r ≡ Some k
is_of_kind Plain (Some Plain) e = refl
is_of_kind Plain (Some Preference) e = no e
is_of_kind Plain None e = no e
is_of_kind Preference (Some Plain) e = no e
is_of_kind Preference (Some Preference) e = refl
is_of_kind Preference None e = no e

-- the answers of the check

module _ (kind : Kind) (ws : List ℕ) (number extra budget : ℕ) where
  abbrev answered : Result (Unit {0}) Refusal
  answered = guarded Err kind ws (λ p. ltb number (p + extra)) budget (Ok tt)

  pub no_store : (r : Option Kind) (b : Bool) → r ≡ rule_store ws → b ≡ is_of kind r → b ≡ false → Err NoStore ≡ answered
  no_store r b e f g = ap (λ (p : Bool). cond p (cond (leb (decode ws).atoms walk_atoms) (cond (ltb number (2 ^ (decode ws).atoms + extra)) (cond (leb budget budget_limit) (Ok tt) (Err Budget)) (Err SetNumber)) (Err TooManyAtoms)) (Err NoStore)) (sym (ap (is_of kind) (sym e) ∙ sym f ∙ g))

  module _ (r : Option Kind) (b : Bool) (e : r ≡ rule_store ws) (f : b ≡ is_of kind r) (g : b ≡ true) where
    found : is_of kind (rule_store ws) ≡ true
    found = ap (is_of kind) (sym e) ∙ sym f ∙ g

    store : StoreOf ws (decode ws)
    store = (of_kind_lem ws kind (is_of_kind kind (rule_store ws) found)).0

    pub header_read : 4 ≤ length ws
    header_read = has_header ws (decode ws) store

    past_store : cond (leb (decode ws).atoms walk_atoms) (cond (ltb number (2 ^ (decode ws).atoms + extra)) (cond (leb budget budget_limit) (Ok tt) (Err Budget)) (Err SetNumber)) (Err TooManyAtoms) ≡ answered
    past_store = ap (λ (p : Bool). cond p (cond (leb (decode ws).atoms walk_atoms) (cond (ltb number (2 ^ (decode ws).atoms + extra)) (cond (leb budget budget_limit) (Ok tt) (Err Budget)) (Err SetNumber)) (Err TooManyAtoms)) (Err NoStore)) (sym found)

    module _ (n : ℕ) (en : n ≡ get_or ws 1 0) where
      n_is : n ≡ (decode ws).atoms
      n_is = en ∙ atoms_word_lem ws (decode ws) store

      pub too_many_lem : 60 < n → Err TooManyAtoms ≡ answered
      too_many_lem l = ap (λ (p : Bool). cond p (cond (ltb number (2 ^ (decode ws).atoms + extra)) (cond (leb budget budget_limit) (Ok tt) (Err Budget)) (Err SetNumber)) (Err TooManyAtoms)) (sym (lt-leb (decode ws).atoms walk_atoms (subst (λ (x : ℕ). 60 < x) n_is l))) ∙ past_store

      module _ (few : n ≤ 60) where
        past_atoms : cond (ltb number (2 ^ (decode ws).atoms + extra)) (cond (leb budget budget_limit) (Ok tt) (Err Budget)) (Err SetNumber) ≡ answered
        past_atoms = ap (λ (p : Bool). cond p (cond (ltb number (2 ^ (decode ws).atoms + extra)) (cond (leb budget budget_limit) (Ok tt) (Err Budget)) (Err SetNumber)) (Err TooManyAtoms)) (sym (le-leb (decode ws).atoms walk_atoms (subst (λ (x : ℕ). x ≤ 60) n_is few))) ∙ past_store

        top_is : (1 * 2 ^ n) % 2 ^ 64 + extra ≡ 2 ^ (decode ws).atoms + extra
        top_is = ap (λ (x : ℕ). x + extra) (shifted n few ∙ ap (λ (x : ℕ). 2 ^ x) n_is)

        pub top_fits : extra ≤ 1 → (1 * 2 ^ n) % 2 ^ 64 + extra < 2 ^ 64
        top_fits l = let m : 2 ^ n ≤ 2 ^ 60 = pow_mono few in omega (arith, shifted n few)

        pub outside : (1 * 2 ^ n) % 2 ^ 64 + extra ≤ number → Err SetNumber ≡ answered
        outside l = ap (λ (p : Bool). cond p (cond (leb budget budget_limit) (Ok tt) (Err Budget)) (Err SetNumber)) (sym (le-ltb number (2 ^ (decode ws).atoms + extra) (subst (λ (x : ℕ). x ≤ number) top_is l))) ∙ past_atoms

        module _ (l : number < (1 * 2 ^ n) % 2 ^ 64 + extra) where
          past_number : cond (leb budget budget_limit) (Ok tt) (Err Budget) ≡ answered
          past_number = ap (λ (p : Bool). cond p (cond (leb budget budget_limit) (Ok tt) (Err Budget)) (Err SetNumber)) (sym (lt-ltb number (2 ^ (decode ws).atoms + extra) (subst (λ (x : ℕ). number < x) top_is l))) ∙ past_atoms

          pub over_budget : 1099511627776 < budget → Err Budget ≡ answered
          over_budget u = ap (λ (p : Bool). cond p (Ok tt) (Err Budget)) (sym (lt-leb budget budget_limit u)) ∙ past_number

          pub passes : budget ≤ 1099511627776 → Ok tt ≡ answered
          passes u = ap (λ (p : Bool). cond p (Ok tt) (Err Budget)) (sym (le-leb budget budget_limit u)) ∙ past_number

-- what the check tells of an answer

pub record Passes (kind : Kind) (ws : List ℕ) (number extra budget : ℕ) : Type 0 where
  pub store : StoreOf ws (decode ws)
  pub is_kind : (decode ws).kind ≡ kind
  pub few : (decode ws).atoms ≤ walk_atoms
  pub inside : number < 2 ^ (decode ws).atoms + extra
  pub allowed : budget ≤ budget_limit

-- what the check answers
abbrev Checked : Type 0
Checked = Result (Unit {0}) Refusal

abbrev passed : Checked
passed = Ok tt

abbrev refused : Refusal → Checked
refused f = Err f

-- the four tests in their order
abbrev tests : {A : Type 0} → (Refusal → A) → A → Bool → Bool → Bool → Bool → A
tests refuse x p q r t = cond p (cond q (cond r (cond t x (refuse Budget)) (refuse SetNumber)) (refuse TooManyAtoms)) (refuse NoStore)

apart : {A : Type 0} {f : Refusal} → refused f ≡ passed → A
apart e = absurd (let z : ◌≡◌ {A = ℕ} 0 1 = cc in omega arith)

all_pass : (p q r t : Bool) → tests refused passed p q r t ≡ passed → (p ≡ true) × (q ≡ true) × (r ≡ true) × (t ≡ true)
all_pass true true true true e = (refl, refl, refl, refl)
all_pass true true true false e = apart e
all_pass true true false t e = apart e
all_pass true false r t e = apart e
all_pass false q r t e = apart e

same_refusal : (f g : Refusal) → refused f ≡ refused g → f ≡ g
same_refusal f g e = cc

one_fails : {A : Type 0} (refuse : Refusal → A) (x : A) (p q r t : Bool) (f : Refusal) → tests refused passed p q r t ≡ refused f → refuse f ≡ tests refuse x p q r t
one_fails refuse x true true true true f e = apart (sym e)
one_fails refuse x true true true false f e = ap refuse (sym (same_refusal Budget f e))
one_fails refuse x true true false t f e = ap refuse (sym (same_refusal SetNumber f e))
one_fails refuse x true false r t f e = ap refuse (sym (same_refusal TooManyAtoms f e))
one_fails refuse x false q r t f e = ap refuse (sym (same_refusal NoStore f e))

module _ {A : Type 0} (refuse : Refusal → A) (kind : Kind) (ws : List ℕ) (inside : ℕ → Bool) (number extra budget : ℕ) (answer : A)
    (same : (p : ℕ) → ltb number (p + extra) ≡ inside p) (g : Checked) (e : g ≡ guarded refused kind ws (λ p. ltb number (p + extra)) budget passed) where
  pub refusal_told : (f : Refusal) → g ≡ refused f → refuse f ≡ guarded refuse kind ws inside budget answer
  refusal_told f q =
      one_fails refuse answer (is_of kind (rule_store ws)) (leb (decode ws).atoms walk_atoms) (ltb number (2 ^ (decode ws).atoms + extra)) (leb budget budget_limit) f (sym e ∙ q)
      ∙ ap (λ (r : Bool). tests refuse answer (is_of kind (rule_store ws)) (leb (decode ws).atoms walk_atoms) r (leb budget budget_limit)) (same (2 ^ (decode ws).atoms))

  module _ (q : g ≡ passed) where
    all_four : (is_of kind (rule_store ws) ≡ true) × (leb (decode ws).atoms walk_atoms ≡ true) × (ltb number (2 ^ (decode ws).atoms + extra) ≡ true) × (leb budget budget_limit ≡ true)
    all_four = all_pass (is_of kind (rule_store ws)) (leb (decode ws).atoms walk_atoms) (ltb number (2 ^ (decode ws).atoms + extra)) (leb budget budget_limit) (sym e ∙ q)

    pub call_passes : Passes kind ws number extra budget
    call_passes =
        let t = all_four in
        let k = of_kind_lem ws kind (is_of_kind kind (rule_store ws) t.0) in
        record { store = k.0; is_kind = k.1; few = leb-true (decode ws).atoms walk_atoms t.1; inside = ltb-true number (2 ^ (decode ws).atoms + extra) t.2; allowed = leb-true budget budget_limit t.3 }

    pub answer_told : (v : A) → v ≡ answer → v ≡ guarded refuse kind ws inside budget answer
    answer_told v h =
        let t = all_four in
        h ∙ sym (by (is_of kind (rule_store ws)) (leb (decode ws).atoms walk_atoms) (inside (2 ^ (decode ws).atoms)) (leb budget budget_limit) t.0 t.1 (sym (same (2 ^ (decode ws).atoms)) ∙ t.2) t.3)
      where
        by : (p q r t : Bool) → p ≡ true → q ≡ true → r ≡ true → t ≡ true → tests refuse answer p q r t ≡ answer
        by p q r t a b c d = rw (a, b, c, d)

pub below_top : (number p : ℕ) → ltb number (p + 0) ≡ ltb number p
below_top number p = ap (ltb number) (add-zero p)

pub up_to_top : (number p : ℕ) → ltb number (p + 1) ≡ leb number p
up_to_top number p = ap (ltb number) (add-one p) ∙ leb-suc-suc number p

pub set_inside : {kind : Kind} {ws : List ℕ} {set budget : ℕ} → Passes kind ws set 0 budget → set < 2 ^ (decode ws).atoms
set_inside h = let l = h.inside in omega arith
