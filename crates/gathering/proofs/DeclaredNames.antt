-- Names that are declared are names that the file takes.
use Prim.Native.Nat.{ℕ}
use native.Mathlib.Omega.{arith}
use mathlib.Core.Path.{◌≡◌, refl, sym, subst}
use mathlib.Core.Bool.{Bool, true, false, not, cond, ◌||◌}
use mathlib.Core.List.{List, [], ◌∷◌, ◌++◌}
use lib.Dec.{T}
use Rattle.kinds.specs.declared.limits.Kind.{Kind}
use Rattle.kinds.specs.declared.limits.Kind.TheVariants.{Plain, Preference}
use Rattle.rules.specs.Lists.{All, some}
use Rattle.rules.proofs.Booleans.{is_true_lem}
use Rattle.names.specs.declared.forms.NameClass.{NameClass}
use Rattle.names.specs.declared.forms.NameClass.TheVariants.{Common, Generated, TooLong, Wrong}
use Rattle.names.specs.Names.{name_class, takes, allowed}
use Rattle.name_store.specs.NameStore.{same_bytes, among}
use Rattle.name_store.proofs.NameStores.{same_law}
use Rattle.lines.specs.Conditions.{words_in}
use Rattle.lines.specs.Forms.{LineForm, declares, rules, condition, blank, broken, is_name, are_names, named}
use Rattle.lines.specs.Faults.{refused_name}
use Rattle.numbering.specs.Numbers.{undeclared}

taken : (kind : Kind) (c : NameClass) → takes kind c ≡ true → is_name c ≡ true
taken kind Common e = refl
taken kind Generated e = refl
taken kind TooLong e = refl
taken Plain Wrong e = e
taken Preference Wrong e = e

allowed_member : (kind : Kind) (x : List ℕ) (names : List (List ℕ)) → All (λ y. T (allowed kind y)) names → among names x ≡ true → T (allowed kind x)
allowed_member kind x [] h e = absurd (let z : ◌≡◌ {A = ℕ} 0 1 = cc in omega arith)
allowed_member kind x (y ∷ names) h e = go (same_bytes x y) refl e (allowed_member kind x names h.1)
  where
    go : (b : Bool) → same_bytes x y ≡ b → (b || among names x) ≡ true → (among names x ≡ true → T (allowed kind x)) → T (allowed kind x)
    go true p q r = subst (λ z. T (allowed kind z)) (sym ((same_law x y).0 (subst T (sym p) tt))) h.0
    go false p q r = r q

pub named_known : (kind : Kind) (names xs : List (List ℕ)) → All (λ x. T (allowed kind x)) names → undeclared names xs ≡ false → (are_names xs ≡ true) × (some (refused_name kind) xs ≡ false)
unfolding allowed
named_known kind names [] h e = (refl, refl)
named_known kind names (x ∷ xs) h e = go (among names x) refl e (named_known kind names xs h)
  where
    go : (b : Bool) → among names x ≡ b → (not b || undeclared names xs) ≡ false → (undeclared names xs ≡ false → (are_names xs ≡ true) × (some (refused_name kind) xs ≡ false)) → (are_names (x ∷ xs) ≡ true) × (some (refused_name kind) (x ∷ xs) ≡ false)
    go false p q r = absurd (let z : ◌≡◌ {A = ℕ} 0 1 = cc in omega arith)
    go true p q r =
        let known : takes kind (name_class x) ≡ true = is_true_lem (takes kind (name_class x)) (allowed_member kind x names h p) in
        (rw (taken kind (name_class x) known) (r q).0, rw known (r q).1)

pub named_rules : (f : LineForm) {hs bs ns : List (List ℕ)} → named f ≡ rules hs bs ns → f ≡ rules hs bs ns
named_rules (declares w xs) {hs} {bs} {ns} e = absurd (go (are_names xs) e)
  where
    go : (b : Bool) → cond b (declares w xs) broken ≡ rules hs bs ns → ⊥
    go true e = let z : ◌≡◌ {A = ℕ} 0 1 = cc in omega arith
    go false e = let z : ◌≡◌ {A = ℕ} 0 1 = cc in omega arith
named_rules (rules xs ys zs) {hs} {bs} {ns} e = go (are_names xs) (are_names ys) (are_names zs) e
  where
    go : (a b c : Bool) → cond a (cond b (cond c (rules xs ys zs) broken) broken) broken ≡ rules hs bs ns → rules xs ys zs ≡ rules hs bs ns
    go true true true e = e
    go true true false e = absurd (let z : ◌≡◌ {A = ℕ} 0 1 = cc in omega arith)
    go true false c e = absurd (let z : ◌≡◌ {A = ℕ} 0 1 = cc in omega arith)
    go false b c e = absurd (let z : ◌≡◌ {A = ℕ} 0 1 = cc in omega arith)
named_rules (condition ts a) {hs} {bs} {ns} e = absurd (go (are_names (words_in ts ++ (a ∷ []))) e)
  where
    go : (b : Bool) → cond b (condition ts a) broken ≡ rules hs bs ns → ⊥
    go true e = let z : ◌≡◌ {A = ℕ} 0 1 = cc in omega arith
    go false e = let z : ◌≡◌ {A = ℕ} 0 1 = cc in omega arith
named_rules blank e = absurd (let z : ◌≡◌ {A = ℕ} 0 1 = cc in omega arith)
named_rules broken e = absurd (let z : ◌≡◌ {A = ℕ} 0 1 = cc in omega arith)
