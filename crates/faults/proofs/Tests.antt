-- Each computed test of a line says its sentence of the documents.
use Prim.Native.Nat.{ℕ, suc, ◌+◌, ◌≤◌, ◌<◌}
use native.Mathlib.Omega.{arith}
use mathlib.Core.Path.{◌≡◌, refl, sym, subst}
use mathlib.Core.Logic.{◌⊎◌, inl, inr, ◌↔◌, ◌≢◌}
use mathlib.Core.Bool.{Bool, not, ◌&&◌, ◌||◌}
use mathlib.Core.List.{List, [], ◌∷◌, ◌++◌, append-nil}
use lib.Dec.{T}
use lib.Seq.{append_snoc}
use Rattle.kinds.specs.declared.limits.Kind.{Kind}
use Rattle.kinds.specs.declared.limits.Kind.TheVariants.{Plain, Preference}
use Rattle.rules.specs.Lists.{All, Any, Distinct, some, from}
use Rattle.rules.proofs.Booleans.{stable, decide, T-or, T-or-out}
use Rattle.rules.proofs.Connectives.{not_law, or_law, and_law}
use Rattle.rules.proofs.Lists.{all_any, any_imp, any_with, any_app, app_any, some_any, any_from, from_any}
use Rattle.names.specs.declared.forms.NameClass.{NameClass}
use Rattle.names.specs.declared.forms.NameClass.TheVariants.{Common, Generated, TooLong, Wrong}
use Rattle.names.specs.Names.{name_class, takes, allowed, made_name}
use Rattle.name_store.specs.NameStore.{same_bytes, among}
use Rattle.name_store.proofs.NameStores.{same_law}
use Rattle.lines.specs.declared.stage.Stage.{Stage}
use Rattle.lines.specs.declared.stage.Stage.TheVariants.{Declaring, Fixing, Ruling}
use Rattle.lines.specs.Forms.{Word, atoms, min, vary, fix}
use Rattle.lines.specs.Faults.{SoFar, expects, is_ruling, is_conditional, twice, taken, refused_name, any_of, filled}
use Rattle.faults.proofs.NameClasses.{long_iff, generated_iff}
use Rattle.faults.proofs.LineForms.{not_wrong}
use Rattle.faults.specs.LineForms.{IsName}
use Rattle.faults.specs.Sentences.{Among, Twice, Comes, atoms_line, min_line, vary_line, fix_line, NotAllowed}

-- 2

pub comes_law : (kind : Kind) (stage : Stage) (w : Word) → T (expects kind stage w) ↔ Comes kind stage w
comes_law kind stage w = (there kind stage w, back)
  where
    there : (k : Kind) (s : Stage) (v : Word) → T (expects k s v) → Comes k s v
    there Plain Declaring atoms t = atoms_line
    there Plain Declaring min t = absurd t
    there Plain Declaring vary t = absurd t
    there Plain Declaring fix t = absurd t
    there Plain Fixing v t = absurd t
    there Plain Ruling v t = absurd t
    there Preference Declaring atoms t = absurd t
    there Preference Declaring min t = min_line
    there Preference Declaring vary t = vary_line
    there Preference Declaring fix t = absurd t
    there Preference Fixing atoms t = absurd t
    there Preference Fixing min t = absurd t
    there Preference Fixing vary t = absurd t
    there Preference Fixing fix t = fix_line
    there Preference Ruling v t = absurd t

    back : {k : Kind} {s : Stage} {v : Word} → Comes k s v → T (expects k s v)
    back atoms_line = tt
    back min_line = tt
    back vary_line = tt
    back fix_line = tt

pub ruling_law : (stage : Stage) → T (is_ruling stage) ↔ (stage ≡ Ruling)
ruling_law stage = (there stage, λ e. subst (λ s. T (is_ruling s)) (sym e) tt)
  where
    there : (s : Stage) → T (is_ruling s) → s ≡ Ruling
    there Declaring t = absurd t
    there Fixing t = absurd t
    there Ruling t = refl

pub conditional_law : (kind : Kind) → T (is_conditional kind) ↔ (kind ≡ Preference)
conditional_law kind = (there kind, λ e. subst (λ k. T (is_conditional k)) (sym e) tt)
  where
    there : (k : Kind) → T (is_conditional k) → k ≡ Preference
    there Plain t = absurd t
    there Preference t = refl

-- no declaring line comes among the rules
pub comes_before : {kind : Kind} {stage : Stage} {w : Word} → Comes kind stage w → stage ≢ Ruling
comes_before atoms_line e = absurd (let z : ◌≡◌ {A = ℕ} 0 1 = cc in omega arith)
comes_before min_line e = absurd (let z : ◌≡◌ {A = ℕ} 0 1 = cc in omega arith)
comes_before vary_line e = absurd (let z : ◌≡◌ {A = ℕ} 0 1 = cc in omega arith)
comes_before fix_line e = absurd (let z : ◌≡◌ {A = ℕ} 0 1 = cc in omega arith)

-- the order is decided
pub comes_stable : (kind : Kind) (stage : Stage) (w : Word) → ((Comes kind stage w → ⊥) → ⊥) → Comes kind stage w
comes_stable kind stage w h = let law = comes_law kind stage w in law.0 (stable (expects kind stage w) (λ n. h (λ c. n (law.1 c))))

pub ruling_stable : (stage : Stage) → ((stage ≢ Ruling) → ⊥) → stage ≡ Ruling
ruling_stable stage h = let law = ruling_law stage in law.0 (stable (is_ruling stage) (λ n. h (λ c. n (law.1 c))))

pub among_stable : (kind : Kind) (stage : Stage) → (((stage ≡ Ruling) × (kind ≡ Preference) → ⊥) → ⊥) → (stage ≡ Ruling) × (kind ≡ Preference)
among_stable kind stage h =
    let law = and_law (is_ruling stage) (is_conditional kind) (ruling_law stage) (conditional_law kind) in
    law.0 (stable (is_ruling stage && is_conditional kind) (λ n. h (λ c. n (law.1 c))))

-- 3

module _ (kind : Kind) (x : List ℕ) where
  -- by the class of the name
  abbrev ClassRefused : Kind → NameClass → Type 0
  ClassRefused k c = ((c ≡ TooLong) ⊎ ((k ≡ Preference) × (c ≡ Generated))) ⊎ (c ≡ Wrong)

  class_law : T (refused_name kind x) ↔ ClassRefused kind (name_class x)
  unfolding allowed
  class_law = (there kind (name_class x), back kind (name_class x))
    where
      there : (k : Kind) (c : NameClass) → T (not (takes k c)) → ClassRefused k c
      there Plain Common t = absurd t
      there Plain Generated t = absurd t
      there Plain TooLong t = inl (inl refl)
      there Plain Wrong t = inr refl
      there Preference Common t = absurd t
      there Preference Generated t = inl (inr (refl, refl))
      there Preference TooLong t = inl (inl refl)
      there Preference Wrong t = inr refl

      long : (k : Kind) → T (not (takes k TooLong))
      long Plain = tt
      long Preference = tt

      wrong : (k : Kind) → T (not (takes k Wrong))
      wrong Plain = tt
      wrong Preference = tt

      back : (k : Kind) (c : NameClass) → ClassRefused k c → T (not (takes k c))
      back k c (inl (inl e)) = subst (λ d. T (not (takes k d))) (sym e) (long k)
      back k c (inl (inr e)) = subst (λ j. T (not (takes j c))) (sym e.0) (subst (λ d. T (not (takes Preference d))) (sym e.1) tt)
      back k c (inr e) = subst (λ d. T (not (takes k d))) (sym e) (wrong k)

  allowed_law : T (refused_name kind x) ↔ (NotAllowed kind x ⊎ (name_class x ≡ Wrong))
  allowed_law = (λ t. there (class_law.0 t), λ h. class_law.1 (back h))
    where
      there : ClassRefused kind (name_class x) → NotAllowed kind x ⊎ (name_class x ≡ Wrong)
      there (inl (inl e)) = inl (inl ((long_iff x).0 e))
      there (inl (inr e)) = inl (inr (e.0, (generated_iff x).0 e.1))
      there (inr e) = inr e

      back : NotAllowed kind x ⊎ (name_class x ≡ Wrong) → ClassRefused kind (name_class x)
      back (inl (inl h)) = inl (inl ((long_iff x).1 h))
      back (inl (inr h)) = inl (inr (h.0, (generated_iff x).1 h.1))
      back (inr e) = inr e

pub names_law : (kind : Kind) (xs : List (List ℕ)) → All IsName xs → T (some (refused_name kind) xs) ↔ Any (NotAllowed kind) xs
names_law kind xs named = let law = some_any (refused_name kind) Refused (allowed_law kind) xs in (
  λ t. any_imp (λ x. IsName x × Refused x) (NotAllowed kind) right xs (any_with Refused IsName xs named (law.0 t)),
  λ h. law.1 (any_imp (NotAllowed kind) Refused (λ x k. inl k) xs h),
)
  where
    Refused : List ℕ → Type 0
    Refused x = NotAllowed kind x ⊎ (name_class x ≡ Wrong)

    right : (x : List ℕ) → IsName x × Refused x → NotAllowed kind x
    right x (n, inl h) = h
    right x (n, inr e) = absurd (not_wrong x n e)

-- in any of a rule's three lists
pub any_law : (P : List ℕ → Type 0) (p : List ℕ → Bool) (hs bs ns : List (List ℕ)) → T (some p hs) ↔ Any P hs → T (some p bs) ↔ Any P bs → T (some p ns) ↔ Any P ns → T (any_of (some p) hs bs ns) ↔ Any P (hs ++ (bs ++ ns))
any_law P p hs bs ns h b n = let law = or_law (some p hs) (some p bs || some p ns) h (or_law (some p bs) (some p ns) b n) in (
  λ t. any_app P hs (bs ++ ns) (there (law.0 t)),
  λ k. law.1 (back (app_any P hs (bs ++ ns) k)),
)
  where
    there : Any P hs ⊎ (Any P bs ⊎ Any P ns) → Any P hs ⊎ Any P (bs ++ ns)
    there (inl k) = inl k
    there (inr k) = inr (any_app P bs ns k)

    back : Any P hs ⊎ Any P (bs ++ ns) → Any P hs ⊎ (Any P bs ⊎ Any P ns)
    back (inl k) = inl k
    back (inr k) = inr (app_any P bs ns k)

-- 4 and 6

pub among_law : (names : List (List ℕ)) (x : List ℕ) → T (some (same_bytes x) names) ↔ Among names x
among_law names x = some_any (same_bytes x) (λ y. x ≡ y) (same_law x) names

module _ {A : Type 0} where
  -- an entry after a list that has it
  twice_again : (xs : List A) (x : A) (ys : List A) → Among xs x → Twice (xs ++ (x ∷ ys))
  twice_again [] x ys h = absurd h
  twice_again (y ∷ xs) x ys (inl e) = inl (any_app (λ z. y ≡ z) xs (x ∷ ys) (inr (inl (sym e))))
  twice_again (y ∷ xs) x ys (inr h) = inr (twice_again xs x ys h)

  twice_last : (xs : List A) (x : A) → Twice (xs ++ (x ∷ [])) → Twice xs ⊎ Among xs x
  twice_last [] x (inl h) = absurd h
  twice_last [] x (inr h) = absurd h
  twice_last (y ∷ xs) x (inl h) = step (app_any (λ z. y ≡ z) xs (x ∷ []) h)
    where
      step : Among xs y ⊎ ((y ≡ x) ⊎ ⊥) → Twice (y ∷ xs) ⊎ Among (y ∷ xs) x
      step (inl k) = inl (inl k)
      step (inr (inl e)) = inr (inl (sym e))
      step (inr (inr k)) = absurd k
  twice_last (y ∷ xs) x (inr h) = step (twice_last xs x h)
    where
      step : Twice xs ⊎ Among xs x → Twice (y ∷ xs) ⊎ Among (y ∷ xs) x
      step (inl k) = inl (inr k)
      step (inr k) = inr (inr k)

  -- not twice is different
  pub distinct_law : (xs : List A) → (Twice xs → ⊥) ↔ Distinct xs
  distinct_law [] = (λ h. tt, λ d h. h)
  distinct_law (x ∷ xs) = let r = distinct_law xs in (
    λ h. (apart xs (λ k. h (inl k)), r.0 (λ k. h (inr k))),
    λ d h. either (λ (k : Among xs x). (let a = all_any (λ y. x ≢ y) (λ y. x ≡ y) xs d.0 k in a.1 a.2)) (r.1 d.1) h,
  )
    where
      apart : (ys : List A) → (Among ys x → ⊥) → All (λ y. x ≢ y) ys
      apart [] h = tt
      apart (y ∷ ys) h = (λ e. h (inl e), apart ys (λ k. h (inr k)))

      either : (Among xs x → ⊥) → (Twice xs → ⊥) → Among xs x ⊎ Twice xs → ⊥
      either a b (inl h) = a h
      either a b (inr h) = b h

-- after names that differ
pub twice_law : (old xs : List (List ℕ)) → (Twice old → ⊥) → T (twice old xs) ↔ Twice (old ++ xs)
unfolding twice
twice_law old [] d = (λ t. absurd t, λ h. d (subst Twice (append-nil old) h))
twice_law old (x ∷ xs) d = step (decide (some (same_bytes x) old)) (λ (n : Twice (old ++ (x ∷ [])) → ⊥). twice_law (old ++ (x ∷ [])) xs n)
  where
    a : Bool
    a = some (same_bytes x) old

    b : Bool
    b = twice (old ++ (x ∷ [])) xs

    step : T a ⊎ (T a → ⊥) → ((Twice (old ++ (x ∷ [])) → ⊥) → T b ↔ Twice ((old ++ (x ∷ [])) ++ xs)) → T (a || b) ↔ Twice (old ++ (x ∷ xs))
    step (inl t) r = (λ u. twice_again old x xs ((among_law old x).0 t), λ h. T-or a b (inl t))
    step (inr n) r =
        let law = r (λ h. new (twice_last old x h)) in
        (λ u. subst Twice (append_snoc old x xs) (law.0 (other (T-or-out a b u))), λ h. T-or a b (inr (law.1 (subst Twice (sym (append_snoc old x xs)) h))))
      where
        new : Twice old ⊎ Among old x → ⊥
        new (inl k) = d k
        new (inr k) = n ((among_law old x).1 k)

        other : T a ⊎ T b → T b
        other (inl k) = absurd (n k)
        other (inr k) = k

pub lists_law : (hs bs ns : List (List ℕ)) → T (any_of (twice []) hs bs ns) ↔ (Twice hs ⊎ (Twice bs ⊎ Twice ns))
lists_law hs bs ns = or_law (twice [] hs) (twice [] bs || twice [] ns) (one hs) (or_law (twice [] bs) (twice [] ns) (one bs) (one ns))
  where
    one : (xs : List (List ℕ)) → T (twice [] xs) ↔ Twice xs
    one xs = twice_law [] xs (λ h. h)

-- 5

pub undeclared_law : (names : List (List ℕ)) (x : List ℕ) → T (not (among names x)) ↔ (Among names x → ⊥)
undeclared_law names x = not_law (among names x) (among_law names x)

-- 4, of the atoms that a condition makes

pub taken_law : (st : SoFar) (count : ℕ) → T (taken st count) ↔ ((t : ℕ) × (st.made < t) × (t ≤ st.made + count) × Among st.names (made_name t))
taken_law st count = let law = some_any (λ t. among st.names (made_name t)) Declared (λ t. among_law st.names (made_name t)) (from (suc st.made) count) in (
  λ h. let r = from_any Declared (suc st.made) count (law.0 h) in (r.0, omega arith, omega arith, r.3),
  λ (t, l, u, d). law.1 (any_from Declared (suc st.made) count t (omega arith) (omega arith) d),
)
  where
    Declared : ℕ → Type 0
    Declared t = Among st.names (made_name t)

-- 8

pub filled_law : (kind : Kind) (ns : List (List ℕ)) → T (filled kind ns) ↔ ((kind ≡ Preference) × (ns ≢ []))
filled_law Plain ns = (λ t. absurd t, λ h. differ h.0)
  where
    differ : Plain ≡ Preference → ⊥
    differ e = absurd (let z : ◌≡◌ {A = ℕ} 0 1 = cc in omega arith)
filled_law Preference [] = (λ t. absurd t, λ h. h.1 refl)
filled_law Preference (x ∷ ns) = (λ t. (refl, filled_list), λ h. tt)
  where
    filled_list : x ∷ ns ≡ [] → ⊥
    filled_list e = absurd (let z : ◌≡◌ {A = ℕ} 0 1 = cc in omega arith)
