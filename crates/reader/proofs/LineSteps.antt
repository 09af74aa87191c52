-- What a line that passes says, and when a line passes: a declaring line, a rule, a condition.
use Prim.Native.Nat.{ℕ, suc, ◌≤◌}
use native.Mathlib.Omega.{arith}
use mathlib.Core.Path.{◌≡◌, refl, sym, ◌∙◌, subst}
use mathlib.Core.Logic.{◌⊎◌, inl, inr, ◌↔◌}
use mathlib.Core.Bool.{Bool, true, false, not, ◌&&◌, ◌||◌}
use mathlib.Core.List.{List, [], ◌∷◌, ◌++◌}
use lib.Dec.{T, leb, leb→le, le→leb}
use Rattle.kinds.specs.Limits.{bracket_limit, class_limit, within}
use Rattle.kinds.specs.declared.limits.Kind.{Kind}
use Rattle.kinds.specs.declared.limits.Kind.TheVariants.{Plain, Preference}
use Rattle.kinds.specs.declared.refusals.Refusal.{Refusal}
use Rattle.kinds.specs.declared.refusals.Refusal.TheVariants.{BrokenForm, Name, DeclaredTwice, Undeclared, TwiceInList, Limit, FilledNot, DeepBrackets}
use Rattle.rules.specs.Lists.{All, Distinct, some, from}
use Rattle.rules.proofs.Booleans.{is_true_lem, stable, T-not-in, T-not-out, T_and, T-and-l, T-and-r, T-or, T-or-out}
use Rattle.names.specs.Names.{allowed, made_name}
use Rattle.name_store.specs.NameStore.{among}
use Rattle.conditions.specs.Conditions.{Cond}
use Rattle.lines.specs.Tokens.{Token}
use Rattle.lines.specs.Conditions.{names_in, connectives_in, deeper, Parsed, parsed, unparsed, parse}
use Rattle.lines.specs.Forms.{Word}
use Rattle.lines.specs.Faults.{SoFar, counts_of, Step, next, expects, is_ruling, classes_after, twice, refused_name, any_of, first, declared, declare, numbered, with_rule_lem, filled, add_rule, name_number, with_condition_lem, all_counts, taken, is_conditional, on_parsed, add_condition}
use Rattle.gathering.proofs.HeldState.{Fits, within_limits, limits_within}
use Rattle.faults.specs.Sentences.{Among}
use Rattle.faults.proofs.Tests.{among_law}
use Rattle.reader.proofs.NumberedNames.{different_law}

-- one test after another

passed : (b : Bool) (f : Refusal) (s : Step) {after : SoFar} → first b f s ≡ next after → (T b → ⊥) × (s ≡ next after)
passed true f s e = absurd (let z : ◌≡◌ {A = ℕ} 0 1 = cc in omega arith)
passed false f s e = (λ t. t, e)

passes : (b : Bool) (f : Refusal) (s : Step) → (T b → ⊥) → first b f s ≡ s
passes true f s h = absurd (h tt)
passes false f s h = refl

next_inj : {a b : SoFar} → next a ≡ next b → a ≡ b
next_inj e = cc

holds : (b : Bool) → (T (not b) → ⊥) ↔ T b
holds b = (λ h. stable b (λ n. h (T-not-in b n)), λ t n. T-not-out b n t)

-- no entry fails a test
none_fails : {A : Type 0} (p : A → Bool) (P : A → Type 0) → ((a : A) → T (p a) ↔ P a) → (l : List A) → (T (some (λ a. not (p a)) l) → ⊥) ↔ All P l
none_fails p P law [] = (λ h. tt, λ h t. t)
none_fails p P law (x ∷ l) = step (p x) (law x) (none_fails p P law l)
  where
    later : Bool
    later = some (λ a. not (p a)) l

    step : (b : Bool) → T b ↔ P x → (T later → ⊥) ↔ All P l → (T (not b || later) → ⊥) ↔ (P x × All P l)
    step true e r = (λ h. (e.0 tt, r.0 h), λ h. r.1 h.1)
    step false e r = (λ h. absurd (h tt), λ h. absurd (e.1 h.0))

all_allowed_law : (kind : Kind) (xs : List (List ℕ)) → (T (some (refused_name kind) xs) → ⊥) ↔ All (λ x. T (allowed kind x)) xs
all_allowed_law kind xs = none_fails (allowed kind) (λ x. T (allowed kind x)) (λ x. (λ t. t, λ t. t)) xs

-- a line that declares atoms

pub record Declares (st : SoFar) (w : Word) (xs : List (List ℕ)) : Type 0 where
  pub expected : T (expects st.kind st.stage w)
  pub all_allowed : All (λ x. T (allowed st.kind x)) xs
  pub not_twice : T (twice st.names xs) → ⊥
  pub counts_fit : Fits st.kind (counts_of (declared st w xs))
  pub classes_fit : classes_after w st.classes ≤ class_limit

module _ (st : SoFar) (w : Word) (xs : List (List ℕ)) where
  abbrev unexpected : Bool
  unexpected = not (expects st.kind st.stage w)

  abbrev refused_names : Bool
  refused_names = some (refused_name st.kind) xs

  abbrev fit : Bool
  fit = within st.kind (counts_of (declared st w xs))

  abbrev few_classes : Bool
  few_classes = leb (classes_after w st.classes) class_limit

  abbrev too_many : Bool
  too_many = not (fit && few_classes)

  abbrev counted : Step
  counted = first too_many Limit (next (declared st w xs))

  abbrev compared : Step
  compared = first (twice st.names xs) DeclaredTwice counted

  pub declare_said : (after : SoFar) → declare st w xs ≡ next after → Declares st w xs × (declared st w xs ≡ after)
  unfolding declare
  declare_said after e =
      let e₁ = passed unexpected BrokenForm (first refused_names Name compared) e in
      let e₂ = passed refused_names Name compared e₁.1 in
      let e₃ = passed (twice st.names xs) DeclaredTwice counted e₂.1 in
      let e₄ = passed too_many Limit (next (declared st w xs)) e₃.1 in
      let t = (holds (fit && few_classes)).0 e₄.0 in (
        record {
          expected = (holds (expects st.kind st.stage w)).0 e₁.0;
          all_allowed = (all_allowed_law st.kind xs).0 e₂.0;
          not_twice = e₃.0;
          counts_fit = within_limits st.kind (counts_of (declared st w xs)) (is_true_lem fit (T-and-l fit few_classes t));
          classes_fit = leb→le (classes_after w st.classes) class_limit (T-and-r fit few_classes t);
        },
        next_inj e₄.1,
      )

  pub declare_says : Declares st w xs → declare st w xs ≡ next (declared st w xs)
  unfolding declare
  declare_says d =
      passes unexpected BrokenForm (first refused_names Name compared) ((holds (expects st.kind st.stage w)).1 d.expected)
      ∙ passes refused_names Name compared ((all_allowed_law st.kind xs).1 d.all_allowed)
      ∙ passes (twice st.names xs) DeclaredTwice counted d.not_twice
      ∙ passes too_many Limit (next (declared st w xs)) ((holds (fit && few_classes)).1 (T_and fit few_classes (subst T (sym (limits_within d.counts_fit)) tt) (le→leb (classes_after w st.classes) class_limit d.classes_fit)))

-- a rule

-- a list of different declared names that the kind allows
pub record Listed (kind : Kind) (names xs : List (List ℕ)) : Type 0 where
  pub all_allowed : All (λ x. T (allowed kind x)) xs
  pub all_declared : All (Among names) xs
  pub different : Distinct xs

pub record Adds (st : SoFar) (hs bs ns : List (List ℕ)) : Type 0 where
  pub ruling : T (is_ruling st.stage)
  pub head_listed : Listed st.kind st.names hs
  pub body_listed : Listed st.kind st.names bs
  pub nots_listed : Listed st.kind st.names ns
  pub counts_fit : Fits st.kind (counts_of (with_rule_lem st (numbered st.names hs bs ns)))
  pub no_nots : T (filled st.kind ns) → ⊥

none_of : (p : List (List ℕ) → Bool) (hs bs ns : List (List ℕ)) → (T (any_of p hs bs ns) → ⊥) ↔ ((T (p hs) → ⊥) × (T (p bs) → ⊥) × (T (p ns) → ⊥))
none_of p hs bs ns = (
  λ h. (λ t. h (T-or (p hs) (p bs || p ns) (inl t)), λ t. h (T-or (p hs) (p bs || p ns) (inr (T-or (p bs) (p ns) (inl t)))), λ t. h (T-or (p hs) (p bs || p ns) (inr (T-or (p bs) (p ns) (inr t))))),
  λ h t. later h (T-or-out (p hs) (p bs || p ns) t),
)
  where
    last : (T (p hs) → ⊥) × (T (p bs) → ⊥) × (T (p ns) → ⊥) → T (p bs) ⊎ T (p ns) → ⊥
    last h (inl t) = h.1 t
    last h (inr t) = h.2 t

    later : (T (p hs) → ⊥) × (T (p bs) → ⊥) × (T (p ns) → ⊥) → T (p hs) ⊎ T (p bs || p ns) → ⊥
    later h (inl t) = h.0 t
    later h (inr t) = last h (T-or-out (p bs) (p ns) t)

all_declared_law : (names xs : List (List ℕ)) → (T (some (λ x. not (among names x)) xs) → ⊥) ↔ All (Among names) xs
all_declared_law names xs = none_fails (among names) (Among names) (among_law names) xs

listed_law : (kind : Kind) (names xs : List (List ℕ)) → ((T (some (refused_name kind) xs) → ⊥) × (T (some (λ x. not (among names x)) xs) → ⊥) × (T (twice [] xs) → ⊥)) ↔ Listed kind names xs
listed_law kind names xs = (
  λ h. record { all_allowed = (all_allowed_law kind xs).0 h.0; all_declared = (all_declared_law names xs).0 h.1; different = (different_law [] xs tt).0 h.2 },
  λ h. ((all_allowed_law kind xs).1 h.all_allowed, (all_declared_law names xs).1 h.all_declared, (different_law [] xs tt).1 h.different),
)

module _ (st : SoFar) (hs bs ns : List (List ℕ)) where
  abbrev refused_any : Bool
  refused_any = any_of (some (refused_name st.kind)) hs bs ns

  abbrev undeclared_any : Bool
  undeclared_any = any_of (some (λ x. not (among st.names x))) hs bs ns

  abbrev twice_any : Bool
  twice_any = any_of (twice []) hs bs ns

  abbrev rules_fit : Bool
  rules_fit = within st.kind (counts_of (with_rule_lem st (numbered st.names hs bs ns)))

  abbrev added : Step
  added = next (with_rule_lem st (numbered st.names hs bs ns))

  abbrev limited : Step
  limited = first (not rules_fit) Limit (first (filled st.kind ns) FilledNot added)

  abbrev known : Step
  known = first undeclared_any Undeclared (first twice_any TwiceInList limited)

  pub rule_said : (after : SoFar) → add_rule st hs bs ns ≡ next after → Adds st hs bs ns × (with_rule_lem st (numbered st.names hs bs ns) ≡ after)
  unfolding add_rule
  rule_said after e =
      let e₁ = passed (not (is_ruling st.stage)) BrokenForm (first refused_any Name known) e in
      let e₂ = passed refused_any Name known e₁.1 in
      let e₃ = passed undeclared_any Undeclared (first twice_any TwiceInList limited) e₂.1 in
      let e₄ = passed twice_any TwiceInList limited e₃.1 in
      let e₅ = passed (not rules_fit) Limit (first (filled st.kind ns) FilledNot added) e₄.1 in
      let e₆ = passed (filled st.kind ns) FilledNot added e₅.1 in
      let a = (none_of (some (refused_name st.kind)) hs bs ns).0 e₂.0 in
      let b = (none_of (some (λ x. not (among st.names x))) hs bs ns).0 e₃.0 in
      let c = (none_of (twice []) hs bs ns).0 e₄.0 in (
        record {
          ruling = (holds (is_ruling st.stage)).0 e₁.0;
          head_listed = (listed_law st.kind st.names hs).0 (a.0, b.0, c.0);
          body_listed = (listed_law st.kind st.names bs).0 (a.1, b.1, c.1);
          nots_listed = (listed_law st.kind st.names ns).0 (a.2, b.2, c.2);
          counts_fit = within_limits st.kind (counts_of (with_rule_lem st (numbered st.names hs bs ns))) (is_true_lem rules_fit ((holds rules_fit).0 e₅.0));
          no_nots = e₆.0;
        },
        next_inj e₆.1,
      )

  pub rule_says : Adds st hs bs ns → add_rule st hs bs ns ≡ next (with_rule_lem st (numbered st.names hs bs ns))
  unfolding add_rule
  rule_says d =
      let h = (listed_law st.kind st.names hs).1 d.head_listed in
      let b = (listed_law st.kind st.names bs).1 d.body_listed in
      let n = (listed_law st.kind st.names ns).1 d.nots_listed in
      passes (not (is_ruling st.stage)) BrokenForm (first refused_any Name known) ((holds (is_ruling st.stage)).1 d.ruling)
      ∙ passes refused_any Name known ((none_of (some (refused_name st.kind)) hs bs ns).1 (h.0, b.0, n.0))
      ∙ passes undeclared_any Undeclared (first twice_any TwiceInList limited) ((none_of (some (λ x. not (among st.names x))) hs bs ns).1 (h.1, b.1, n.1))
      ∙ passes twice_any TwiceInList limited ((none_of (twice []) hs bs ns).1 (h.2, b.2, n.2))
      ∙ passes (not rules_fit) Limit (first (filled st.kind ns) FilledNot added) ((holds rules_fit).1 (subst T (sym (limits_within d.counts_fit)) tt))
      ∙ passes (filled st.kind ns) FilledNot added d.no_nots

-- a condition

none_taken : {A : Type 0} (p : A → Bool) (P : A → Type 0) → ((a : A) → T (p a) ↔ P a) → (l : List A) → (T (some p l) → ⊥) → All (λ a. P a → ⊥) l
none_taken p P law [] h = tt
none_taken p P law (x ∷ l) h = (λ k. h (T-or (p x) (some p l) (inl ((law x).1 k))), none_taken p P law l (λ t. h (T-or (p x) (some p l) (inr t))))

pub record Speaks (st : SoFar) (ts : List Token) (a : List ℕ) (c : Cond) : Type 0 where
  pub ruling : T (is_ruling st.stage)
  pub is_preference : st.kind ≡ Preference
  pub parsed_as : parse (name_number st.names) (suc st.made) ts ≡ parsed c
  pub untaken : All (λ t. Among st.names (made_name t) → ⊥) (from (suc st.made) (connectives_in ts))
  pub all_declared : All (Among st.names) (names_in ts ++ (a ∷ []))
  pub counts_fit : Fits st.kind (all_counts (with_condition_lem st c (connectives_in ts) (name_number st.names a)))

module _ (st : SoFar) (ts : List Token) (a : List ℕ) where
  abbrev called : List (List ℕ)
  called = names_in ts ++ (a ∷ [])

  abbrev spoken : Cond → SoFar
  spoken c = with_condition_lem st c (connectives_in ts) (name_number st.names a)

  abbrev all_fit : Cond → Bool
  all_fit c = within st.kind (all_counts (spoken c))

  abbrev in_counts : Cond → Step
  in_counts c = first (not (all_fit c)) Limit (next (spoken c))

  abbrev in_names : Cond → Step
  in_names c = first (some (λ x. not (among st.names x)) called) Undeclared (in_counts c)

  abbrev in_made : Cond → Step
  in_made c = first (taken st (connectives_in ts)) DeclaredTwice (in_names c)

  abbrev in_allowed : Cond → Step
  in_allowed c = first (some (refused_name st.kind) called) Name (in_made c)

  abbrev in_depth : Cond → Step
  in_depth c = first (deeper bracket_limit ts) DeepBrackets (in_allowed c)

  preference : (k : Kind) → T (is_conditional k) → k ≡ Preference
  preference Plain t = absurd t
  preference Preference t = refl

  pub condition_said : (after : SoFar) → add_condition st ts a ≡ next after → (c : Cond) × Speaks st ts a c × (spoken c ≡ after)
  unfolding add_condition
  condition_said after e =
      let e₁ = passed (not (is_ruling st.stage && is_conditional st.kind)) BrokenForm (on_parsed (parse (name_number st.names) (suc st.made) ts) in_depth) e in
      go (parse (name_number st.names) (suc st.made) ts) refl ((holds (is_ruling st.stage && is_conditional st.kind)).0 e₁.0) e₁.1
    where
      go : (p : Parsed) → parse (name_number st.names) (suc st.made) ts ≡ p → T (is_ruling st.stage && is_conditional st.kind) → on_parsed p in_depth ≡ next after → (c : Cond) × Speaks st ts a c × (spoken c ≡ after)
      go (parsed c) q t i =
          let e₂ = passed (deeper bracket_limit ts) DeepBrackets (in_allowed c) i in
          let e₃ = passed (some (refused_name st.kind) called) Name (in_made c) e₂.1 in
          let e₄ = passed (taken st (connectives_in ts)) DeclaredTwice (in_names c) e₃.1 in
          let e₅ = passed (some (λ x. not (among st.names x)) called) Undeclared (in_counts c) e₄.1 in
          let e₆ = passed (not (all_fit c)) Limit (next (spoken c)) e₅.1 in (
            c,
            record {
              ruling = T-and-l (is_ruling st.stage) (is_conditional st.kind) t;
              is_preference = preference st.kind (T-and-r (is_ruling st.stage) (is_conditional st.kind) t);
              parsed_as = q;
              untaken = none_taken (λ t. among st.names (made_name t)) (λ t. Among st.names (made_name t)) (λ t. among_law st.names (made_name t)) (from (suc st.made) (connectives_in ts)) e₄.0;
              all_declared = (all_declared_law st.names called).0 e₅.0;
              counts_fit = within_limits st.kind (all_counts (spoken c)) (is_true_lem (all_fit c) ((holds (all_fit c)).0 e₆.0));
            },
            next_inj e₆.1,
          )
      go unparsed q t i = absurd (let z : ◌≡◌ {A = ℕ} 0 1 = cc in omega arith)
