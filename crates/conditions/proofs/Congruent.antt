-- Both readings turn only on the declared atoms: sets that agree on these are preferred together.
use Prim.Native.Nat.{ℕ, ◌<◌}
use mathlib.Core.Path.{◌≡◌, sym, subst, ◌∙◌}
use mathlib.Core.List.{List, [], ◌∷◌, ◌++◌}
use mathlib.Core.Bool.{Bool}
use mathlib.Core.Logic.{inl, inr}
use lib.ListN.{length}
use Rattle.rules.specs.Lists.{All, Any, flat}
use Rattle.rules.specs.Sets.{In, Out}
use Rattle.rules.specs.Preferred.{OfClass}
use Rattle.rules.proofs.Booleans.{T_of}
use Rattle.rules.proofs.Lists.{all_imp, all_both, all_app_l, all_app_r, map_all}
use Rattle.conditions.specs.Conditions.{Atom, made, Statement, states, when, names_of, statement_names, made_atoms}
use Rattle.conditions.specs.Readings.{BeatsOver, StatementHolds, DirectModel, DirectPreferred, WrittenPreferred, cut_down}
use Rattle.conditions.proofs.Values.{statement_values, Has, Valued}
use Rattle.conditions.proofs.Connectives.{written_law}
use Rattle.conditions.proofs.Extended.{truth_congr, all_values_congr, all_values_of, first}
use Rattle.conditions.proofs.Paired.{beats_cut}

module _ (m n : ℕ → Bool) where
  abbrev Same : ℕ → Type 0
  Same a = m a ≡ n a

  all_in : (l : List ℕ) → All Same l → All (In n) l → All (In m) l
  all_in [] e h = tt
  all_in (a ∷ l) e h = (T_of (sym e.0) h.0, all_in l e.1 h.1)

  all_out : (l : List ℕ) → All Same l → All (Out n) l → All (Out m) l
  all_out [] e h = tt
  all_out (a ∷ l) e h = (λ k. h.0 (T_of e.0 k), all_out l e.1 h.1)

  any_in : (l : List ℕ) → All Same l → Any (In m) l → Any (In n) l
  any_in [] e h = h
  any_in (a ∷ l) e (inl h) = inl (T_of e.0 h)
  any_in (a ∷ l) e (inr h) = inr (any_in l e.1 h)

  statement_congr : (l : Statement) → All Same (statement_names l) → StatementHolds m l → StatementHolds n l
  statement_congr (states r) e h = λ b o.
      let rest = all_app_r Same r.head (r.body ++ r.nots) e in
      any_in r.head (all_app_l Same r.head (r.body ++ r.nots) e) (h (all_in r.body (all_app_l Same r.body r.nots rest) b) (all_out r.nots (all_app_r Same r.body r.nots rest) o))
  statement_congr (when c a) e h = λ k.
      T_of (all_app_r Same (names_of c) (a ∷ []) e).0 (h (T_of (sym (truth_congr m n c (all_app_l Same (names_of c) (a ∷ []) e))) k))

  pub direct_congr : (ls : List Statement) → All Same (flat statement_names ls) → DirectModel ls m → DirectModel ls n
  direct_congr [] e h = tt
  direct_congr (l ∷ ls) e h = (statement_congr l (all_app_l Same (statement_names l) (flat statement_names ls) e) h.0, direct_congr ls (all_app_r Same (statement_names l) (flat statement_names ls) e) h.1)

-- what beats m beats a set that agrees with m on the declared atoms
module _ (ws : List ℕ) (ls : List Statement) (m n : ℕ → Bool) (e : (a : ℕ) → a < length ws → m a ≡ n a) where
  pub beats_congr : (s : ℕ → Bool) → BeatsOver (DirectModel ls) (OfClass ws) s n → BeatsOver (DirectModel ls) (OfClass ws) s m
  beats_congr s b = record {
    model = b.model;
    agrees = λ a c. (λ h. T_of (sym (e a c.0)) ((b.agrees a c).0 h), λ h. (b.agrees a c).1 (T_of (e a c.0) h));
    class = b.class;
    is_class_holds = b.is_class_holds;
    earlier = λ j l u a c. (λ h. T_of (sym (e a c.0)) ((b.earlier j l u a c).0 h), λ h. (b.earlier j l u a c).1 (T_of (e a c.0) h));
    subset = λ a c h. T_of (sym (e a c.0)) (b.subset a c h);
    proper = (b.proper.0, b.proper.1, T_of (sym (e b.proper.0 b.proper.1.0)) b.proper.2, b.proper.3);
  }

  pub preferred_congr : All (λ a. a < length ws) (flat statement_names ls) → DirectPreferred ws ls m → DirectPreferred ws ls n
  preferred_congr d p = record {
    model = direct_congr m n ls (all_imp (λ a. a < length ws) (λ a. m a ≡ n a) e (flat statement_names ls) d) p.model;
    unbeaten = λ s b. p.unbeaten s (beats_congr s b);
  }

-- each T is its condition's truth in a set that agrees on the named atoms and on the T atoms
pub valued_congr : (x y : Atom → Bool) (ls : List Statement) → All (λ a. cut_down x a ≡ cut_down y a) (flat statement_names ls) → All (λ t. x (made t) ≡ y (made t)) (made_atoms ls) → Valued x ls → Valued y ls
valued_congr x y ls e t v =
    let vs = flat (statement_values (cut_down x)) ls in
    let t' : All (λ w. x (made w.0) ≡ y (made w.0)) vs = map_all (λ t. x (made t) ≡ y (made t)) first vs (subst (All (λ t. x (made t) ≡ y (made t))) (sym (all_values_of (cut_down x) ls)) t) in
    subst (All (Has y)) (all_values_congr (cut_down x) (cut_down y) ls e)
    (all_imp (λ w. (x (made w.0) ≡ y (made w.0)) × Has x w) (Has y) (λ w h. sym h.0 ∙ h.1) vs (all_both (λ w. x (made w.0) ≡ y (made w.0)) (Has x) vs t' v))

-- a set whose cut is preferred directly, each T its condition's truth, is preferred
pub preferred_valued : (ws : List ℕ) (ls : List Statement) (x : Atom → Bool) → DirectPreferred ws ls (cut_down x) → Valued x ls → WrittenPreferred ws ls x
preferred_valued ws ls x p v = record {
  model = (written_law x ls).1 (p.model, v);
  unbeaten = λ y b. p.unbeaten (cut_down y) (beats_cut ws ls y x b);
}
