-- The preferred sets of the written program, cut to the planner's atoms, are those of the conditions read directly, each from just one.
use Prim.Native.Nat.{ℕ, ◌≤◌, ◌<◌}
use native.Mathlib.Omega.{arith}
use mathlib.Core.Path.{◌≡◌, refl, subst, fun_ext}
use mathlib.Core.List.{List}
use mathlib.Core.Bool.{Bool}
use mathlib.Core.Logic.{◌↔◌}
use Rattle.rules.specs.Lists.{All, Distinct, flat}
use Rattle.rules.specs.Sets.{In, Out}
use Rattle.rules.specs.Rules.{Model}
use Rattle.kinds.specs.Limits.{fixed}
use Rattle.rules.specs.Preferred.{OfClass}
use Rattle.conditions.specs.Conditions.{Atom, planner, made, Statement, made_atoms, statement_names}
use Rattle.conditions.specs.Written.{written}
use Rattle.conditions.specs.Readings.{BeatsOver, DirectModel, DirectPreferred, WrittenClass, WrittenPreferred, cut_down}
use Rattle.conditions.proofs.Connectives.{written_law}
use Rattle.conditions.proofs.Extended.{Extends, extended, extended_valued, valued_once}

module _ (ws : List ℕ) (ls : List Statement) where
  -- a better set is better in its cut: what is compared are planner's atoms
  pub beats_cut : (y x : Atom → Bool) → BeatsOver (Model (written ls)) (WrittenClass ws) y x → BeatsOver (DirectModel ls) (OfClass ws) (cut_down y) (cut_down x)
  beats_cut y x b = record {
    model = ((written_law y ls).0 b.model).0;
    agrees = λ a c. b.agrees (planner a) c;
    class = b.class;
    is_class_holds = b.is_class_holds;
    earlier = λ j l u a c. b.earlier j l u (planner a) c;
    subset = λ a c h. b.subset (planner a) c h;
    proper = step b.proper.0 b.proper.1 b.proper.2 b.proper.3;
  }
    where
      step : (c : Atom) → WrittenClass ws b.class c → In x c → Out y c → (a : ℕ) × OfClass ws b.class a × In (cut_down x) a × Out (cut_down y) a
      step (planner a) k i o = (a, k, i, o)
      step (made t) k i o = absurd (let h = b.is_class_holds in omega arith)

  module _ (distinct : Distinct (made_atoms ls)) where
    -- and a set that is better directly is better once extended
    pub beats_extended : (s : ℕ → Bool) (x : Atom → Bool) → BeatsOver (DirectModel ls) (OfClass ws) s (cut_down x) → BeatsOver (Model (written ls)) (WrittenClass ws) (extended s ls) x
    beats_extended s x b = record {
      model = (written_law (extended s ls) ls).1 (b.model, extended_valued s ls distinct);
      agrees = agrees;
      class = b.class;
      is_class_holds = b.is_class_holds;
      earlier = earlier;
      subset = subset;
      proper = (planner b.proper.0, b.proper.1, b.proper.2, b.proper.3);
    }
      where
        agrees : (c : Atom) → WrittenClass ws fixed c → In (extended s ls) c ↔ In x c
        agrees (planner a) k = b.agrees a k
        agrees (made t) k = absurd (omega arith)

        earlier : (j : ℕ) → 1 ≤ j → j < b.class → (c : Atom) → WrittenClass ws j c → In (extended s ls) c ↔ In x c
        earlier j l u (planner a) k = b.earlier j l u a k
        earlier j l u (made t) k = absurd (let h = b.is_class_holds in omega arith)

        subset : (c : Atom) → WrittenClass ws b.class c → In (extended s ls) c → In x c
        subset (planner a) k h = b.subset a k h
        subset (made t) k h = absurd (let q = b.is_class_holds in omega arith)

    -- m is preferred directly exactly when some preferred set of the written program cuts down to m
    pub paired : (m : ℕ → Bool) → DirectPreferred ws ls m ↔ ((x : Atom → Bool) × WrittenPreferred ws ls x × Extends x m)
    paired m = (
      λ p. (
        extended m ls,
        record {
          model = (written_law (extended m ls) ls).1 (p.model, extended_valued m ls distinct);
          unbeaten = λ y b. p.unbeaten (cut_down y) (beats_cut y (extended m ls) b);
        },
        λ a. refl,
      ),
      λ q. back q.0 q.1 q.2,
    )
      where
        back : (x : Atom → Bool) → WrittenPreferred ws ls x → Extends x m → DirectPreferred ws ls m
        back x p e = subst (λ (n : ℕ → Bool). DirectPreferred ws ls n) (fun_ext e) (record {
          model = ((written_law x ls).0 p.model).0;
          unbeaten = λ s b. p.unbeaten (extended s ls) (beats_extended s x b);
        })

  -- and no two preferred sets of the written program have the same cut: those that agree on the atoms that the lines name agree on every T
  pub only_one : (x y : Atom → Bool) → WrittenPreferred ws ls x → WrittenPreferred ws ls y → All (λ a. cut_down x a ≡ cut_down y a) (flat statement_names ls) → All (λ t. x (made t) ≡ y (made t)) (made_atoms ls)
  only_one x y p q e = valued_once x y ls e ((written_law x ls).0 p.model).1 ((written_law y ls).0 q.model).1
