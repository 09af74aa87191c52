-- The same over numbers, as the stores hold the programs: the preferred sets of the written program, cut to the planner's atoms, are those of the conditions read directly, each from just one.
use Prim.Native.Nat.{ℕ, suc, ◌+◌, ◌-◌, ◌^◌, ◌≤◌, ◌<◌}
use native.Mathlib.Omega.{arith}
use mathlib.Core.Path.{◌≡◌, refl, sym, ap, subst, ◌∙◌}
use mathlib.Core.List.{List, map}
use mathlib.Core.Bool.{Bool}
use mathlib.Core.Logic.{◌⊎◌, inl, inr, ◌↔◌}
use lib.ListN.{length}
use Rattle.rules.specs.Lists.{All, Distinct, flat}
use Rattle.rules.specs.Sets.{has, In, Out}
use Rattle.rules.specs.Rules.{Rule, Model}
use Rattle.kinds.specs.Limits.{fixed}
use Rattle.rules.specs.Preferred.{OfClass, Beats, Preferred}
use Rattle.rules.proofs.Booleans.{T_of}
use Rattle.rules.proofs.Lists.{all_imp, all_from, from_all, all_map, map_all}
use Rattle.rules.proofs.Sets.{same_set, set_of_lem}
use Rattle.conditions.specs.Conditions.{Atom, planner, made, Statement, states, made_atoms, statement_names}
use Rattle.conditions.specs.Written.{written}
use Rattle.conditions.specs.Readings.{BeatsOver, StatementHolds, DirectModel, DirectPreferred, DirectSet, WrittenClass, WrittenPreferred, cut_down}
use Rattle.conditions.specs.Numbers.{unfixed, place, placed_words, placed_rules, written_words, written_rules, Taken}
use Rattle.conditions.proofs.Values.{Valued}
use Rattle.conditions.proofs.Connectives.{written_law}
use Rattle.conditions.proofs.Extended.{extended, extended_valued}
use Rattle.conditions.proofs.Paired.{paired, only_one}
use Rattle.conditions.proofs.Counts.{numbered_distinct}
use Rattle.conditions.proofs.Placed.{unplace, stands, place_unplace, unplace_planner, unplace_made, place_lt, low, mid, high, words_length, class_up, class_down, renamed_law}
use Rattle.conditions.proofs.Classes.{unfixed_le}
use Rattle.conditions.proofs.Congruent.{direct_congr, preferred_congr, valued_congr, preferred_valued}

-- set t, cut to the planner's atoms, has the members of s: n planner's atoms
abbrev pub CutsTo : ℕ → ℕ → ℕ → ℕ → ℕ → Type 0
CutsTo q k n t s = (a : ℕ) → a < n → has t (place q k (planner a)) ≡ has s a

-- q planner's atoms stand before the T atoms
module _ (ws : List ℕ) (ls : List Statement) (taken : Taken ws ls) (q : ℕ) (fits : q ≤ length ws) where
  abbrev n : ℕ
  n = length ws

  abbrev k : ℕ
  k = length (made_atoms ls)

  abbrev words : List ℕ
  words = placed_words q k ws

  abbrev rules : List (Rule ℕ)
  rules = placed_rules q k ls

  abbrev at : ℕ → Atom → Bool
  at t c = has t (place q k c)

  abbrev back : ℕ → Atom
  back i = unplace q k i

  distinct : Distinct (made_atoms ls)
  distinct = numbered_distinct ls taken.numbered

  -- what holds of the numbers 1 to k holds of every T, and back
  each_made : (P : ℕ → Type 0) → ((t : ℕ) → 1 ≤ t → t < 1 + k → P t) → All P (made_atoms ls)
  each_made P f = subst (All P) (sym taken.numbered) (all_from P 1 k f)

  of_made : (P : ℕ → Type 0) → All P (made_atoms ls) → (t : ℕ) → 1 ≤ t → t < 1 + k → P t
  of_made P h = from_all P 1 k (subst (All P) taken.numbered h)

  each_named : (P : ℕ → Type 0) → ((a : ℕ) → a < n → P a) → All P (flat statement_names ls)
  each_named P f = all_imp (λ a. a < n) P f (flat statement_names ls) taken.declared

  rules_law : (t : ℕ) → Model rules (has t) ↔ Model (written ls) (at t)
  unfolding placed_rules
  rules_law t = renamed_law (place q k) (has t) (written ls)

  -- a set of atoms as a number
  set_of : (Atom → Bool) → ℕ
  set_of y = (set_of_lem (length words) (λ i. y (back i))).0

  set_below : (y : Atom → Bool) → set_of y < 2 ^ length words
  unfolding set_of
  set_below y = (set_of_lem (length words) (λ i. y (back i))).1

  set_back : (y : Atom → Bool) (i : ℕ) → i < length words → has (set_of y) i ≡ y (back i)
  unfolding set_of
  set_back y i l = (set_of_lem (length words) (λ i. y (back i))).2 i l

  set_planner : (y : Atom → Bool) (a : ℕ) → a < n → at (set_of y) (planner a) ≡ y (planner a)
  set_planner y a l = set_back y (place q k (planner a)) (subst (λ (c : ℕ). place q k (planner a) < c) (sym (words_length q k ws fits)) (place_lt q k n a l)) ∙ ap y (unplace_planner q k a)

  set_made : (y : Atom → Bool) (t : ℕ) → 1 ≤ t → t < 1 + k → at (set_of y) (made t) ≡ y (made t)
  set_made y t l u = set_back y (place q k (made t)) (omega (arith, words_length q k ws fits)) ∙ ap y (unplace_made q k t l u)

  -- the set of a model is a model
  set_direct : (y : Atom → Bool) → DirectModel ls (cut_down y) → DirectModel ls (cut_down (at (set_of y)))
  set_direct y h = direct_congr (cut_down y) (cut_down (at (set_of y))) ls (each_named (λ a. cut_down y a ≡ cut_down (at (set_of y)) a) (λ a l. sym (set_planner y a l))) h

  set_valued : (y : Atom → Bool) → Valued y ls → Valued (at (set_of y)) ls
  set_valued y h = valued_congr y (at (set_of y)) ls (each_named (λ a. cut_down y a ≡ cut_down (at (set_of y)) a) (λ a l. sym (set_planner y a l))) (each_made (λ t. y (made t) ≡ at (set_of y) (made t)) (λ t l u. sym (set_made y t l u))) h

  set_model : (y : Atom → Bool) → Model (written ls) y → Model rules (has (set_of y))
  set_model y h = let w = (written_law y ls).0 h in (rules_law (set_of y)).1 ((written_law (at (set_of y)) ls).1 (set_direct y w.0, set_valued y w.1))

  at_back : (t i : ℕ) → at t (back i) ≡ has t i
  at_back t i = ap (has t) (place_unplace q k i)

  -- a preferred set by its number is one over the atoms
  up : (t : ℕ) → Preferred words rules t → WrittenPreferred ws ls (at t)
  up t p = record { model = (rules_law t).0 p.model; unbeaten = λ y b. p.unbeaten (set_of y) (set_below y) (beats y b) }
    where
      carry : (y : Atom → Bool) (i : ℕ) → i < length words → In y (back i) ↔ In (at t) (back i) → In (has (set_of y)) i ↔ In (has t) i
      carry y i l h = (λ g. T_of (at_back t i) (h.0 (T_of (set_back y i l) g)), λ g. T_of (sym (set_back y i l)) (h.1 (T_of (sym (at_back t i)) g)))

      beats : (y : Atom → Bool) → BeatsOver (Model (written ls)) (WrittenClass ws) y (at t) → Beats words rules (set_of y) t
      beats y b = record {
        model = set_model y b.model;
        agrees = λ i c. carry y i c.0 (b.agrees (back i) (class_down q k ws fits fixed i c));
        class = b.class;
        is_class_holds = b.is_class_holds;
        earlier = λ j l u i c. carry y i c.0 (b.earlier j l u (back i) (class_down q k ws fits j i c));
        subset = λ i c g. T_of (at_back t i) (b.subset (back i) (class_down q k ws fits b.class i c) (T_of (set_back y i c.0) g));
        proper = found b.proper.0 b.proper.1 b.proper.2 b.proper.3;
      }
        where
          found : (c : Atom) → WrittenClass ws b.class c → In (at t) c → Out y c → (i : ℕ) × OfClass words b.class i × In (has t) i × Out (has (set_of y)) i
          found (planner a) h i o = (place q k (planner a), class_up q k ws fits b.class a h, i, λ g. o (T_of (set_planner y a h.0) g))
          found (made u) h i o = absurd (let l = b.is_class_holds in omega arith)

  down : (t : ℕ) → WrittenPreferred ws ls (at t) → Preferred words rules t
  down t p = record { model = (rules_law t).1 p.model; unbeaten = λ u l b. p.unbeaten (at u) (beats u b) }
    where
      beats : (u : ℕ) → Beats words rules u t → BeatsOver (Model (written ls)) (WrittenClass ws) (at u) (at t)
      beats u b = record {
        model = (rules_law u).0 b.model;
        agrees = agrees;
        class = b.class;
        is_class_holds = b.is_class_holds;
        earlier = earlier;
        subset = subset;
        proper = let r = b.proper in (back r.0, class_down q k ws fits b.class r.0 r.1, T_of (sym (at_back t r.0)) r.2, λ g. r.3 (T_of (at_back u r.0) g));
      }
        where
          agrees : (c : Atom) → WrittenClass ws fixed c → In (at u) c ↔ In (at t) c
          agrees (planner a) h = b.agrees (place q k (planner a)) (class_up q k ws fits fixed a h)
          agrees (made v) h = absurd (omega arith)

          earlier : (j : ℕ) → 1 ≤ j → j < b.class → (c : Atom) → WrittenClass ws j c → In (at u) c ↔ In (at t) c
          earlier j l r (planner a) h = b.earlier j l r (place q k (planner a)) (class_up q k ws fits j a h)
          earlier j l r (made v) h = absurd (let g = b.is_class_holds in omega arith)

          subset : (c : Atom) → WrittenClass ws b.class c → In (at u) c → In (at t) c
          subset (planner a) h g = b.subset (place q k (planner a)) (class_up q k ws fits b.class a h) g
          subset (made v) h g = absurd (let l = b.is_class_holds in omega arith)

  -- a set preferred directly, by its number and by its test
  direct_up : (s : ℕ) → DirectSet ws ls s → DirectPreferred ws ls (has s)
  direct_up s p = record { model = p.model; unbeaten = λ y b. p.unbeaten (set_of_lem n y).0 (set_of_lem n y).1 (beats y b) }
    where
      beats : (y : ℕ → Bool) → BeatsOver (DirectModel ls) (OfClass ws) y (has s) → BeatsOver (DirectModel ls) (OfClass ws) (has (set_of_lem n y).0) (has s)
      beats y b = record {
        model = direct_congr y (has (set_of_lem n y).0) ls (each_named (λ a. y a ≡ has (set_of_lem n y).0 a) (λ a l. sym ((set_of_lem n y).2 a l))) b.model;
        agrees = λ a c. (λ h. (b.agrees a c).0 (T_of ((set_of_lem n y).2 a c.0) h), λ h. T_of (sym ((set_of_lem n y).2 a c.0)) ((b.agrees a c).1 h));
        class = b.class;
        is_class_holds = b.is_class_holds;
        earlier = λ j l u a c. (λ h. (b.earlier j l u a c).0 (T_of ((set_of_lem n y).2 a c.0) h), λ h. T_of (sym ((set_of_lem n y).2 a c.0)) ((b.earlier j l u a c).1 h));
        subset = λ a c h. b.subset a c (T_of ((set_of_lem n y).2 a c.0) h);
        proper = let r = b.proper in (r.0, r.1, r.2, λ h. r.3 (T_of ((set_of_lem n y).2 r.0 r.1.0) h));
      }

  direct_down : (s : ℕ) → DirectPreferred ws ls (has s) → DirectSet ws ls s
  direct_down s p = record { model = p.model; unbeaten = λ u l b. p.unbeaten (has u) b }

  pub paired_at : (s : ℕ) → DirectSet ws ls s ↔ ((t : ℕ) × (t < 2 ^ length words) × Preferred words rules t × CutsTo q k n t s)
  paired_at s = (
    λ p.
        let x : Atom → Bool = extended (has s) ls in
        let e : CutsTo q k n (set_of x) s = λ a l. set_planner x a l in
        let d : DirectPreferred ws ls (cut_down (at (set_of x))) = preferred_congr ws ls (has s) (cut_down (at (set_of x))) (λ a l. sym (e a l)) taken.declared (direct_up s p) in
        (set_of x, set_below x, down (set_of x) (preferred_valued ws ls (at (set_of x)) d (set_valued x (extended_valued (has s) ls distinct))), e),
    λ r. direct_down s (preferred_congr ws ls (cut_down (at r.0)) (has s) r.3 taken.declared ((paired ws ls distinct (cut_down (at r.0))).1 (at r.0, up r.0 r.2, λ a. refl))),
  )

  pub only_one_at : (t u : ℕ) → t < 2 ^ length words → u < 2 ^ length words → Preferred words rules t → Preferred words rules u → ((a : ℕ) → a < n → at t (planner a) ≡ at u (planner a)) → t ≡ u
  only_one_at t u lt lu pt pu e = same_set (length words) t u lt lu (λ i l. sym (at_back t i) ∙ (same i l (stands q k i) ∙ at_back u i))
    where
      mades : All (λ v. at t (made v) ≡ at u (made v)) (made_atoms ls)
      mades = only_one ws ls (at t) (at u) (up t pt) (up u pu) (each_named (λ a. cut_down (at t) a ≡ cut_down (at u) a) e)

      of_atom : (c c' : Atom) → c ≡ c' → at t c' ≡ at u c' → at t c ≡ at u c
      of_atom c c' g h = subst (λ (d : Atom). at t d ≡ at u d) (sym g) h

      same : (i : ℕ) → i < length words → (i < q) ⊎ (((q ≤ i) × (i < q + k)) ⊎ (q + k ≤ i)) → at t (back i) ≡ at u (back i)
      same i l (inl h) = of_atom (back i) (planner i) (low q k i h) (e i (omega arith))
      same i l (inr (inl h)) = of_atom (back i) (made (suc (i - q))) (mid q k i h.0 h.1) (of_made (λ v. at t (made v) ≡ at u (made v)) mades (suc (i - q)) (omega arith) (omega (arith, h.0, h.1)))
      same i l (inr (inr h)) = of_atom (back i) (planner (i - k)) (high q k i h) (e (i - k) (omega (arith, words_length q k ws fits)))

-- W-208's pairing, of the program that the stores hold

module _ (ws : List ℕ) (ls : List Statement) (taken : Taken ws ls) where
  -- set s is preferred directly exactly when some preferred set of the written program, cut to the planner's atoms, is it
  pub numbers_paired : (s : ℕ) → DirectSet ws ls s ↔ ((t : ℕ) × (t < 2 ^ length (written_words ws ls)) × Preferred (written_words ws ls) (written_rules ws ls) t × CutsTo (unfixed ws) (length (made_atoms ls)) (length ws) t s)
  numbers_paired s = paired_at ws ls taken (unfixed ws) (unfixed_le ws) s

  -- and no two give the same
  pub numbers_only_one : (t u s : ℕ) → t < 2 ^ length (written_words ws ls) → u < 2 ^ length (written_words ws ls) → Preferred (written_words ws ls) (written_rules ws ls) t → Preferred (written_words ws ls) (written_rules ws ls) u
      → CutsTo (unfixed ws) (length (made_atoms ls)) (length ws) t s → CutsTo (unfixed ws) (length (made_atoms ls)) (length ws) u s → t ≡ u
  numbers_only_one t u s lt lu pt pu ct cu = only_one_at ws ls taken (unfixed ws) (unfixed_le ws) t u lt lu pt pu (λ a l. ct a l ∙ sym (cu a l))

  -- one atom a connective
  pub numbers_atoms : length (written_words ws ls) ≡ length ws + length (made_atoms ls)
  numbers_atoms = words_length (unfixed ws) (length (made_atoms ls)) ws (unfixed_le ws)

-- without conditions the direct reading is document 01's

pub plain_reading : (ws : List ℕ) (rs : List (Rule ℕ)) (s : ℕ) → DirectSet ws (map states rs) s ↔ Preferred ws rs s
plain_reading ws rs s = (
  λ p. record { model = (model s).0 p.model; unbeaten = λ u l b. p.unbeaten u l (record { model = (model u).1 b.model; agrees = b.agrees; class = b.class; is_class_holds = b.is_class_holds; earlier = b.earlier; subset = b.subset; proper = b.proper }) },
  λ p. record { model = (model s).1 p.model; unbeaten = λ u l b. p.unbeaten u l (record { model = (model u).0 b.model; agrees = b.agrees; class = b.class; is_class_holds = b.is_class_holds; earlier = b.earlier; subset = b.subset; proper = b.proper }) },
)
  where
    model : (u : ℕ) → DirectModel (map states rs) (has u) ↔ Model rs (has u)
    model u = (map_all (StatementHolds (has u)) states rs, all_map (StatementHolds (has u)) states rs)
