-- One rule read in the lists of its atoms, an atom in two of the rule's lists only once.
use Prim.Native.Nat.{ℕ, suc, ◌+◌, ◌≤◌, ◌<◌}
use native.Mathlib.Numerals.{add-one}
use native.Mathlib.Decide.{ℕ_discrete}
use native.Mathlib.Omega.{arith}
use mathlib.Core.Path.{◌≡◌, refl, sym, ap, ap₂, subst, ◌∙◌}
use mathlib.Core.Logic.{◌⊎◌, inl, inr}
use mathlib.Core.Bool.{Bool, true, false, not, cond, ◌&&◌, ◌||◌}
use mathlib.Core.List.{List}
use lib.Dec.{T, ltb, eqb, eqb→eq}
use lib.ListN.{length, get_or, take, set, length-set}
use lib.Seq.{take-suc, take_all, get_or-set_same, get_or-set_other}
use borrow.Author.Tests.{not-true, not-false, lt-ltb, le-ltb, eq-eqb, ne_eqb}
use Rattle.rules.specs.Lists.{All}
use Rattle.rules.proofs.Booleans.{T_of, T-or-out, is_true_lem, and-false}
use Rattle.rules.proofs.Lists.{all_at, some_last}
use Rattle.stores.specs.Checking.{Below}
use Rattle.stores.proofs.Marks.{below_more, set_below, set_marks}
use Rattle.restriction.specs.Atoms.{is_member}
use Rattle.rule_index.specs.Passing.{Raised}
use Rattle.index_check.specs.Lists.{is_entry, are_entries, Tabled}
use Rattle.index_check.proofs.Each.{EachLeft, each_begin, each_end, each_fails, each_again}

-- the first i of the atoms are read
pub record Reading (atoms : List ℕ) (rule : ℕ) (ws next₀ ends marks₀ : List ℕ) (stamp : ℕ) (next marks : List ℕ) (i : ℕ) : Type 0 where
  pub tables : All (Tabled ws next₀ ends marks₀) atoms
  pub stamped : stamp ≡ rule + 1
  pub marks_long : length marks ≡ length marks₀
  pub below : Below (stamp + 1) marks
  pub marked : (b : ℕ) → eqb (get_or marks b 0) stamp ≡ is_member (take i atoms) b
  pub raised : Raised (is_member (take i atoms)) next₀ next
  pub held : (b : ℕ) → T (is_member (take i atoms) b) → T (is_entry ws (get_or next₀ b 0) (get_or ends b 0) rule)
  pub left : EachLeft (λ b. is_entry ws (get_or next₀ b 0) (get_or ends b 0) rule) atoms i

pub read_begin : {atoms : List ℕ} {rule : ℕ} {ws next ends marks : List ℕ} → All (Tabled ws next ends marks) atoms → Below (rule + 1) marks → Reading atoms rule ws next ends marks (rule + 1) next marks 0
read_begin {atoms} {rule} {ws} {next} {ends} {marks} t b = record {
  tables = t;
  stamped = refl;
  marks_long = refl;
  below = below_more b (omega arith);
  marked = λ a. ne_eqb (get_or marks a 0) (rule + 1) (λ e. omega (arith, b.mark a));
  raised = record { size = refl; each = λ a. refl };
  held = λ a k. absurd k;
  left = each_begin (λ a. is_entry ws (get_or next a 0) (get_or ends a 0) rule) atoms;
}

module _ {atoms : List ℕ} {rule : ℕ} {ws next₀ ends marks₀ : List ℕ} {stamp : ℕ} {next marks : List ℕ} {i : ℕ} (h : Reading atoms rule ws next₀ ends marks₀ stamp next marks i) where
  -- what is answered of the rule
  abbrev Answer : List ℕ → Bool → Type 0
  Answer marks' r = (r ≡ are_entries ws next₀ ends rule atoms) × ((r ≡ true → Raised (is_member atoms) next₀ next) × Below (rule + 2) marks')

  pub read_end : length atoms ≤ i → Answer marks true
  unfolding are_entries
  read_end l = (each_end h.left l, (λ e. subst (λ (xs : List ℕ). Raised (is_member xs) next₀ next) (take_all i atoms l) h.raised, below_more h.below (omega (arith, h.stamped))))

  module _ (l : i < length atoms) where
    abbrev a : ℕ
    a = get_or atoms i 0

    table : Tabled ws next₀ ends marks₀ a
    table = all_at (Tabled ws next₀ ends marks₀) 0 atoms h.tables i l

    pub atom_next : a < length next
    atom_next = omega (arith, table.has_next, h.raised.size)

    pub atom_end : a < length ends
    atom_end = table.has_end

    pub atom_mark : a < length marks
    atom_mark = omega (arith, table.has_mark, h.marks_long)

    pub end_inside : get_or ends a 0 ≤ length ws
    end_inside = table.inside

    one_more : (b : ℕ) → is_member (take (i + 1) atoms) b ≡ (eqb b a || is_member (take i atoms) b)
    one_more b = ap (λ (k : ℕ). is_member (take k atoms) b) (add-one i) ∙ ap (λ (xs : List ℕ). is_member xs b) (take-suc atoms i 0 l) ∙ some_last (eqb b) (take i atoms) a

    is_more : (b : ℕ) → b ≡ a → is_member (take (i + 1) atoms) b ≡ true
    is_more b e = one_more b ∙ ap (λ (t : Bool). t || is_member (take i atoms) b) (eq-eqb b a e)

    is_other_lem : (b : ℕ) → (b ≡ a → ⊥) → is_member (take (i + 1) atoms) b ≡ is_member (take i atoms) b
    is_other_lem b e = one_more b ∙ ap (λ (t : Bool). t || is_member (take i atoms) b) (ne_eqb b a e)

    module _ {marks' : List ℕ} (m : marks' ≡ set marks a stamp) where
      pub marks_sized : length marks' ≡ length marks₀
      marks_sized = ap length m ∙ length-set marks a stamp ∙ h.marks_long

      below' : Below (stamp + 1) marks'
      below' = subst (Below (stamp + 1)) (sym m) (set_below marks a stamp atom_mark h.below)

      fails : is_entry ws (get_or next₀ a 0) (get_or ends a 0) rule ≡ false → Answer marks' false
      unfolding are_entries
      fails f = (each_fails h.left l f, (λ e. absurd (let z : ◌≡◌ {A = ℕ} 0 1 = cc in omega arith), below_more below' (omega (arith, h.stamped))))

      further : {next' : List ℕ} → T (is_entry ws (get_or next₀ a 0) (get_or ends a 0) rule) → Raised (is_member (take (i + 1) atoms)) next₀ next' → Reading atoms rule ws next₀ ends marks₀ stamp next' marks' (i + 1)
      further t r = record {
        tables = h.tables;
        stamped = h.stamped;
        marks_long = marks_sized;
        below = below';
        marked = λ b. ap (λ (xs : List ℕ). eqb (get_or xs b 0) stamp) m ∙ set_marks marks a stamp atom_mark b ∙ ap (λ (t : Bool). eqb b a || t) (h.marked b) ∙ sym (one_more b);
        raised = r;
        held = λ b k. holds b (T-or-out (eqb b a) (is_member (take i atoms) b) (T_of (one_more b) k));
        left = each_again h.left l (is_true_lem (is_entry ws (get_or next₀ a 0) (get_or ends a 0) rule) t);
      }
        where
          holds : (b : ℕ) → T (eqb b a) ⊎ T (is_member (take i atoms) b) → T (is_entry ws (get_or next₀ b 0) (get_or ends b 0) rule)
          holds b (inl k) = subst (λ (x : ℕ). T (is_entry ws (get_or next₀ x 0) (get_or ends x 0) rule)) (sym (eqb→eq b a k)) t
          holds b (inr k) = h.held b k

      module _ {f : Bool} (e : f ≡ not (eqb (get_or marks a 0) stamp)) where
        -- the atom stood in the rule before
        pub read_before : f ≡ false → {next' : List ℕ} → next' ≡ next → Reading atoms rule ws next₀ ends marks₀ stamp next' marks' (i + 1)
        read_before q {next'} d = further (h.held a (T_of (sym seen) tt)) (record { size = ap length d ∙ h.raised.size; each = λ b. ap (λ (xs : List ℕ). get_or xs b 0) d ∙ h.raised.each b ∙ ap (λ (t : Bool). cond t (suc (get_or next₀ b 0)) (get_or next₀ b 0)) (sym (same b (ℕ_discrete b a))) })
          where
            seen : is_member (take i atoms) a ≡ true
            seen = sym (h.marked a) ∙ not-false (eqb (get_or marks a 0) stamp) (sym e ∙ q)

            same : (b : ℕ) → Dec (b ≡ a) → is_member (take (i + 1) atoms) b ≡ is_member (take i atoms) b
            same b (yes k) = is_more b k ∙ sym seen ∙ ap (is_member (take i atoms)) (sym k)
            same b (no k) = is_other_lem b k

        module _ (q : f ≡ true) where
          first : get_or next a 0 ≡ get_or next₀ a 0
          first = h.raised.each a ∙ ap (λ (t : Bool). cond t (suc (get_or next₀ a 0)) (get_or next₀ a 0)) (sym (h.marked a) ∙ not-true (eqb (get_or marks a 0) stamp) (sym e ∙ q))

          entered : is_entry ws (get_or next₀ a 0) (get_or ends a 0) rule ≡ ltb (get_or next a 0) (get_or ends a 0) && eqb (get_or ws (get_or next a 0) 0) rule
          unfolding is_entry
          entered = ap (λ (k : ℕ). ltb k (get_or ends a 0) && eqb (get_or ws k 0) rule) (sym first)

          pub no_entry : get_or ends a 0 ≤ get_or next a 0 → Answer marks' false
          no_entry o = fails (entered ∙ ap (λ (t : Bool). t && eqb (get_or ws (get_or next a 0) 0) rule) (le-ltb (get_or next a 0) (get_or ends a 0) o))

          pub other_entry : (get_or ws (get_or next a 0) 0 ≡ rule → ⊥) → Answer marks' false
          other_entry o = fails (entered ∙ ap (λ (t : Bool). ltb (get_or next a 0) (get_or ends a 0) && t) (ne_eqb (get_or ws (get_or next a 0) 0) rule o) ∙ and-false (ltb (get_or next a 0) (get_or ends a 0)))

          pub read_entry : get_or next a 0 < get_or ends a 0 → get_or ws (get_or next a 0) 0 ≡ rule → {next' : List ℕ} → next' ≡ set next a (get_or next a 0 + 1) → Reading atoms rule ws next₀ ends marks₀ stamp next' marks' (i + 1)
          read_entry o r {next'} d = further
              (T_of (sym (entered ∙ ap₂ ◌&&◌ (lt-ltb (get_or next a 0) (get_or ends a 0) o) (eq-eqb (get_or ws (get_or next a 0) 0) rule r))) tt)
              (record { size = ap length d ∙ length-set next a (get_or next a 0 + 1) ∙ h.raised.size; each = λ b. ap (λ (xs : List ℕ). get_or xs b 0) d ∙ each b (ℕ_discrete b a) })
            where
              each : (b : ℕ) → Dec (b ≡ a) → get_or (set next a (get_or next a 0 + 1)) b 0 ≡ cond (is_member (take (i + 1) atoms) b) (suc (get_or next₀ b 0)) (get_or next₀ b 0)
              each b (yes k) =
                  ap (λ (x : ℕ). get_or (set next a (get_or next a 0 + 1)) x 0) k ∙ get_or-set_same next a (get_or next a 0 + 1) 0 atom_next
                  ∙ add-one (get_or next a 0) ∙ ap suc first ∙ ap (λ (x : ℕ). suc (get_or next₀ x 0)) (sym k)
                  ∙ ap (λ (t : Bool). cond t (suc (get_or next₀ b 0)) (get_or next₀ b 0)) (sym (is_more b k))
              each b (no k) = get_or-set_other next a b (get_or next a 0 + 1) 0 k ∙ h.raised.each b ∙ ap (λ (t : Bool). cond t (suc (get_or next₀ b 0)) (get_or next₀ b 0)) (sym (is_other_lem b k))
