-- Step 5, class by class.
use Prim.Native.Nat.{ℕ, ◌+◌, ◌-◌, ◌≤◌, ◌<◌}
use native.Mathlib.Omega.{arith}
use mathlib.Core.Path.{◌≡◌, refl, sym, ap, ap₂, ◌∙◌}
use mathlib.Core.List.{List, [], ◌∷◌, ◌++◌, map, append_assoc}
use mathlib.Core.Bool.{Bool}
use borrow.Author.Tests.{lt-leb}
use lib.ListN.{length, length-append, length-map}
use Rattle.rules.specs.Lists.{from}
use Rattle.rules.specs.Rules.{count_if}
use Rattle.rules.specs.Preferred.{of_class}
use Rattle.rules.proofs.Lists.{length_from}
use Rattle.stores.specs.Program.{NeverFalling}
use Rattle.rules.proofs.ListLaws.{shifted}
use Rattle.text.specs.ClassRuns.{up_to}
use Rattle.output.specs.Emitted.{Emitted, InRange}
use Rattle.text.proofs.ClassWords.{up_to_le, up_to_rises, class_run}
use Rattle.output.proofs.Emitting.{Ahead, Emitting, start, turn, finish, range_here, range_renamed, renamed}
use Rattle.steps.specs.declared.offsets.Offsets.{Offsets}
use Rattle.atom_lists.specs.Roles.{Low}
use Rattle.atom_lists.specs.ListWords.{each, single}
use Rattle.steps.specs.StepWords.{words5, run_words5}
use Rattle.atom_lists.proofs.ListLaws.{run_next, run_ends, each_single}

-- a class whose atoms are a run
module _ (o : Offsets) (i first end : ℕ) where
  abbrev ends5 : List ℕ
  ends5 = (o.e + i) ∷ o.u ∷ (o.e + (i - 1)) ∷ []

  pub run_counts : Ahead (run_words5 o i first end) ((end - first + 2) ∷ 1 ∷ 0 ∷ []) (each single (from (o.d + first) (o.d + end - (o.d + first))) ++ ends5)
  unfolding run_words5
  run_counts = record { is = refl }

run_words : (o : Offsets) (ws : List ℕ) (i first end : ℕ) → first ≤ end → of_class ws i ≡ from first (end - first) → words5 ws o i ≡ run_words5 o i first end
unfolding words5 run_words5
run_words o ws i first end l e =
    let d = o.d in
    let ends : List ℕ = (o.e + i) ∷ o.u ∷ [] in
    let c : end - first ≡ d + end - (d + first) = omega arith in
    let run : map (λ a. d + a) (of_class ws i) ≡ each single (from (d + first) (d + end - (d + first))) =
    ap (map (λ a. d + a)) e ∙ shifted d first (end - first) ∙ ap (from (d + first)) c ∙ sym (each_single (from (d + first) (d + end - (d + first)))) in
    let size : length (map (λ a. d + a) (of_class ws i) ++ ends) ≡ end - first + 2 =
    omega (arith, length-append (map (λ a. d + a) (of_class ws i)) ends, length-map (of_class ws i) (λ a. d + a), ap length e ∙ length_from first (end - first)) in
    ap (λ (k : ℕ). k ∷ 1 ∷ 0 ∷ ((map (λ a. d + a) (of_class ws i) ++ ends) ++ ((o.e + (i - 1)) ∷ []))) size
    ∙ ap (λ (r : List ℕ). (end - first + 2) ∷ 1 ∷ 0 ∷ ((r ++ ends) ++ ((o.e + (i - 1)) ∷ []))) run
    ∙ ap (λ (r : List ℕ). (end - first + 2) ∷ 1 ∷ 0 ∷ r) (append_assoc (each single (from (d + first) (d + end - (d + first)))) ends ((o.e + (i - 1)) ∷ []))

none_below : (ws : List ℕ) → Low ws → up_to 0 ws ≡ 0
unfolding up_to
none_below [] h = refl
none_below (w ∷ ws) h = let l : 1 ≤ w = h.word 0 (omega arith) in ap (λ (b : Bool). count_if b (up_to 0 ws)) (lt-leb w 0 l)

-- the classes before `class` are written, and its atoms begin at `first`
pub record ClassesLeft (ws : List ℕ) (o : Offsets) (count : ℕ) (before : List ℕ) (at : ℕ) (now : List ℕ) (next first class : ℕ) : Type 0 where
  pub low : 1 ≤ class
  pub passed : class ≤ count + 1
  pub begins : first ≡ up_to (class - 1) ws
  pub so : Emitting (each (words5 ws o) (from 1 (count + 1 - 1))) before at (each (words5 ws o) (from class (count + 1 - class))) now next

pub classes_begin : {ws : List ℕ} {o : Offsets} {count : ℕ} {before : List ℕ} {at : ℕ} → Low ws → InRange at (each (words5 ws o) (from 1 (count + 1 - 1))) → ClassesLeft ws o count before at before at 0 1
classes_begin {ws} low r = record { low = omega arith; passed = omega arith; begins = sym (none_below ws low); so = start r }

module _ {ws : List ℕ} {o : Offsets} {count : ℕ} {before : List ℕ} {at : ℕ} {now : List ℕ} {next first class : ℕ} (h : ClassesLeft ws o count before at now next first class) where
  pub classes_end : count < class → Emitted before at (each (words5 ws o) (from 1 (count + 1 - 1))) now next
  classes_end l = finish h.so (run_ends (words5 ws o) class (count + 1) (omega arith))

  pub begins_inside : first ≤ up_to class ws
  begins_inside = omega (arith, h.begins, up_to_rises (class - 1) class (omega arith) ws)

  module _ (rising : NeverFalling 0 ws) (l : class ≤ count) {end : ℕ} (e : end ≡ up_to class ws) where
    pub first_end : first ≤ end
    first_end = omega (arith, begins_inside, e)

    pub end_inside : end ≤ length ws
    end_inside = omega (arith, e, up_to_le class ws)

    run_is : of_class ws class ≡ from first (end - first)
    run_is =
        class_run (class - 1) class ws rising (omega (arith, h.low)) (λ i u v. omega (arith, h.low, v))
        ∙ ap₂ (λ (a b : ℕ). from a (b - a)) (sym h.begins) (sym e)

    pub class_words_lem : words5 ws o class ≡ run_words5 o class first end
    class_words_lem = run_words o ws class first end first_end run_is

    class_ahead : Ahead (each (words5 ws o) (from class (count + 1 - class))) (words5 ws o class) (each (words5 ws o) (from (class + 1) (count + 1 - (class + 1))))
    class_ahead = run_next (words5 ws o) class (count + 1) (omega arith)

    pub class_range : InRange next (run_words5 o class first end)
    class_range = range_renamed (range_here h.so class_ahead) class_words_lem

    pub classes_again : {now' : List ℕ} {next' : ℕ} → Emitted now next (run_words5 o class first end) now' next' → ClassesLeft ws o count before at now' next' end (class + 1)
    classes_again p =
        let k : class ≡ class + 1 - 1 = omega arith in
        record {
          low = omega arith;
          passed = omega arith;
          begins = e ∙ ap (λ (j : ℕ). up_to j ws) k;
          so = turn h.so class_ahead (renamed p (sym class_words_lem));
        }
