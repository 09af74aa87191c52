-- W-208: what is left of the written program is read directly as its statements say.
use Prim.Native.Nat.{ℕ, ◌+◌, ◌^◌, ◌<◌}
use native.Mathlib.Omega.{arith}
use mathlib.Core.Path.{◌≡◌, refl, sym, ap, subst, ◌∙◌}
use mathlib.Core.List.{List}
use lib.ListN.{length, length-map}
use Rattle.rules.specs.Lists.{from}
use Rattle.rules.specs.Sets.{has}
use Rattle.rules.specs.Rules.{rename}
use Rattle.rules.proofs.Lists.{length_from, map_from_at}
use Rattle.rules.proofs.Sets.{same_set}
use Rattle.restriction.specs.Atoms.{entries}
use Rattle.restriction.specs.Remaining.{remaining}
use Rattle.restriction.specs.PreferredLeft.{cut_to}
use Rattle.restriction.proofs.PreferredLeft.{cut_lt, cut_at}
use Rattle.conditions.specs.Conditions.{planner, Statement, made_atoms}
use Rattle.conditions.specs.Written.{written}
use Rattle.conditions.specs.Numbers.{unfixed, place, placed_rules, written_words, planner_places, Taken}
use Rattle.conditions.specs.Programs.{Typed, written_program}
use Rattle.conditions.specs.Left.{spoken, left_statements}
use Rattle.conditions.specs.DirectReading.{cut_to_planner, DirectReading}
use Rattle.conditions.proofs.Counts.{rules_of_statements}
use Rattle.conditions.proofs.Numbers.{CutsTo, numbers_paired, numbers_only_one, numbers_atoms}
use Rattle.conditions.proofs.Programs.{typed_taken}
use Rattle.conditions.proofs.Left.{left_taken, written_left}

-- the cut has a planner's atom exactly when the set has it at its place
module _ (q k n : ℕ) where
  cut_has : (t a : ℕ) → a < n → has t (place q k (planner a)) ≡ has (cut_to (planner_places q k n) t) a
  cut_has t a l =
      let e : 0 + a ≡ a = omega arith in
      sym (cut_at (planner_places q k n) t a (omega (arith, length-map (from 0 n) (λ a. place q k (planner a)), length_from 0 n)) ∙ ap (has t) (map_from_at (λ a. place q k (planner a)) 0 0 n a l ∙ ap (λ (b : ℕ). place q k (planner b)) e))

  places_length : length (planner_places q k n) ≡ n
  places_length = length-map (from 0 n) (λ a. place q k (planner a)) ∙ length_from 0 n

  cuts_to : (t s : ℕ) → cut_to (planner_places q k n) t ≡ s → CutsTo q k n t s
  cuts_to t s e a l = cut_has t a l ∙ ap (λ (x : ℕ). has x a) e

  to_cut : (t s : ℕ) → s < 2 ^ n → CutsTo q k n t s → cut_to (planner_places q k n) t ≡ s
  to_cut t s l h = same_set n (cut_to (planner_places q k n) t) s (subst (λ (c : ℕ). cut_to (planner_places q k n) t < 2 ^ c) places_length (cut_lt (planner_places q k n) t)) l (λ a u. sym (cut_has t a u) ∙ h a u)

-- of a file all of whose atoms are left
pub written_reading : (classes : ℕ) (ws : List ℕ) (ls : List Statement) → Taken ws ls → DirectReading ws ls (written_program classes ws ls)
unfolding written_program placed_rules
written_reading classes ws ls taken = record {
  paired = λ s l. (
    λ h. let r = (numbers_paired ws ls taken s).0 h in (r.0, subst (λ (c : ℕ). r.0 < 2 ^ c) size r.1, r.2, to_cut (unfixed ws) k n r.0 s l r.3),
    λ h. (numbers_paired ws ls taken s).1 (h.0, subst (λ (c : ℕ). h.0 < 2 ^ c) (sym size) h.1, h.2, cuts_to (unfixed ws) k n h.0 s h.3),
  );
  only_one = λ t u lt lu pt pu e. numbers_only_one ws ls taken t u (cut_to_planner ws ls u)
      (subst (λ (c : ℕ). t < 2 ^ c) (sym size) lt) (subst (λ (c : ℕ). u < 2 ^ c) (sym size) lu) pt pu (cuts_to (unfixed ws) k n t (cut_to_planner ws ls u) e) (λ a l. cut_has (unfixed ws) k n u a l);
  atoms = refl;
  rules = omega (arith, length-map (written ls) (rename (place (unfixed ws) k)), rules_of_statements ls);
}
  where
    n : ℕ
    n = length ws

    k : ℕ
    k = length (made_atoms ls)

    size : length (written_words ws ls) ≡ n + k
    size = numbers_atoms ws ls taken

pub direct_reading : (classes : ℕ) (ws : List ℕ) (ls : List Statement) → Typed classes ws ls
    → DirectReading (entries 0 ws (spoken (length ws) ls)) (left_statements (spoken (length ws) ls) ls) (remaining (written_program classes ws ls))
direct_reading classes ws ls typed =
    let xs = spoken (length ws) ls in
    subst (DirectReading (entries 0 ws xs) (left_statements xs ls)) (sym (written_left classes ws ls typed)) (written_reading classes (entries 0 ws xs) (left_statements xs ls) (left_taken ws ls (typed_taken classes ws ls typed)))
