-- The rules of a translation name declared atoms only.
use Prim.Native.Nat.{ℕ, ◌-◌, ◌≤◌, ◌<◌}
use native.Mathlib.Omega.{arith}
use mathlib.Core.Path.{◌≡◌}
use mathlib.Core.List.{List, map}
use mathlib.Core.Bool.{Bool}
use lib.Dec.{T}
use Rattle.rules.specs.Lists.{All, filter}
use Rattle.rules.specs.Renumbering.{Within}
use Rattle.rules.specs.Preferred.{of_class}
use Rattle.rules.proofs.Lists.{all_imp, app_iff, map_iff, filter_iff, all_map}
use Rattle.rules.proofs.Preferred.{all_of_class}
use Rattle.stores.specs.Program.{Program}
use Rattle.pairing.specs.Atoms.{Atom, original, N, S, D, class_word, is_minimised, is_unminimised, is_fixed, is_unfixed, declared}
use Rattle.pairing.specs.Steps.{step1, step2, step3, step4, step5, step6, step7, step8, step9, step10, translation}
use Rattle.pairing.proofs.Quantified.{Each·simp}
use Rattle.pairing.proofs.Fit.{Fit, Inside, minimised_unfixed}
use Rattle.pairing.proofs.Numbering.{Declared, to_declared}
use Rattle.pairing.proofs.Renamed.{Closed}

module _ (p : Program) (fit : Fit p) (Q : Atom → Type 0) (d : Declared p Q) where
  closed1 : All (Within Q) (step1 p)
  unfolding step1
  closed1 = simp Each·simp (search (d.originals, d.Ns))

  owns : (t : ℕ → Bool) (l : List ℕ) → All (λ a. a < p.atoms) l → All Q (map original (filter t l))
  owns t l h = simp (map_iff, filter_iff) (all_imp (λ a. a < p.atoms) (λ a. T (t a) → Q (original a)) (λ a u k. d.originals a u) l h)

  negations : (t : ℕ → Bool) (l : List ℕ) → All (λ a. a < p.atoms) l → All Q (map N (filter t l))
  negations t l h = simp (map_iff, filter_iff) (all_imp (λ a. a < p.atoms) (λ a. T (t a) → Q (N a)) (λ a u k. d.Ns a u) l h)

  copies : (l : List ℕ) → All (λ a. a < p.atoms) l → All Q (map S (filter (is_unfixed p) l))
  copies l h = simp (map_iff, filter_iff) (all_imp (λ a. a < p.atoms) (λ a. T (is_unfixed p a) → Q (S a)) d.Ss l h)

  closed2 : All (Within Q) (step2 p)
  unfolding step2
  closed2 = simp map_iff (all_imp (Inside p.atoms) _ (λ r i. record {
    head = owns (is_minimised p) r.head i.head;
    body = owns (is_minimised p) r.body i.body;
    nots = simp app_iff (owns (is_unminimised p) r.head i.head, negations (is_unminimised p) r.body i.body);
  }) p.rules fit.rules)

  closed3 : All (Within Q) (step3 p)
  unfolding step3
  closed3 = simp map_iff (all_imp (Inside p.atoms) _ (λ r i. record {
    head = simp app_iff (copies r.head i.head, (d.Us, tt));
    body = simp app_iff (copies r.body i.body, owns (is_fixed p) r.body i.body);
    nots = owns (is_fixed p) r.head i.head;
  }) p.rules fit.rules)

  closed4 : All (Within Q) (step4 p)
  unfolding step4
  closed4 = let e = d.Es 0 (omega arith) in search d.Us

  class : (i : ℕ) → i ≤ p.classes → All Q (map D (of_class p.words i))
  class i u = all_map Q D (of_class p.words i) ((all_of_class p.words i (λ a. Q (D a))).1 (λ a c.
      let l = c.0 in
      let e : class_word p a ≡ i = c.1 in
      d.Ds a (omega (arith, fit.count)) (omega (arith, fit.classes))))

  closed5 : All (Within Q) (step5 p)
  unfolding step5
  closed5 = simp Each·simp (λ i l u. record { head = simp app_iff (class i u, (d.Es i (omega arith), (d.Us, tt))); body = (d.Es (i - 1) (omega arith), tt); nots = tt })

  closed6 : All (Within Q) (step6 p)
  unfolding step6
  closed6 = simp Each·simp (λ a l c.
      let k = fit.class a l c in
      let here = d.Es (class_word p a) (omega arith) in
      let before = d.Es (class_word p a - 1) (omega arith) in
      let copy = d.Ss a l (minimised_unfixed p a c) in
      search (d.originals, d.Ns, d.Ds, d.Us))

  closed7 : All (Within Q) (step7 p)
  unfolding step7
  closed7 = simp Each·simp (search (d.Ss, d.Us))

  closed8 : All (Within Q) (step8 p)
  unfolding step8
  closed8 = simp Each·simp (search (d.Ds, d.Us))

  closed9 : All (Within Q) (step9 p)
  unfolding step9
  closed9 = simp Each·simp (search (d.Es, d.Us))

  closed10 : All (Within Q) (step10 p)
  unfolding step10
  closed10 = let e = d.Es p.classes (omega arith) in search d.Us

  closed_at : All (Within Q) (translation p)
  unfolding translation
  closed_at = simp app_iff (closed1, (closed2, (closed3, (closed4, (closed5, (closed6, (closed7, (closed8, (closed9, closed10)))))))))

pub closed : (p : Program) → Fit p → Closed (declared p) (translation p)
closed p fit Q h = closed_at p fit Q (to_declared p Q h)
