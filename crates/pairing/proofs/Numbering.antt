-- The declared atoms: kind by kind, and numbered from 0 by their places.
use Prim.Native.Nat.{ℕ, suc, ◌+◌, ◌*◌, ◌<◌}
use native.Mathlib.Omega.{arith}
use mathlib.Core.Path.{◌≡◌, refl, sym, ap, ap₂, ◌∙◌}
use mathlib.Core.List.{List, [], ◌∷◌, ◌++◌, map, map-map, map-append}
use mathlib.Core.Bool.{Bool, true, false, not}
use mathlib.Core.Logic.{and-true}
use lib.Dec.{T, leb→le, le→leb, eqb→eq}
use lib.ListN.{length, get_or, length-append, length-map}
use Rattle.kinds.specs.Limits.{class_limit, fixed}
use Rattle.rules.specs.Lists.{All, from}
use Rattle.rules.proofs.Booleans.{eq_to_eqb, T-not-in, T-not-out}
use Rattle.rules.proofs.Lists.{length_from, from_append}
use Rattle.stores.specs.Program.{Program}
use Rattle.pairing.specs.Atoms.{Atom, original, N, S, D, E, U, originals, class_word, is_minimised, is_unminimised, is_fixed, is_unfixed, minimised_atoms, unfixed_atoms, declared, atom_number}
use Rattle.pairing.specs.Loops.{below, beyond}
use Rattle.pairing.proofs.Quantified.{Each·simp}
use Rattle.rules.proofs.ListLaws.{shifted, map_eq, filter_first, first_part, found}
use Rattle.pairing.proofs.Fit.{Fit, Minimised}

not_not : (b : Bool) → not (not b) ≡ b
not_not true = refl
not_not false = refl

module _ (p : Program) where
  -- what holds of every declared atom
  pub record Declared (Q : Atom → Type 0) : Type 0 where
    pub originals : (a : ℕ) → a < p.atoms → Q (original a)
    pub Ns : (a : ℕ) → a < p.atoms → Q (N a)
    pub Ss : (a : ℕ) → a < p.atoms → T (is_unfixed p a) → Q (S a)
    pub Ds : (a : ℕ) → a < p.atoms → Minimised p a → Q (D a)
    pub Es : (j : ℕ) → j < suc p.classes → Q (E j)
    pub Us : Q U

  module _ (Q : Atom → Type 0) where
    pub to_declared : All Q (declared p) → Declared Q
    unfolding declared
    to_declared h =
        let q = simp (Each·simp, and-true) at h in
        record { originals = q.0; Ns = q.1.0; Ss = q.1.1.0; Ds = q.1.1.1.0; Es = q.1.1.1.1.0; Us = q.1.1.1.1.1 }

    pub of_declared : Declared Q → All Q (declared p)
    unfolding declared
    of_declared d = simp (Each·simp, and-true) (d.originals, (d.Ns, (d.Ss, (d.Ds, (d.Es, d.Us)))))

  -- the count of the declared atoms, run by run
  pub count : length (declared p) ≡ p.atoms + (p.atoms + (length (unfixed_atoms p) + (length (minimised_atoms p) + (suc p.classes + 1))))
  unfolding declared
  count = simp (length-append, length-map, length_from)

  module _ (fit : Fit p) where
    pub unfixed_first : unfixed_atoms p ≡ from 0 (length (unfixed_atoms p))
    unfixed_first = filter_first (is_unfixed p) 0 p.atoms (λ a b l m u t. T-not-in (is_fixed p a) (λ e.
        let w : class_word p a ≡ fixed = eqb→eq (class_word p a) fixed e in
        let n : b < p.atoms = omega arith in
        let r = fit.rising a b m n in
        let h = fit.high b n in
        T-not-out (is_fixed p b) t (eq_to_eqb (class_word p b) fixed (omega arith))))

    pub minimised_first : minimised_atoms p ≡ from 0 (length (minimised_atoms p))
    minimised_first = filter_first (is_minimised p) 0 p.atoms (λ a b l m u t.
        let w : Minimised p b = leb→le (class_word p b) class_limit t in
        le→leb (class_word p a) class_limit (omega (arith, fit.rising a b m (omega arith))))

    -- the minimised atoms are those below their count, and so are the unfixed ones

    pub minimised_below : (a : ℕ) → a < p.atoms → is_minimised p a ≡ below (length (minimised_atoms p)) a
    minimised_below = first_part (is_minimised p) p.atoms (length (minimised_atoms p)) minimised_first

    pub unminimised_beyond : (a : ℕ) → a < p.atoms → is_unminimised p a ≡ beyond (length (minimised_atoms p)) a
    unminimised_beyond a l = ap not (minimised_below a l)

    pub unfixed_below : (a : ℕ) → a < p.atoms → is_unfixed p a ≡ below (length (unfixed_atoms p)) a
    unfixed_below = first_part (is_unfixed p) p.atoms (length (unfixed_atoms p)) unfixed_first

    pub fixed_beyond : (a : ℕ) → a < p.atoms → is_fixed p a ≡ beyond (length (unfixed_atoms p)) a
    fixed_beyond a l = sym (not_not (is_fixed p a)) ∙ ap not (unfixed_below a l)

    -- a run of c atoms numbered from s, and what follows it
    run : (f : ℕ → Atom) (s : ℕ) (l : List ℕ) (c : ℕ) → ((a : ℕ) → atom_number p (f a) ≡ s + a) → l ≡ from 0 c → map (atom_number p) (map f l) ≡ from s c
    run f s l c h e =
        let k : s + 0 ≡ s = omega arith in
        map-map (atom_number p) f l ∙ map_eq (λ (a : ℕ). atom_number p (f a)) (λ (a : ℕ). s + a) h l ∙ ap (map (λ (a : ℕ). s + a)) e ∙ shifted s 0 c ∙ ap (λ (x : ℕ). from x c) k

    then : (xs ys : List Atom) (s c t d : ℕ) → s + c ≡ t → map (atom_number p) xs ≡ from s c → map (atom_number p) ys ≡ from t d → map (atom_number p) (xs ++ ys) ≡ from s (c + d)
    then xs ys s c t d j e f = map-append (atom_number p) xs ys ∙ ap₂ (λ (x y : List ℕ). x ++ y) e (f ∙ ap (λ (x : ℕ). from x d) (sym j)) ∙ from_append s c d

    pub order : map (atom_number p) (declared p) ≡ from 0 (length (declared p))
    unfolding declared
    order =
        let n = p.atoms in
        let k : ℕ = suc p.classes in
        let u : ℕ = length (unfixed_atoms p) in
        let m : ℕ = length (minimised_atoms p) in
        then (map original (originals p)) _ 0 n n (n + (u + (m + (k + 1)))) (omega arith) (run original 0 (originals p) n (λ a. omega arith) refl)
        (then (map N (originals p)) _ n n (2 * n) (u + (m + (k + 1))) (omega arith) (run N n (originals p) n (λ a. refl) refl)
        (then (map S (unfixed_atoms p)) _ (2 * n) u (2 * n + u) (m + (k + 1)) refl (run S (2 * n) (unfixed_atoms p) u (λ a. refl) unfixed_first)
        (then (map D (minimised_atoms p)) _ (2 * n + u) m (2 * n + u + m) (k + 1) refl (run D (2 * n + u) (minimised_atoms p) m (λ a. refl) minimised_first)
        (then (map E (from 0 k)) (U ∷ []) (2 * n + u + m) k (2 * n + u + m + k) 1 refl (run E (2 * n + u + m) (from 0 k) k (λ a. refl) refl) refl))))
        ∙ ap (from 0) (sym count)

    -- the atom with a number
    pub known : All (λ c. get_or (declared p) (atom_number p c) U ≡ c) (declared p)
    known = found (atom_number p) U [] (declared p) order
