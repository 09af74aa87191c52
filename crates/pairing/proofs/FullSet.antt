-- The set that a preferred set pairs with: the set itself, N. of the atoms outside it, and every S., D., E. and U.
use Prim.Native.Nat.{ℕ, suc, ◌<◌}
use mathlib.Core.Path.{◌≡◌, sym}
use mathlib.Core.Bool.{Bool, true, not}
use mathlib.Core.Logic.{◌↔◌}
use lib.Dec.{T}
use Rattle.rules.specs.Lists.{All}
use Rattle.rules.specs.Sets.{In, Out}
use Rattle.rules.proofs.Booleans.{T_of, T-not-in, T-not-out, bool_ext}
use Rattle.stores.specs.Program.{Program}
use Rattle.pairing.specs.Atoms.{Atom, original, N, S, D, E, U, is_unfixed, declared}
use Rattle.pairing.proofs.Fit.{Minimised}
use Rattle.pairing.proofs.Numbering.{to_declared, of_declared}

-- t is the full set over m
pub record Full (p : Program) (m : ℕ → Bool) (t : Atom → Bool) : Type 0 where
  pub originals : (a : ℕ) → a < p.atoms → In t (original a) ↔ In m a
  pub Ns : (a : ℕ) → a < p.atoms → In t (N a) ↔ Out m a
  pub Ss : (a : ℕ) → a < p.atoms → T (is_unfixed p a) → In t (S a)
  pub Ds : (a : ℕ) → a < p.atoms → Minimised p a → In t (D a)
  pub Es : (j : ℕ) → j < suc p.classes → In t (E j)
  pub Us : In t U

abbrev pub full : (ℕ → Bool) → Atom → Bool
full m (original a) = m a
full m (N a) = not (m a)
full m (S a) = true
full m (D a) = true
full m (E j) = true
full m U = true

module _ (p : Program) (m : ℕ → Bool) where
  pub full_set : (t : Atom → Bool) → All (λ c. t c ≡ full m c) (declared p) → Full p m t
  full_set t h =
      let d = to_declared p (λ c. t c ≡ full m c) h in
      record {
        originals = λ a l. (T_of (d.originals a l), T_of (sym (d.originals a l)));
        Ns = λ a l. (λ k. T-not-out (m a) (T_of (d.Ns a l) k), λ k. T_of (sym (d.Ns a l)) (T-not-in (m a) k));
        Ss = λ a l u. T_of (sym (d.Ss a l u)) tt;
        Ds = λ a l c. T_of (sym (d.Ds a l c)) tt;
        Es = λ j l. T_of (sym (d.Es j l)) tt;
        Us = T_of (sym d.Us) tt;
      }

  -- there is only one full set over m
  pub one_full : (t u : Atom → Bool) → Full p m t → Full p m u → All (λ c. t c ≡ u c) (declared p)
  one_full t u f g = of_declared p (λ c. t c ≡ u c) (record {
    originals = λ a l. bool_ext (t (original a)) (u (original a)) (λ h. (g.originals a l).1 ((f.originals a l).0 h)) (λ h. (f.originals a l).1 ((g.originals a l).0 h));
    Ns = λ a l. bool_ext (t (N a)) (u (N a)) (λ h. (g.Ns a l).1 ((f.Ns a l).0 h)) (λ h. (f.Ns a l).1 ((g.Ns a l).0 h));
    Ss = λ a l k. bool_ext (t (S a)) (u (S a)) (λ h. g.Ss a l k) (λ h. f.Ss a l k);
    Ds = λ a l c. bool_ext (t (D a)) (u (D a)) (λ h. g.Ds a l c) (λ h. f.Ds a l c);
    Es = λ j l. bool_ext (t (E j)) (u (E j)) (λ h. g.Es j l) (λ h. f.Es j l);
    Us = bool_ext (t U) (u U) (λ h. g.Us) (λ h. f.Us);
  })
