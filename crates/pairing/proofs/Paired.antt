-- The pairing: the preferred sets of a preference program are the stable sets of its translation, cut down, each from just one.
use Prim.Native.Nat.{ℕ, ◌^◌, ◌<◌}
use native.Mathlib.Nat.{mod-lt}
use mathlib.Core.Path.{◌≡◌, refl, sym, ap, ◌∙◌}
use mathlib.Core.Bool.{Bool}
use mathlib.Core.Logic.{◌↔◌}
use lib.Pow.{pow_pos}
use lib.ListN.{length}
use Rattle.kinds.specs.declared.limits.Kind.TheVariants.{Preference}
use Rattle.rules.specs.Lists.{All}
use Rattle.rules.specs.Sets.{has, cut}
use Rattle.rules.specs.Stable.{Stable}
use Rattle.rules.specs.Preferred.{Preferred}
use Rattle.rules.proofs.Sets.{same_set, cut_has}
use Rattle.stores.specs.Program.{Program, ProgramForm}
use Rattle.pairing.specs.Atoms.{Atom, U, declared, atom_number}
use Rattle.pairing.specs.Steps.{translation}
use Rattle.pairing.specs.Translated.{translated, translated_rules}
use Rattle.pairing.proofs.Fit.{Fit, fit_of}
use Rattle.pairing.proofs.Numbering.{to_declared, order}
use Rattle.pairing.proofs.NumberedSets.{set_of, set_lt, set_has}
use Rattle.pairing.proofs.Renamed.{StableOver, same, stable_up, stable_down}
use Rattle.pairing.proofs.Closed.{closed}
use Rattle.pairing.proofs.FullSet.{Full, full, full_set, one_full}
use Rattle.pairing.proofs.StablePreferred.{is_full_lem, stable_preferred}
use Rattle.pairing.proofs.PreferredStable.{preferred_stable}

module _ (p : Program) (kind : p.kind ≡ Preference) (form : ProgramForm p) where
  fit : Fit p
  fit = fit_of p kind form

  at : ℕ → Atom → Bool
  at t c = has t (atom_number p c)

  stable_at : (t : ℕ) → Stable (translated p).rules t → StableOver (declared p) (translation p) (at t)
  unfolding translated_rules at
  stable_at t st = stable_up (declared p) (translation p) (closed p fit) (atom_number p) U (order p fit) t st

  cut_same : (t s a : ℕ) → cut p.atoms t ≡ s → a < p.atoms → has t a ≡ has s a
  cut_same t s a e l = sym (cut_has t p.atoms a l) ∙ ap (λ (y : ℕ). has y a) e

  full_at : (t s : ℕ) → Stable (translated p).rules t → cut p.atoms t ≡ s → Full p (has s) (at t)
  unfolding at
  full_at t s st e = is_full_lem p fit (at t) (stable_at t st) s (λ a l. cut_same t s a e l)

  pub paired : (s : ℕ) → s < 2 ^ p.atoms
      → Preferred p.words p.rules s ↔ ((t : ℕ) × (t < 2 ^ (translated p).atoms) × Stable (translated p).rules t × (cut p.atoms t ≡ s))
  unfolding translated_rules at
  paired s ls = (there, λ q. stable_preferred p fit (at q.0) (stable_at q.0 q.2) s (λ a l. cut_same q.0 s a q.3 l))
    where
      t : ℕ
      t = set_of (atom_number p) U (declared p) (order p fit) (full (has s))

      lt : t < 2 ^ length (declared p)
      lt = set_lt (atom_number p) U (declared p) (order p fit) (full (has s))

      same_at : All (λ c. at t c ≡ full (has s) c) (declared p)
      same_at = set_has (atom_number p) U (declared p) (order p fit) (full (has s))

      there : Preferred p.words p.rules s → (t : ℕ) × (t < 2 ^ (translated p).atoms) × Stable (translated p).rules t × (cut p.atoms t ≡ s)
      there h = (
        t,
        lt,
        stable_down (declared p) (translation p) (closed p fit) (atom_number p) U (order p fit) t lt (preferred_stable p fit s h (at t) (full_set p (has s) (at t) same_at)),
        same_set p.atoms (cut p.atoms t) s (mod-lt t (pow_pos p.atoms)) ls (λ i l. cut_has t p.atoms i l ∙ (to_declared p (λ c. at t c ≡ full (has s) c) same_at).originals i l),
      )

  pub only_one : (t u : ℕ) → t < 2 ^ (translated p).atoms → u < 2 ^ (translated p).atoms → Stable (translated p).rules t → Stable (translated p).rules u → cut p.atoms t ≡ cut p.atoms u → t ≡ u
  unfolding at
  only_one t u lt lu st su e = same (declared p) (translation p) (closed p fit) (atom_number p) U (order p fit) t u lt lu
      (one_full p (has (cut p.atoms u)) (at t) (at u) (full_at t (cut p.atoms u) st e) (full_at u (cut p.atoms u) su refl))
