-- What a reader answers and leaves in its outputs, from what its text says.
use Prim.Native.Nat.{ℕ}
use mathlib.Core.Path.{◌≡◌, refl, sym}
use mathlib.Core.List.{List}
use lib.ListN.{length}
use Rattle.std.specs.Prelude.{Result, Err}
use Rattle.kinds.specs.declared.refusals.Refusal.{Refusal}
use Rattle.stores.specs.Program.{Program}
use Rattle.lines.specs.Said.{Said, accepted, refused}
use Rattle.answers.specs.declared.ReadSizes.{ReadSizes}
use Rattle.answers.specs.declared.ReadRefusal.{ReadRefusal}
use Rattle.answers.specs.Reading.{read_refusal, answer_of, rules_after, names_after}
use Rattle.delivery.specs.Delivered.{Delivered}

module _ (s : Said) (rules names : List ℕ) where
  pub refused_as : {f : Refusal} {k : ℕ} → s ≡ refused f k → (Err (read_refusal f k) ≡ answer_of s (length rules) (length names)) × ((rules ≡ rules_after s rules names) × (names ≡ names_after s rules names))
  refused_as e = rw e (refl, (refl, refl))

  pub delivered_as : {p : Program} {ns : List (List ℕ)} → s ≡ accepted p ns → {rules' names' : List ℕ} {r : Result ReadSizes ReadRefusal} → Delivered p ns rules names rules' names' r
      → (r ≡ answer_of s (length rules) (length names)) × ((rules' ≡ rules_after s rules names) × (names' ≡ names_after s rules names))
  delivered_as e d = rw e (d.answer, (rw (sym d.answer) d.rules_after_holds, rw (sym d.answer) d.names_after_holds))
