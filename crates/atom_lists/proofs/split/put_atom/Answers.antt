use Rattle.pairing.specs.Loops.{below}
use Rattle.atom_lists.proofs.Splitting.{cond_le}
use Prim.Native.Nat.{ℕ, ◌+◌}
use mathlib.Core.List.{[], ◌∷◌}
use mathlib.Core.Path.{refl, ap, ap₂, ◌∙◌}
use native.Mathlib.Omega.{arith}
use lib.Seq.{sets}
use Rattle.atom_lists.proofs.split.put_atom.Goals as goal

pub overflow_add-word : goal.overflow_add-word
overflow_add-word c = omega (arith, c.chosen.ensures, cond_le (below c.args.split.end c.args.atom) c.requires.1 c.requires.2, c.requires.0)

pub overflow_cast-word-2 : goal.overflow_cast-word-2
overflow_cast-word-2 c = omega (arith, c.chosen.ensures, cond_le (below c.args.split.end c.args.atom) c.requires.1 c.requires.2, c.requires.0)

pub returns : goal.returns
returns c =
    record {
      value = refl;
      out_after = c.push.ensures.bytes ∙ ap₂ (λ (k w : ℕ). sets c.args.out.now k (w ∷ [])) c.chosen-place.ensures (ap (λ (s : ℕ). s + c.args.atom) c.chosen.ensures);
    }
