use Rattle.std.proofs.Common.{arith, ℕ, ◌/◌, ◌-◌, ◌^◌, ap, sym, ◌∙◌}
use Rattle.places.specs.Places.{place}
use Rattle.places.proofs.Places.{place_zero}
use Rattle.places.proofs.TurnedSets.{reversed_place}
use Rattle.places.proofs.turning.turned.Goals as goal

pub returns-then-atoms-eq0 : goal.returns-then-atoms-eq0
returns-then-atoms-eq0 c = sym (place_zero c.args.number) ∙ ap (λ (n : ℕ). place n c.args.number) (sym c.if-atoms-eq0.true)

pub returns : goal.returns
returns c = ap (λ (r : ℕ). r / 2 ^ (64 - c.args.atoms)) c.reverse_bits.ensures ∙ reversed_place c.args.atoms c.args.number (omega arith)
