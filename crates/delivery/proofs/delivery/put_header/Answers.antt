use mathlib.Core.Path.{ap}
use mathlib.Core.List.{[], ◌∷◌}
use Rattle.output.proofs.Emitting.{then, renamed}
use Rattle.delivery.proofs.delivery.put_header.Goals as goal

pub returns : goal.returns
returns c =
    let g = c.args.gathered in
    renamed (then c.push-second.ensures (then c.push-third.ensures (then c.push-fourth.ensures c.push.ensures))) (ap (λ k. k ∷ g.counts.atoms ∷ g.classes ∷ g.counts.rules ∷ []) c.kind_word.ensures)
