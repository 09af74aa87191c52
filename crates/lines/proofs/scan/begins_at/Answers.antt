use mathlib.Core.Path.{ap, ◌∙◌}
use lib.ListN.{length, take}
use Rattle.name_store.specs.NameStore.{same_bytes}
use Rattle.name_store.proofs.NameStores.{same_sym}
use Rattle.name_store.proofs.ByteLoops.{same_pairs}
use Rattle.lines.proofs.Scanning.{rest_is}
use Rattle.lines.proofs.scan.begins_at.Goals as goal

pub returns : goal.returns
returns c =
    let tag = c.args.tag.now in
    c.starts_with.ensures.value ∙ same_pairs tag _ ∙ same_sym tag _ ∙ ap (λ t. same_bytes (take (length tag) t) tag) (rest_is c.args.s.now c.args.at)
