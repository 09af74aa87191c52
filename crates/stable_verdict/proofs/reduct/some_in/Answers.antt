use Prim.Native.Nat.{◌<◌}
use borrow.Author.Rules.{rules}
use Rattle.std.proofs.lemmas.Iterator.{YieldsList-from_slice}
use Rattle.std.proofs.lemmas.Iterator.Adapters.{serves_from_places}
use Rattle.kinds.specs.Limits.{walk_atoms}
use Rattle.rules.proofs.Lists.{all_at}
use Rattle.stable_verdict.proofs.reduct.some_in.Goals as goal

pub any-requires-clause-callable : goal.any-requires-clause-callable
any-requires-clause-callable c = serves_from_places (YieldsList-from_slice c.args.atoms.now c.iter.ensures.rest) (λ x q h. search rules) (λ x k l e. let z : x.now < walk_atoms = rw e (all_at (λ a. a < walk_atoms) x.now c.args.atoms.now c.requires k l) in search rules)
