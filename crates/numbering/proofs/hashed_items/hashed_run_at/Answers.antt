use mathlib.Core.Path.{sym, ◌∙◌}
use Rattle.numbering.proofs.HashedNames.{hashing, hash_out, hash_ends, hash_goes_on}
use Rattle.numbering.proofs.hashed_items.hashed_run_at.Goals as goal

pub loop-i-init : goal.loop-i-init
loop-i-init c = hashing _ _ c.requires

pub returns-then-is_delimiter : goal.returns-then-is_delimiter
returns-then-is_delimiter c = hash_ends c.loop-i.invariant c.args.gap c.loop-i-test.true (sym c.is_delimiter.ensures ∙ c.if-is_delimiter.true)

pub hash_step-hash-requires : goal.hash_step-hash-requires
hash_step-hash-requires c = c.loop-i.invariant.small

pub loop-i-preserved : goal.loop-i-preserved
loop-i-preserved c = hash_goes_on c.loop-i.invariant c.args.gap c.loop-i-test.true (sym c.is_delimiter.ensures ∙ c.if-is_delimiter.false) c.hash_step-hash.ensures

pub returns : goal.returns
returns c = hash_out c.loop-i.invariant c.args.gap c.loop-i-test.false
