use Rattle.clause_items.proofs.Gaps.{from_inside}
use Rattle.clause_items.proofs.HeaderLaws.{no_atoms, numbered, unnumbered, lacks_clauses, has_more, has_two}
use Rattle.clause_items.proofs.header.header_numbers.Goals as goal

pub number_at-requires : goal.number_at-requires
number_at-requires c = from_inside _ _ c.skip.ensures c.requires

pub returns-in_err-first : goal.returns-in_err-first
returns-in_err-first c = rw c.from_residual.ensures (no_atoms _ (unnumbered _ _ c.skip.ensures c.number_at.ensures c.in_err-first.was))

pub skip-requires-2 : goal.skip-requires-2
skip-requires-2 c = (numbered _ _ c.skip.ensures c.number_at.ensures c.in_ok-first.was).first.inside

pub number_at-requires-2 : goal.number_at-requires-2
number_at-requires-2 c = from_inside _ _ c.skip-2.ensures (numbered _ _ c.skip.ensures c.number_at.ensures c.in_ok-first.was).first.inside

pub returns-in_err-second : goal.returns-in_err-second
returns-in_err-second c = let a = numbered _ _ c.skip.ensures c.number_at.ensures c.in_ok-first.was in rw c.from_residual-in_err-second.ensures (lacks_clauses a (unnumbered _ _ c.skip-2.ensures c.number_at-2.ensures c.in_err-second.was))

pub skip-requires-3 : goal.skip-requires-3
skip-requires-3 c = (numbered _ _ c.skip-2.ensures c.number_at-2.ensures c.in_ok-second.was).first.inside

pub returns-then-skip-line : goal.returns-then-skip-line
returns-then-skip-line c = let a = numbered _ _ c.skip.ensures c.number_at.ensures c.in_ok-first.was in has_more a (numbered _ _ c.skip-2.ensures c.number_at-2.ensures c.in_ok-second.was) c.skip-3.ensures c.if-skip-line.true

pub returns : goal.returns
returns c = let a = numbered _ _ c.skip.ensures c.number_at.ensures c.in_ok-first.was in has_two a (numbered _ _ c.skip-2.ensures c.number_at-2.ensures c.in_ok-second.was) c.skip-3.ensures c.if-skip-line.false
