use borrow.Author.Tests.{eq-eqb, ne_eqb}
use Rattle.lines.proofs.scan.is_delimiter.Goals as goal

pub returns-then-b-eq32 : goal.returns-then-b-eq32
returns-then-b-eq32 c = simp (eq-eqb _ _ c.if-b-eq32.true)

pub returns-then-b-eq40 : goal.returns-then-b-eq40
returns-then-b-eq40 c = simp (ne_eqb _ _ c.if-b-eq32.false, eq-eqb _ _ c.if-b-eq40.true)

pub returns-then-b-eq41 : goal.returns-then-b-eq41
returns-then-b-eq41 c = simp (ne_eqb _ _ c.if-b-eq32.false, ne_eqb _ _ c.if-b-eq40.false, eq-eqb _ _ c.if-b-eq41.true)

pub returns-then-b-eq59 : goal.returns-then-b-eq59
returns-then-b-eq59 c = simp (ne_eqb _ _ c.if-b-eq32.false, ne_eqb _ _ c.if-b-eq40.false, ne_eqb _ _ c.if-b-eq41.false, eq-eqb _ _ c.if-b-eq59.true)

pub returns-else-b-eq59 : goal.returns-else-b-eq59
returns-else-b-eq59 c = simp (ne_eqb _ _ c.if-b-eq32.false, ne_eqb _ _ c.if-b-eq40.false, ne_eqb _ _ c.if-b-eq41.false, ne_eqb _ _ c.if-b-eq59.false)
