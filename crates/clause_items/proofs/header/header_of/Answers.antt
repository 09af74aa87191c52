use Prim.Native.Nat.{zero-le}
use native.Mathlib.Omega.{arith}
use mathlib.Core.Path.{refl, sym, ap, ◌∙◌}
use Rattle.kinds.specs.Words.{bytes}
use Rattle.name_store.specs.NameStore.{same_bytes}
use Rattle.clauses.specs.Faults.{header_line}
use Rattle.clause_items.proofs.FirstItems.{first_fails, first_word}
use Rattle.clause_items.proofs.Gaps.{from_inside}
use Rattle.clause_items.proofs.HeaderLaws.{no_p, no_cnf, words_line, no_header}
use Rattle.clause_items.specs.Found.{numbers_step}
use Rattle.std.proofs.lemmas.Result.{err_from_is_err_and}
use Rattle.clause_items.proofs.header.header_of.Goals as goal

pub is_word-requires : goal.is_word-requires
is_word-requires c = (from_inside _ 0 c.skip-first.ensures zero-le, refl)

pub returns-then-not-is_word : goal.returns-then-not-is_word
returns-then-not-is_word c = no_p _ (first_fails _ 0 c.skip-first.ensures (λ x. same_bytes x (bytes "p")) (sym c.is_word.ensures ∙ c.if-not-is_word.true))

pub overflow_add-first : goal.overflow_add-first
overflow_add-first c = omega (arith, (first_word _ 0 c.skip-first.ensures (bytes "p") (omega arith) c.is_word.ensures c.if-not-is_word.false).inside)

pub skip-second-requires : goal.skip-second-requires
skip-second-requires c = (first_word _ 0 c.skip-first.ensures (bytes "p") (omega arith) c.is_word.ensures c.if-not-is_word.false).inside

pub is_word-requires-2 : goal.is_word-requires-2
is_word-requires-2 c = (from_inside _ _ c.skip-second.ensures (first_word _ 0 c.skip-first.ensures (bytes "p") (omega arith) c.is_word.ensures c.if-not-is_word.false).inside, refl)

pub returns-then-not-is_word-2 : goal.returns-then-not-is_word-2
returns-then-not-is_word-2 c = let p = first_word _ 0 c.skip-first.ensures (bytes "p") (omega arith) c.is_word.ensures c.if-not-is_word.false in ap header_line p.items_are ∙ no_cnf _ (first_fails _ _ c.skip-second.ensures (λ x. same_bytes x (bytes "cnf")) (sym c.is_word-2.ensures ∙ c.if-not-is_word-2.true))

pub overflow_add-second : goal.overflow_add-second
overflow_add-second c = omega (arith, (first_word _ _ c.skip-second.ensures (bytes "cnf") (omega arith) c.is_word-2.ensures c.if-not-is_word-2.false).inside)

pub header_numbers-requires : goal.header_numbers-requires
header_numbers-requires c = (first_word _ _ c.skip-second.ensures (bytes "cnf") (omega arith) c.is_word-2.ensures c.if-not-is_word-2.false).inside

pub returns-in_err-header : goal.returns-in_err-header
returns-in_err-header c =
    let p = err_from_is_err_and c.from_residual.result c.from_residual.ensures.1 in
    let b = first_word _ 0 c.skip-first.ensures (bytes "p") (omega arith) c.is_word.ensures c.if-not-is_word.false in
    rw (p.1, p.2) (words_line b (first_word _ _ c.skip-second.ensures (bytes "cnf") (omega arith) c.is_word-2.ensures c.if-not-is_word-2.false) ∙ c.header_numbers.ensures ∙ no_header _ c.in_err-header.ensures.value)

pub returns : goal.returns
returns c =
    let b = first_word _ 0 c.skip-first.ensures (bytes "p") (omega arith) c.is_word.ensures c.if-not-is_word.false in
    words_line b (first_word _ _ c.skip-second.ensures (bytes "cnf") (omega arith) c.is_word-2.ensures c.if-not-is_word-2.false)
    ∙ c.header_numbers.ensures
    ∙ ap numbers_step c.in_ok-header.ensures.ok_part
    ∙ c.header_within.ensures
