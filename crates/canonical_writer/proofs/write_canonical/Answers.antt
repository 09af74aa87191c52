use Rattle.std.proofs.lemmas.Result.{err_from_is_err_and}
use Rattle.canonical_writer.proofs.WritingCanonical.{no_store, no_names, answered}
use Rattle.writer.proofs.StoreTests.{refusal_is, store_here, atoms_fit, names_here}
use Rattle.text.proofs.TextParts.{store_header}
use mathlib.Core.Path.{sym, ◌∙◌}
use native.Mathlib.Omega.{arith}
use borrow.Author.Rules.{rules}
use Rattle.canonical_writer.proofs.write_canonical.Goals as goal

pub returns-in_err-kind : goal.returns-in_err-kind
returns-in_err-kind c =
    let p = err_from_is_err_and c.from_residual.result c.from_residual.ensures.1 in
    let r = no_store _ _ _ (sym c.check_rules.ensures ∙ c.in_err-kind.ensures.ok_part) in
    rw (p.1, p.2, refusal_is c.in_err-kind.ensures.value c.in_err-kind.ensures.ok_part)
    (record {
      answer = r.0;
      output = r.1;
    })

pub bounds-rules-1 : goal.bounds-rules-1
bounds-rules-1 c = omega (arith, store_header (store_here c.args.rules.now _ (sym c.check_rules.ensures ∙ c.in_ok-kind.ensures.ok_part)))

pub overflow_cast-atoms : goal.overflow_cast-atoms
overflow_cast-atoms c = omega (arith, atoms_fit c.args.rules.now _ (sym c.check_rules.ensures ∙ c.in_ok-kind.ensures.ok_part))

pub check_names-requires : goal.check_names-requires
check_names-requires c = atoms_fit c.args.rules.now _ (sym c.check_rules.ensures ∙ c.in_ok-kind.ensures.ok_part)

pub returns-then-not-check_names : goal.returns-then-not-check_names
returns-then-not-check_names c =
    let r = no_names _ _ _ _ (sym c.check_rules.ensures ∙ c.in_ok-kind.ensures.ok_part) _ c.check_names.ensures c.if-not-check_names.true in
    record {
      answer = r.0;
      output = r.1;
    }

pub write_by-requires : goal.write_by-requires
write_by-requires c = (store_here c.args.rules.now _ (sym c.check_rules.ensures ∙ c.in_ok-kind.ensures.ok_part), names_here c.args.rules.now _ (sym c.check_rules.ensures ∙ c.in_ok-kind.ensures.ok_part) c.args.names.now _ c.check_names.ensures c.if-not-check_names.false, omega arith)

pub returns : goal.returns
returns c =
    let r = answered c.args.rules.now c.args.names.now c.args.out.now _ (sym c.check_rules.ensures ∙ c.in_ok-kind.ensures.ok_part) _ c.check_names.ensures c.if-not-check_names.false (c.write_by.ensures.answer, c.write_by.ensures.output) in
    record {
      answer = r.0;
      output = r.1;
    }
