use Rattle.writer.proofs.StoreTests.{refusal_is}
use Rattle.std.proofs.lemmas.Result.{err_from_is_err_and}
use Rattle.translation.proofs.Translating.{no_store, plain_store, store_here, no_names, names_here, answered}
use Rattle.translated.proofs.FileStore.{few_atoms, long}
use Rattle.std.specs.Prelude.{Some}
use mathlib.Core.Path.{sym, ap, ◌∙◌}
use native.Mathlib.Omega.{arith}
use borrow.Author.Rules.{rules}
use Rattle.translation.proofs.translate.Goals as goal

pub returns-in_err-kind : goal.returns-in_err-kind
returns-in_err-kind c =
    let p = err_from_is_err_and c.from_residual.result c.from_residual.ensures.1 in
    let r = no_store _ _ _ (sym c.check_rules.ensures ∙ c.in_err-kind.ensures.ok_part) in
    rw (p.1, p.2, refusal_is c.in_err-kind.ensures.value c.in_err-kind.ensures.ok_part)
    (record {
      answer = r.0;
      output = r.1;
    })

pub returns-in_default : goal.returns-in_default
returns-in_default c =
    let r = plain_store _ _ _ (sym c.check_rules.ensures ∙ c.in_ok-kind.ensures.ok_part ∙ ap Some c.in_default.is) in
    record {
      answer = r.0;
      output = r.1;
    }

pub bounds-rules-1 : goal.bounds-rules-1
bounds-rules-1 c = omega (arith, long (store_here c.args.rules.now c.args.names.now c.args.out.now (sym c.check_rules.ensures ∙ c.in_ok-kind.ensures.ok_part ∙ ap Some c.in-Preference.is)))

pub overflow_cast-atoms : goal.overflow_cast-atoms
overflow_cast-atoms c = omega (arith, few_atoms (store_here c.args.rules.now c.args.names.now c.args.out.now (sym c.check_rules.ensures ∙ c.in_ok-kind.ensures.ok_part ∙ ap Some c.in-Preference.is)))

pub check_names-requires : goal.check_names-requires
check_names-requires c = omega (arith, few_atoms (store_here c.args.rules.now c.args.names.now c.args.out.now (sym c.check_rules.ensures ∙ c.in_ok-kind.ensures.ok_part ∙ ap Some c.in-Preference.is)))

pub returns-then-not-check_names : goal.returns-then-not-check_names
returns-then-not-check_names c =
    let r = no_names c.args.rules.now c.args.names.now c.args.out.now (sym c.check_rules.ensures ∙ c.in_ok-kind.ensures.ok_part ∙ ap Some c.in-Preference.is) _ c.check_names.ensures c.if-not-check_names.true in
    record {
      answer = r.0;
      output = r.1;
    }

pub translate_checked-requires : goal.translate_checked-requires
translate_checked-requires c = (store_here c.args.rules.now c.args.names.now c.args.out.now (sym c.check_rules.ensures ∙ c.in_ok-kind.ensures.ok_part ∙ ap Some c.in-Preference.is), names_here c.args.rules.now c.args.names.now c.args.out.now (sym c.check_rules.ensures ∙ c.in_ok-kind.ensures.ok_part ∙ ap Some c.in-Preference.is) _ c.check_names.ensures c.if-not-check_names.false)

pub returns : goal.returns
returns c =
    let r = answered c.args.rules.now c.args.names.now c.args.out.now (sym c.check_rules.ensures ∙ c.in_ok-kind.ensures.ok_part ∙ ap Some c.in-Preference.is) _ c.check_names.ensures c.if-not-check_names.false (c.translate_checked.ensures.answer, c.translate_checked.ensures.output) in
    record {
      answer = r.0;
      output = r.1;
    }
