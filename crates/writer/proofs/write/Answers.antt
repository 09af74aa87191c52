use Rattle.std.proofs.lemmas.Result.{err_from_is_err_and}
use Rattle.writer.proofs.StoreTests.{refusal_is, store_here, atoms_fit}
use Rattle.writer.proofs.Writing.{no_store, no_names, found_length, found_inside, found_sources, answered}
use Rattle.text.proofs.TextParts.{store_header}
use mathlib.Core.Path.{refl, sym, ◌∙◌}
use native.Mathlib.Omega.{arith}
use Rattle.writer.proofs.write.Goals as goal

pub returns-in_err-kind : goal.returns-in_err-kind
returns-in_err-kind c =
    let p = err_from_is_err_and c.from_residual.result c.from_residual.ensures.1 in
    let r = no_store _ _ _ (sym c.check_rules.ensures ∙ c.in_err-kind.ensures.ok_part) in
    rw (p.1, p.2, refusal_is c.in_err-kind.ensures.value c.in_err-kind.ensures.ok_part)
    (record {
      answer = r.0;
      output = r.1;
    })

pub bounds-rules-1 : goal.bounds-rules-1
bounds-rules-1 c = omega (arith, store_header (store_here c.args.rules.now _ (sym c.check_rules.ensures ∙ c.in_ok-kind.ensures.ok_part)))

pub index_names-requires : goal.index_names-requires
index_names-requires c = (atoms_fit c.args.rules.now _ (sym c.check_rules.ensures ∙ c.in_ok-kind.ensures.ok_part), atoms_fit c.args.rules.now _ (sym c.check_rules.ensures ∙ c.in_ok-kind.ensures.ok_part), refl, atoms_fit c.args.rules.now _ (sym c.check_rules.ensures ∙ c.in_ok-kind.ensures.ok_part))

pub returns-then-not-index_names : goal.returns-then-not-index_names
returns-then-not-index_names c =
    let r = no_names _ _ _ _ (sym c.check_rules.ensures ∙ c.in_ok-kind.ensures.ok_part) _ c.index_names.ensures.value c.if-not-index_names.true in
    record {
      answer = r.0;
      output = r.1;
    }

pub slice_bounds-starts-end : goal.slice_bounds-starts-end
slice_bounds-starts-end c = found_inside c.args.rules.now c.args.names.now c.args.out.now _ (sym c.check_rules.ensures ∙ c.in_ok-kind.ensures.ok_part) _ c.index_names.ensures.value c.if-not-index_names.false (c.index_names.ensures.indexed c.if-not-index_names.false)

pub slice_bounds-placed-end : goal.slice_bounds-placed-end
slice_bounds-placed-end c = sym (found_length c.args.rules.now c.args.names.now c.args.out.now _ (sym c.check_rules.ensures ∙ c.in_ok-kind.ensures.ok_part) _ c.index_names.ensures.value c.if-not-index_names.false (c.index_names.ensures.indexed c.if-not-index_names.false))

pub invariant_of-placed : goal.invariant_of-placed
invariant_of-placed c = record { placed = (found_sources c.args.rules.now c.args.names.now c.args.out.now _ (sym c.check_rules.ensures ∙ c.in_ok-kind.ensures.ok_part) _ c.index_names.ensures.value c.if-not-index_names.false (c.index_names.ensures.indexed c.if-not-index_names.false)).placed }

pub write_text-requires : goal.write_text-requires
write_text-requires c = found_sources c.args.rules.now c.args.names.now c.args.out.now _ (sym c.check_rules.ensures ∙ c.in_ok-kind.ensures.ok_part) _ c.index_names.ensures.value c.if-not-index_names.false (c.index_names.ensures.indexed c.if-not-index_names.false)

pub returns : goal.returns
returns c =
    let r = answered c.args.rules.now c.args.names.now c.args.out.now _ (sym c.check_rules.ensures ∙ c.in_ok-kind.ensures.ok_part) _ c.index_names.ensures.value c.if-not-index_names.false (c.index_names.ensures.indexed c.if-not-index_names.false) (c.write_text.ensures.answer, c.write_text.ensures.output) in
    record {
      answer = r.0;
      output = r.1;
    }
