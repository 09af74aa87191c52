use Rattle.std.specs.Option.{ok_or}
use Rattle.std.specs.Prelude.{Option}
use Rattle.std.proofs.lemmas.Result.{err_from_is_err_and}
use Rattle.kinds.specs.declared.limits.Kind.{Kind}
use Rattle.kinds.specs.declared.refusals.Refusal.TheVariants.{RuleStore}
use Rattle.flipping.proofs.FlipFaults.{no_store}
use native.Mathlib.Omega.{arith}
use Rattle.stores.proofs.RuleStores.{of_kind_lem}
use mathlib.Core.Path.{◌≡◌, ap, sym, ◌∙◌}
use Rattle.flipping.proofs.flip.Goals as goal

pub returns-in_err-kind : goal.returns-in_err-kind
returns-in_err-kind c =
    let p = err_from_is_err_and c.from_residual.result c.from_residual.ensures.1 in
    let v = c.in_err-kind.ensures.value ∙ ap (λ (o : Option Kind). ok_or o RuleStore) c.in_err-kind.ensures.ok_part in
    let f : c.in_err-kind.field-0.0 ≡ RuleStore = cc v in
    let r = no_store c.args.rules.now c.args.index.now c.args.list.now c.args.set c.args.atom c.args.out.now (sym c.check_rules.ensures ∙ c.in_err-kind.ensures.ok_part) in
    record {
      answer = rw (p.1, p.2, f) r.0;
      output = r.1;
    }

pub header_of-header-requires : goal.header_of-header-requires
header_of-header-requires c = of_kind_lem c.args.rules.now _ (sym c.check_rules.ensures ∙ c.in_ok-kind.ensures.ok_part)

pub flip_with-requires : goal.flip_with-requires
flip_with-requires c =
    record {
      store_of = ((of_kind_lem c.args.rules.now _ (sym c.check_rules.ensures ∙ c.in_ok-kind.ensures.ok_part)).0, c.header_of-header.ensures);
      rule_limit_in_bounds = (omega arith, omega arith);
    }
