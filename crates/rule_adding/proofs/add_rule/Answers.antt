use Rattle.std.specs.Option.{ok_or}
use Rattle.std.specs.Prelude.{Option}
use Rattle.std.proofs.lemmas.Result.{err_from_is_err_and}
use Rattle.kinds.specs.declared.limits.Kind.{Kind}
use Rattle.kinds.specs.declared.refusals.Refusal.TheVariants.{RuleStore}
use Rattle.rule_adding.proofs.AddAnswers.{checked, no_store, no_fit, no_index, addable, added}
use Rattle.stores.proofs.RuleStores.{of_kind_lem}
use mathlib.Core.Path.{◌≡◌, sym, ◌∙◌}
use mathlib.Core.Path.{ap}
use mathlib.Core.Bool.{not}
use Rattle.rule_adding.proofs.add_rule.Goals as goal

pub returns-in_err-kind : goal.returns-in_err-kind
returns-in_err-kind c =
    let p = err_from_is_err_and c.from_residual.result c.from_residual.ensures.1 in
    let v = c.in_err-kind.ensures.value ∙ ap (λ (o : Option Kind). ok_or o RuleStore) c.in_err-kind.ensures.ok_part in
    let f : c.in_err-kind.field-0.0 ≡ RuleStore = cc v in
    let r = no_store _ _ _ _ _ (sym c.check_rules.ensures ∙ c.in_err-kind.ensures.ok_part) in
    record {
      answer = rw (p.1, p.2, f) r.0;
      store = r.1.0;
      grown = r.1.1;
    }

pub header_of-header-requires : goal.header_of-header-requires
header_of-header-requires c = of_kind_lem _ _ (sym c.check_rules.ensures ∙ c.in_ok-kind.ensures.ok_part)

pub fits-requires : goal.fits-requires
fits-requires c = checked _ _ (sym c.check_rules.ensures ∙ c.in_ok-kind.ensures.ok_part) c.header_of-header.ensures

pub returns-then-not-fits : goal.returns-then-not-fits
returns-then-not-fits c =
    let r = no_fit (checked _ _ (sym c.check_rules.ensures ∙ c.in_ok-kind.ensures.ok_part) c.header_of-header.ensures) _ _ c.fits.ensures _ _ (ap not c.if-not-fits.true) in
    record {
      answer = r.0;
      store = r.1.0;
      grown = r.1.1;
    }

pub returns-then-not-is_store_index : goal.returns-then-not-is_store_index
returns-then-not-is_store_index c =
    let r = no_index (checked _ _ (sym c.check_rules.ensures ∙ c.in_ok-kind.ensures.ok_part) c.header_of-header.ensures) _ _ c.fits.ensures (ap not c.if-not-fits.false) c.is_store_index.ensures _ _ (ap not c.if-not-is_store_index.true) in
    record {
      answer = r.0;
      store = r.1.0;
      grown = r.1.1;
    }

pub add_checked-requires : goal.add_checked-requires
add_checked-requires c = addable (checked _ _ (sym c.check_rules.ensures ∙ c.in_ok-kind.ensures.ok_part) c.header_of-header.ensures) _ _ c.fits.ensures (ap not c.if-not-fits.false) c.is_store_index.ensures (ap not c.if-not-is_store_index.false)

pub returns : goal.returns
returns c =
    let r = added (checked _ _ (sym c.check_rules.ensures ∙ c.in_ok-kind.ensures.ok_part) c.header_of-header.ensures) _ _ c.fits.ensures (ap not c.if-not-fits.false) c.is_store_index.ensures (ap not c.if-not-is_store_index.false) c.add_checked.ensures in
    record {
      answer = r.0;
      store = r.1.0;
      grown = r.1.1;
    }
