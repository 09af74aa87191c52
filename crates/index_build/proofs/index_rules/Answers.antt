use mathlib.Core.Path.{◌≡◌, ap, sym, ◌∙◌}
use Rattle.std.specs.Option.{ok_or}
use Rattle.std.specs.Prelude.{Option}
use Rattle.std.proofs.lemmas.Result.{err_from_is_err_and}
use Rattle.kinds.specs.declared.limits.Kind.{Kind}
use Rattle.kinds.specs.declared.refusals.Refusal.TheVariants.{RuleStore}
use Rattle.stores.proofs.RuleStores.{of_kind_lem}
use Rattle.index_build.proofs.StoreIndex.{no_store, rules_ready, answered}
use Rattle.index_build.proofs.index_rules.Goals as goal

pub returns-in_err-kind : goal.returns-in_err-kind
returns-in_err-kind c =
    let p = err_from_is_err_and c.from_residual.result c.from_residual.ensures.1 in
    let v = c.in_err-kind.ensures.value ∙ ap (λ (o : Option Kind). ok_or o RuleStore) c.in_err-kind.ensures.ok_part in
    let f : c.in_err-kind.field-0.0 ≡ RuleStore = cc v in
    let r = no_store c.args.rules.now c.args.out.now (sym c.check_rules.ensures ∙ c.in_err-kind.ensures.ok_part) in
    record {
      answer = rw (p.1, p.2, f) r.0;
      output = r.1;
    }

pub header_of-header-requires : goal.header_of-header-requires
header_of-header-requires c = of_kind_lem c.args.rules.now _ (sym c.check_rules.ensures ∙ c.in_ok-kind.ensures.ok_part)

pub index_words-requires : goal.index_words-requires
index_words-requires c = rules_ready c.args.rules.now c.args.out.now (sym c.check_rules.ensures ∙ c.in_ok-kind.ensures.ok_part) c.header_of-header.ensures

pub returns : goal.returns
returns c =
    let r = answered c.args.rules.now c.args.out.now (sym c.check_rules.ensures ∙ c.in_ok-kind.ensures.ok_part) c.header_of-header.ensures (c.index_words.ensures.value, c.index_words.ensures.out_after) in
    record {
      answer = r.0;
      output = r.1;
    }
