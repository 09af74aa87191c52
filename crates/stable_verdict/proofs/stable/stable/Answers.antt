use mathlib.Core.Path.{refl}
use lib.Dec.{ltb}
use Rattle.kinds.specs.declared.limits.Kind.TheVariants.{Plain}
use Rattle.stores.specs.RuleStore.{decode}
use Rattle.walks.specs.Walk.{stable_verdict}
use Rattle.walks.specs.Answers.{stable_answer}
use Rattle.walks.specs.declared.answers.Verdict.TheVariants.{Refused}
use Rattle.masks.proofs.Guarding.{call_passes, answer_told, refusal_told, below_top, set_inside}
use Rattle.stable_verdict.proofs.stable.stable.Goals as goal

pub stable_of-requires : goal.stable_of-requires
stable_of-requires c =
    let h = call_passes Refused Plain c.args.words.now (ltb c.args.set) c.args.set 0 c.args.budget (stable_verdict (decode c.args.words.now).atoms (decode c.args.words.now).rules c.args.set c.args.budget) (below_top c.args.set) _ c.in-Ok.ensures refl in
    record {
      store_of = h.store;
      words_bound = h.few;
      words_value = h.is_kind;
      set_bound = set_inside h;
      budget_le_budget_limit = h.allowed;
    }

pub returns-in-Ok : goal.returns-in-Ok
unfolding stable_answer
returns-in-Ok c = answer_told Refused Plain c.args.words.now (ltb c.args.set) c.args.set 0 c.args.budget (stable_verdict (decode c.args.words.now).atoms (decode c.args.words.now).rules c.args.set c.args.budget) (below_top c.args.set) _ c.in-Ok.ensures refl _ c.stable_of.ensures

pub returns-in-Err : goal.returns-in-Err
unfolding stable_answer
returns-in-Err c = refusal_told Refused Plain c.args.words.now (ltb c.args.set) c.args.set 0 c.args.budget (stable_verdict (decode c.args.words.now).atoms (decode c.args.words.now).rules c.args.set c.args.budget) (below_top c.args.set) _ c.in-Err.ensures _ refl
