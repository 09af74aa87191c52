use mathlib.Core.Path.{refl}
use lib.Dec.{ltb}
use Rattle.kinds.specs.declared.limits.Kind.TheVariants.{Preference}
use Rattle.stores.specs.RuleStore.{decode}
use Rattle.walks.specs.Walk.{preferred_verdict}
use Rattle.walks.specs.Answers.{preferred_answer}
use Rattle.walks.specs.declared.answers.Verdict.TheVariants.{Refused}
use Rattle.masks.proofs.Guarding.{call_passes, answer_told, refusal_told, below_top}
use Rattle.preferred_verdict.proofs.preferred.preferred.Goals as goal

pub preferred_of-requires : goal.preferred_of-requires
preferred_of-requires c =
    let h = call_passes Refused Preference c.args.words.now (ltb c.args.set) c.args.set 0 c.args.budget (preferred_verdict (decode c.args.words.now).words (decode c.args.words.now).rules c.args.set c.args.budget) (below_top c.args.set) _ c.in-Ok.ensures refl in
    record {
      store_of = h.store;
      words_bound = h.few;
      words_value = h.is_kind;
      budget_le_budget_limit = h.allowed;
    }

pub returns-in-Ok : goal.returns-in-Ok
unfolding preferred_answer
returns-in-Ok c = answer_told Refused Preference c.args.words.now (ltb c.args.set) c.args.set 0 c.args.budget (preferred_verdict (decode c.args.words.now).words (decode c.args.words.now).rules c.args.set c.args.budget) (below_top c.args.set) _ c.in-Ok.ensures refl _ c.preferred_of.ensures

pub returns-in-Err : goal.returns-in-Err
unfolding preferred_answer
returns-in-Err c = refusal_told Refused Preference c.args.words.now (ltb c.args.set) c.args.set 0 c.args.budget (preferred_verdict (decode c.args.words.now).words (decode c.args.words.now).rules c.args.set c.args.budget) (below_top c.args.set) _ c.in-Err.ensures _ refl
