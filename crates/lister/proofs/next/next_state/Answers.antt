use mathlib.Core.Path.{refl}
use lib.Dec.{leb}
use Rattle.kinds.specs.declared.limits.Kind.TheVariants.{Preference}
use Rattle.stores.specs.RuleStore.{decode}
use Rattle.walks.specs.Walk.{next_verdict}
use Rattle.walks.specs.Answers.{next_answer}
use Rattle.walks.specs.declared.answers.NextState.TheVariants.{Refused}
use Rattle.masks.proofs.Guarding.{call_passes, answer_told, refusal_told, up_to_top}
use Rattle.lister.proofs.next.next_state.Goals as goal

pub next_of-requires : goal.next_of-requires
next_of-requires c =
    let h = call_passes Refused Preference c.args.words.now (leb c.args.start) c.args.start 1 c.args.budget (next_verdict (decode c.args.words.now).words (decode c.args.words.now).rules c.args.start c.args.budget) (up_to_top c.args.start) _ c.in-Ok.ensures refl in
    record {
      store_of = h.store;
      words_bound = h.few;
      words_value = h.is_kind;
      budget_le_budget_limit = h.allowed;
    }

pub returns-in-Ok : goal.returns-in-Ok
unfolding next_answer
returns-in-Ok c = answer_told Refused Preference c.args.words.now (leb c.args.start) c.args.start 1 c.args.budget (next_verdict (decode c.args.words.now).words (decode c.args.words.now).rules c.args.start c.args.budget) (up_to_top c.args.start) _ c.in-Ok.ensures refl _ c.next_of.ensures

pub returns-in-Err : goal.returns-in-Err
unfolding next_answer
returns-in-Err c = refusal_told Refused Preference c.args.words.now (leb c.args.start) c.args.start 1 c.args.budget (next_verdict (decode c.args.words.now).words (decode c.args.words.now).rules c.args.start c.args.budget) (up_to_top c.args.start) _ c.in-Err.ensures _ refl
