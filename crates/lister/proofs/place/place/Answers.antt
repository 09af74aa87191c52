use mathlib.Core.Path.{refl, ap}
use lib.Dec.{ltb}
use Rattle.kinds.specs.declared.limits.Kind.TheVariants.{Preference}
use Rattle.stores.specs.RuleStore.{decode}
use Rattle.places.specs.Places.{place as place_in}
use Rattle.walks.specs.Answers.{place_answer}
use Rattle.std.specs.Prelude.{Ok, Err}
use Rattle.std.proofs.lemmas.Result.{err_from_is_err_and}
use Rattle.masks.proofs.Guarding.{call_passes, answer_told, refusal_told, below_top}
use Rattle.lister.proofs.place.place.Goals as goal

pub place_of-requires : goal.place_of-requires
place_of-requires c =
    let h = call_passes Err Preference c.args.words.now (ltb c.args.set) c.args.set 0 0 (Ok (place_in (decode c.args.words.now).atoms c.args.set)) (below_top c.args.set) _ c.in_ok-check_call.ensures refl in
    record {
      store_of = h.store;
      words_bound = h.few;
    }

pub returns : goal.returns
unfolding place_answer
returns c = answer_told Err Preference c.args.words.now (ltb c.args.set) c.args.set 0 0 (Ok (place_in (decode c.args.words.now).atoms c.args.set)) (below_top c.args.set) _ c.in_ok-check_call.ensures refl _ (ap Ok c.place_of.ensures)

pub returns-in_err-check_call : goal.returns-in_err-check_call
unfolding place_answer
returns-in_err-check_call c = let p = err_from_is_err_and c.from_residual.result c.from_residual.ensures.1 in rw (p.1, p.2) (refusal_told Err Preference c.args.words.now (ltb c.args.set) c.args.set 0 0 (Ok (place_in (decode c.args.words.now).atoms c.args.set)) (below_top c.args.set) _ c.in_err-check_call.ensures _ refl)
