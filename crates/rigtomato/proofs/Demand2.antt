-- Demand 2, from the meanings of the answers and the listing.
use Prim.Native.Nat.{ℕ, ◌≤◌}
use mathlib.Core.Path.{◌≡◌}
use mathlib.Core.List.{List}
use lib.ListN.{length}
use Rattle.kinds.specs.Limits.{stream_limit, walk_atoms}
use Rattle.kinds.specs.declared.limits.Kind.TheVariants.{Preference}
use Rattle.stores.specs.Program.{Program}
use Rattle.faults.specs.EarliestFault.{Accepts}
use Rattle.faults.proofs.EarliestFault.{said_accepted}
use Rattle.clauses.proofs.Satisfying.{written_clauses}
use Rattle.reader.proofs.RoundTrip.{accepted_form}
use Rattle.reader.proofs.StatesLeft.{states_left}
use Rattle.condition_text.proofs.Direct.{read_directly}
use Rattle.canonical_text.proofs.CanonicalTexts.{canonical_states}
use Rattle.places.proofs.Places.{in_places}
use Rattle.walks.proofs.Order.{ordered}
use Rattle.walks.proofs.WalksAgree.{walks_agree}
use Rattle.walks.proofs.RisingOrder.{orders_agree}
use Rattle.walks.proofs.Listing.{lists_preferred}
use Rattle.rule_index.proofs.Flips.{flips}
use Rattle.rule_index.proofs.Growth.{grows}
use Rattle.answers.proofs.Indexing.{indexes}
use Rattle.answers.proofs.Judged.{judges}
use Rattle.answers.proofs.Refusals.{print_refuses}
use Rattle.answers.proofs.PreferredPrinted.{prints_preferred}
use Rattle.rigtomato.specs.Demand2.{Lists, Demand2}

lists : (text : List ℕ) (p : Program) (names : List (List ℕ)) → length text ≤ stream_limit → Accepts text p names → p.kind ≡ Preference → p.atoms ≤ walk_atoms → Lists text p names
lists text p names short a k few =
    let e = (said_accepted text p names).1 a in
    record {
      printed = (print_refuses text).listed short p names a k few;
      listing = prints_preferred p (accepted_form text p names e).0 k names;
      states = lists_preferred p.words p.rules;
    }

pub demand_2 : Demand2
demand_2 = record {
  order = ordered;
  places = in_places;
  walks = walks_agree;
  orders = orders_agree;
  verdicts = judges;
  lists = lists;
  left_out = states_left;
  conditions = read_directly;
  clause_sets = written_clauses;
  canonical_states = canonical_states;
  indexes = indexes;
  flips = flips;
  grows = grows;
}
