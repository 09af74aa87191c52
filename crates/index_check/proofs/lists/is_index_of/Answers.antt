use Rattle.index_check.proofs.Deciding.{not_found, not_listed, listed_ready, all_decided}
use native.Mathlib.Omega.{arith}
use mathlib.Core.Path.{ap}
use mathlib.Core.Bool.{not}
use Rattle.index_check.proofs.lists.is_index_of.Goals as goal

pub returns-then-not-found : goal.returns-then-not-found
returns-then-not-found c =
    let r = not_found c.args.words.now c.args.count c.args.index.now c.args.next.now c.find_lists-found.ensures.value (ap not c.if-not-found.true) in
    record {
      value = r.0;
      placed = r.1;
    }

pub rules_listed-listed-requires : goal.rules_listed-listed-requires
rules_listed-listed-requires c =
    record {
      stored_rules = listed_ready c.args.words.now c.args.count c.args.index.now c.args.next.now c.next-1.given c.requires.stored_rules (ap not c.if-not-found.false) c.find_lists-found.ensures.lists;
      next_in_bounds = (omega (arith, c.next-1.given, c.ends-1.given, c.requires.next_in_bounds.0), omega (arith, c.next-1.given, c.requires.next_in_bounds.1), c.requires.next_in_bounds.2, c.requires.next_in_bounds.3);
    }

pub returns-then-not-listed : goal.returns-then-not-listed
returns-then-not-listed c =
    let r = not_listed c.args.words.now c.args.count c.args.index.now c.args.next.now c.requires.stored_rules.0 c.rules_listed-listed.ensures.value (ap not c.if-not-listed.true) in
    record {
      value = r.0;
      placed = r.1;
    }

pub returns : goal.returns
returns c =
    let r = all_decided c.args.words.now c.args.count c.args.index.now c.args.next.now c.next-1.given c.next-2-1.given (ap not c.if-not-found.false) c.find_lists-found.ensures.lists (ap not c.if-not-listed.false) c.rules_listed-listed.ensures.value (c.rules_listed-listed.ensures.read, c.rules_listed-listed.ensures.placed) c.all_read.ensures in
    record {
      value = r.0;
      placed = r.1;
    }
