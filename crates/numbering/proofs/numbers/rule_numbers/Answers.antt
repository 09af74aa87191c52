use Prim.Native.Nat.{zero-le}
use Rattle.kinds.specs.Words.{rule_word}
use Rattle.lines.proofs.NameLists.{opened_inside}
use Rattle.lines.proofs.LineShapes.{whole_rule}
use Rattle.numbering.proofs.RuleLists.{not_rule, lists_otherwise, lists_inside, rule_unclosed, rule_unended, rule_numbered}
use mathlib.Core.Path.{ap}
use mathlib.Core.Bool.{not}
use Rattle.name_store.specs.IndexedNames.{names_of}
use Rattle.numbering.proofs.numbers.rule_numbers.Goals as goal

pub opened_at-requires : goal.opened_at-requires
opened_at-requires c = (zero-le, whole_rule)

pub returns-in_err-from : goal.returns-in_err-from
returns-in_err-from c = rw c.from_residual.ensures (not_rule (names_of c.args.names.now) c.args.line.now c.args.stamp c.args.out.now c.args.at c.opened_at.ensures c.in_err-from.was _ _)

pub lists_at-requires : goal.lists_at-requires
lists_at-requires c =
    record {
      from_in_bounds = (opened_inside rule_word c.args.line.now 0 c.opened_at.ensures c.in_ok-from.was, c.requires.starts_len_bound.0, c.requires.starts_len_bound.1, c.requires.starts_len_bound.2, c.requires.starts_len_bound.3);
      below = c.requires.below;
    }

pub returns-in_err-counts : goal.returns-in_err-counts
returns-in_err-counts c = rw c.from_residual-in_err-counts.ensures (lists_otherwise (names_of c.args.names.now) c.args.line.now c.args.stamp c.args.out.now c.args.at c.opened_at.ensures c.in_ok-from.was c.lists_at.ensures c.in_err-counts.was)

pub closes_line-requires : goal.closes_line-requires
closes_line-requires c = lists_inside (names_of c.args.names.now) c.args.line.now c.args.stamp c.args.out.now c.args.at c.opened_at.ensures c.in_ok-from.was c.lists_at.ensures c.in_ok-counts.was

pub returns-then-not-closes_line : goal.returns-then-not-closes_line
returns-then-not-closes_line c = rule_unclosed (names_of c.args.names.now) c.args.line.now c.args.stamp c.args.out.now c.args.at c.opened_at.ensures c.in_ok-from.was c.lists_at.ensures c.in_ok-counts.was c.closes_line.ensures (ap not c.if-not-closes_line.true)

pub returns-then-is_ended : goal.returns-then-is_ended
returns-then-is_ended c = rule_numbered (names_of c.args.names.now) c.args.line.now c.args.stamp c.args.out.now c.args.at c.opened_at.ensures c.in_ok-from.was c.lists_at.ensures c.in_ok-counts.was c.closes_line.ensures (ap not c.if-not-closes_line.false) c.is_ended.ensures c.if-is_ended.true

pub returns : goal.returns
returns c = rule_unended (names_of c.args.names.now) c.args.line.now c.args.stamp c.args.out.now c.args.at c.opened_at.ensures c.in_ok-from.was c.lists_at.ensures c.in_ok-counts.was c.closes_line.ensures (ap not c.if-not-closes_line.false) c.is_ended.ensures c.if-is_ended.false
