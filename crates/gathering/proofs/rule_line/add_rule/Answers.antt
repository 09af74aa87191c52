use Prim.Native.Nat.{◌+◌, ◌*◌, ◌^◌, ◌≤◌, ◌<◌}
use mathlib.Core.Path.{refl, sym}
use lib.ListN.{length, take}
use native.Mathlib.Omega.{arith}
use Rattle.gathering.proofs.HeldState.{held_small, known_starts, known_index, known_names}
use Rattle.gathering.proofs.RuleSteps.{no_rule, line_numbered, line_otherwise, twice_in_list, rule_line_lem, rule_marks}
use Rattle.gathering.proofs.rule_line.add_rule.Goals as goal

pub overflow_add-at : goal.overflow_add-at
overflow_add-at c = let s = held_small c.requires.held in omega arith

pub overflow_mul-stamp : goal.overflow_mul-stamp
overflow_mul-stamp c = let s = held_small c.requires.held in omega arith

pub overflow_add-stamp : goal.overflow_add-stamp
overflow_add-stamp c = let s = held_small c.requires.held in omega arith

pub overflow_cast-stamp : goal.overflow_cast-stamp
overflow_cast-stamp c = let s = held_small c.requires.held in omega arith

pub invariant_of-names : goal.invariant_of-names
invariant_of-names c = record { indexed = known_index c.requires.held_index }

pub rule_numbers-requires : goal.rule_numbers-requires
rule_numbers-requires c =
    let h = c.requires.held in
    let x = c.requires.held_index in
    let m = c.requires.held_marks in
    let s = held_small h in
    let n = known_starts x in
    let range : c.args.gathered.words + 3 + 3 * length c.args.line.now < 2 ^ 63 = omega (arith, c.requires.line_len_bound.0) in
    let few : length (take c.args.gathered.counts.atoms c.args.starts.now) ≤ 65535 = omega arith in
    let marked : length (take c.args.gathered.counts.atoms c.args.starts.now) ≤ length c.args.marks.now = omega (arith, m.room) in
    let stamps : 3 * c.args.gathered.counts.rules + 1 + 2 < 65536 = omega arith in
    record {
      starts_len_bound = (few, marked, range, stamps);
      below = m.below;
    }

pub returns-in_default : goal.returns-in_default
returns-in_default c =
    record {
      line_is = record { says = no_rule c.requires.held c.requires.line_len_bound.1 c.args.line.now c.requires.line_len_bound.2 c.requires.line_len_bound.3 (known_names c.requires.held_index c.requires.held) (line_otherwise c.rule_numbers.ensures c.in_default.is) c.rule_refusal.ensures };
      marks_are = record { says = tt };
    }

pub returns-then-rule : goal.returns-then-rule
returns-then-rule c =
    record {
      line_is = record { says = twice_in_list c.requires.held c.requires.line_len_bound.1 c.args.line.now (known_names c.requires.held_index c.requires.held) (line_numbered c.rule_numbers.ensures c.in-Some.is) c.if-rule.true };
      marks_are = record { says = tt };
    }

pub keep_rule-requires : goal.keep_rule-requires
keep_rule-requires c =
    let s = held_small c.requires.held in
    (omega (arith, (line_numbered c.rule_numbers.ensures c.in-Some.is).few, c.requires.line_len_bound.0), omega (arith, s.rules), omega (arith, s.occurrences), omega (arith, s.words))

pub returns : goal.returns
returns c =
    let w = (line_numbered c.rule_numbers.ensures c.in-Some.is) in
    record {
      line_is = rule_line_lem c.requires.held c.requires.line_len_bound.1 c.args.line.now (known_names c.requires.held_index c.requires.held) w c.if-rule.false refl c.keep_rule.ensures c.requires.held_index;
      marks_are = rule_marks c.requires.held c.requires.line_len_bound.1 c.args.line.now (known_names c.requires.held_index c.requires.held) w c.if-rule.false refl c.keep_rule.ensures c.rule_numbers.auto.marks c.requires.held_marks;
    }
