use Prim.Native.Nat.{ℕ, ◌+◌, ◌-◌}
use native.Mathlib.Nat.{add-zero, add_assoc}
use native.Mathlib.Omega.{arith}
use mathlib.Core.Path.{◌≡◌, sym, ap, ◌∙◌}
use mathlib.Core.List.{List}
use lib.ListN.{length, get_or, take, drop, length-drop}
use lib.Seq.{get_or-drop}
use Rattle.names.specs.Numerals.{is_digit}
use Rattle.clauses.specs.Items.{is_separator}
use Rattle.clause_items.proofs.Gaps.{rest_is, run_out, run_ends}
use Rattle.clause_items.proofs.Digits.{digits_begin, digits_again, digits_broken, number_ended}
use Rattle.clause_items.proofs.numbers.digits_at.Goals as goal

byte_is : (line : List ℕ) (at n : ℕ) → get_or (take (length line - at) (drop at line)) n 0 ≡ get_or line (at + n) 0
byte_is line at n = ap (λ (s : List ℕ). get_or s n 0) (rest_is line at) ∙ get_or-drop at line n 0

rest_length : (line : List ℕ) (at : ℕ) → length (take (length line - at) (drop at line)) ≡ length line - at
rest_length line at = ap length (rest_is line at) ∙ length-drop at line

pub loop-n-init : goal.loop-n-init
loop-n-init c = rw add-zero (digits_begin c.args.line.now c.args.at (omega (arith, c.requires.0)))

pub returns-then-is_separator : goal.returns-then-is_separator
returns-then-is_separator c =
    let b = byte_is c.args.line.now c.args.at c.loop-n.n in
    number_ended c.args.line.now c.args.at c.requires.0 c.requires.1 c.requires.2 c.loop-n.invariant (run_ends c.args.line.now (c.args.at + c.loop-n.n) (omega (arith, rest_length c.args.line.now c.args.at)) (ap is_separator (sym b) ∙ sym c.is_separator.ensures ∙ c.if-is_separator.true))

pub returns-then-not-is_digit : goal.returns-then-not-is_digit
returns-then-not-is_digit c =
    let b = byte_is c.args.line.now c.args.at c.loop-n.n in
    digits_broken c.loop-n.invariant (omega (arith, rest_length c.args.line.now c.args.at)) (ap is_digit (sym b) ∙ sym c.is_digit.ensures ∙ c.if-not-is_digit.true) (ap is_separator (sym b) ∙ sym c.is_separator.ensures ∙ c.if-is_separator.false)

pub loop-n-preserved : goal.loop-n-preserved
loop-n-preserved c =
    let b = byte_is c.args.line.now c.args.at c.loop-n.n in
    rw (← add_assoc) (digits_again c.loop-n.invariant (omega (arith, rest_length c.args.line.now c.args.at)) (ap is_digit (sym b) ∙ sym c.is_digit.ensures ∙ c.if-not-is_digit.false) (rw b at c.with_digit-value.ensures))

pub returns : goal.returns
returns c =
    let e : c.args.at + c.loop-n.n ≡ length c.args.line.now = omega (arith, c.requires.0, rest_length c.args.line.now c.args.at) in
    rw e at (number_ended c.args.line.now c.args.at c.requires.0 c.requires.1 c.requires.2 c.loop-n.invariant (run_out c.args.line.now (c.args.at + c.loop-n.n) (omega (arith, rest_length c.args.line.now c.args.at))))
