use native.Mathlib.Omega.{arith}
use Rattle.lines.proofs.TokenPlaces.{item_fits}
use Rattle.condition_parts.proofs.NamedParts.{and_item_faulty, or_item_faulty, none_faulty, unknown_item_faulty, item_known}
use Rattle.condition_parts.proofs.parts.name_at.Goals as goal
use Rattle.name_store.specs.IndexedNames.{names_of}
use Rattle.condition_parts.proofs.parts.name_at.Goals.{then-same_bytes-via-then-same_bytes, then-same_bytes-via-else-same_bytes+then-same_bytes-2}

pub returns-then-same_bytes : goal.returns-then-same_bytes
returns-then-same_bytes c =
    elim c.then-same_bytes.branch [
      | then-same_bytes-via-then-same_bytes w ↦ and_item_faulty (names_of c.args.names.now) c.args.s.now c.args.at c.args.next c.item_at.ensures c.in_ok-gap.was c.same_bytes.ensures w.if-same_bytes.true
      | then-same_bytes-via-else-same_bytes+then-same_bytes-2 w ↦ or_item_faulty (names_of c.args.names.now) c.args.s.now c.args.at c.args.next c.item_at.ensures c.in_ok-gap.was w.same_bytes-else-same_bytes.ensures w.if-same_bytes-2.true
    ]

pub returns-in_err-gap : goal.returns-in_err-gap
returns-in_err-gap c = rw c.from_residual.ensures (none_faulty (names_of c.args.names.now) c.args.s.now c.args.at c.args.next c.item_at.ensures c.requires.s_value.0 c.in_err-gap.was)

pub overflow_add-start : goal.overflow_add-start
overflow_add-start c = omega (arith, item_fits c.args.s.now c.args.at c.item_at.ensures c.in_ok-gap.was)

pub overflow_add-place : goal.overflow_add-place
overflow_add-place c = omega (arith, item_fits c.args.s.now c.args.at c.item_at.ensures c.in_ok-gap.was)

pub slice_bounds-name-end : goal.slice_bounds-name-end
slice_bounds-name-end c = omega (arith, item_fits c.args.s.now c.args.at c.item_at.ensures c.in_ok-gap.was)

pub returns-in_err-atom : goal.returns-in_err-atom
returns-in_err-atom c = rw c.from_residual-in_err-atom.ensures (unknown_item_faulty (names_of c.args.names.now) c.args.s.now c.args.at c.args.next c.item_at.ensures c.in_ok-gap.was c.requires.s_value.1 c.same_bytes.ensures c.if-same_bytes.false c.same_bytes-else-same_bytes.ensures c.if-same_bytes-2.false c.find.ensures c.requires.at_in_bounds.1 c.in_err-atom.was)

pub returns : goal.returns
returns c = item_known (names_of c.args.names.now) c.args.s.now c.args.at c.args.next c.item_at.ensures c.in_ok-gap.was c.requires.s_value.1 c.same_bytes.ensures c.if-same_bytes.false c.same_bytes-else-same_bytes.ensures c.if-same_bytes-2.false c.find.ensures c.in_ok-atom.was
