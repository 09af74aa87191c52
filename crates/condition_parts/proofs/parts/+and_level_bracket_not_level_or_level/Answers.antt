use Rattle.condition_parts.proofs.WordPlaces.{word_past, opening_past}
use lib.ListN.{length}
use Rattle.condition_parts.proofs.JoinedParts.{behind_opening, part_read, part_behind, inner_faulty, unclosed_faulty, bracketed_part, disj, behind_word, behind_part, atom_fits, row_room, lifted, joined, right_faulty, first_faulty, no_more, conj, negated_faulty, negated_part}
use Rattle.name_store.proofs.NamePlaces.{length_decode}
use Rattle.condition_parts.proofs.ConditionLaws.{is_and, is_not_lem, is_or}
use native.Mathlib.Omega.{arith}
use mathlib.Core.Path.{sym}
use Rattle.condition_parts.proofs.parts.+and_level_bracket_not_level_or_level.Goals as goal

pub and_level-returns-in_err-part : goal.and_level-returns-in_err-part
and_level-returns-in_err-part t c = rw c.from_residual.ensures (first_faulty conj c.in_err-part.ensures _)

pub and_level-loop-to-init : goal.and_level-loop-to-init
and_level-loop-to-init t c = (λ before h. h, part_behind c.in_ok-part.ensures)

pub and_level-word_at-requires : goal.and_level-word_at-requires
and_level-word_at-requires t c = (c.loop-to.invariant.0 _ (lifted conj (part_read c.in_ok-part.ensures))).inside

pub and_level-returns : goal.and_level-returns
and_level-returns t c = no_more conj (c.loop-to.invariant.0 _ (lifted conj (part_read c.in_ok-part.ensures))) c.loop-to.invariant.1 c.in_default.ensures

pub and_level-not_level-requires-in-Some : goal.and_level-not_level-requires-in-Some
and_level-not_level-requires-in-Some t c = (omega (arith, (word_past c.in-Some.ensures).onward, (word_past c.in-Some.ensures).inside, (c.loop-to.invariant.0 _ (lifted conj (part_read c.in_ok-part.ensures))).onward), behind_word (behind_part c.requires (c.loop-to.invariant.0 _ (lifted conj (part_read c.in_ok-part.ensures)))) is_and c.in-Some.ensures)

pub and_level-returns-in_err-right : goal.and_level-returns-in_err-right
and_level-returns-in_err-right t c = rw c.from_residual-in_err-right.ensures (right_faulty conj (c.loop-to.invariant.0 _ (lifted conj (part_read c.in_ok-part.ensures))) c.in-Some.ensures c.in_err-right.ensures _)

pub and_level-overflow_add-part : goal.and_level-overflow_add-part
and_level-overflow_add-part t c = omega (arith, (behind_part c.requires (c.loop-to.invariant.0 _ (lifted conj (part_read c.in_ok-part.ensures)))).numbers)

pub and_level-overflow_add-part-in-Some-2 : goal.and_level-overflow_add-part-in-Some-2
and_level-overflow_add-part-in-Some-2 t c = omega (arith, (behind_part c.requires (c.loop-to.invariant.0 _ (lifted conj (part_read c.in_ok-part.ensures)))).numbers, length_decode (length c.args.names.now.starts.now) c.args.names.now.bytes.now)

pub and_level-put_row-requires : goal.and_level-put_row-requires
and_level-put_row-requires t c = (row_room _ (behind_word (behind_part c.requires (c.loop-to.invariant.0 _ (lifted conj (part_read c.in_ok-part.ensures)))) is_and c.in-Some.ensures) (part_read c.in_ok-right.ensures), omega (arith, atom_fits c.requires (c.loop-to.invariant.0 _ (lifted conj (part_read c.in_ok-part.ensures))), atom_fits (behind_word (behind_part c.requires (c.loop-to.invariant.0 _ (lifted conj (part_read c.in_ok-part.ensures)))) is_and c.in-Some.ensures) (part_read c.in_ok-right.ensures)), omega (arith, atom_fits c.requires (c.loop-to.invariant.0 _ (lifted conj (part_read c.in_ok-part.ensures))), atom_fits (behind_word (behind_part c.requires (c.loop-to.invariant.0 _ (lifted conj (part_read c.in_ok-part.ensures)))) is_and c.in-Some.ensures) (part_read c.in_ok-right.ensures)))

pub and_level-loop-to-smaller : goal.and_level-loop-to-smaller
and_level-loop-to-smaller t c = omega (arith, (word_past c.in-Some.ensures).onward, (part_read c.in_ok-right.ensures).onward, (part_read c.in_ok-right.ensures).inside)

pub and_level-loop-to-preserved : goal.and_level-loop-to-preserved
and_level-loop-to-preserved t c = (
  λ before h. joined conj (c.loop-to.invariant.0 before h) c.in-Some.ensures (part_read c.in_ok-right.ensures) (part_behind c.in_ok-right.ensures) c.put_row.ensures (sym (length_decode (length c.args.names.now.starts.now) c.args.names.now.bytes.now)),
  part_behind c.in_ok-right.ensures,
)

pub bracket-name_at-requires : goal.bracket-name_at-requires
bracket-name_at-requires t c =
    record {
      at_in_bounds = (c.requires.readable.inside, c.requires.readable.declared);
      s_value = (c.in_default.ensures.says, c.requires.s_value);
    }

pub bracket-returns-in_default : goal.bracket-returns-in_default
bracket-returns-in_default t c = c.name_at.ensures c.args.made c.args.table.now

pub bracket-or_level-requires : goal.bracket-or_level-requires
bracket-or_level-requires t c = (omega (arith, (opening_past c.in-Some.ensures).onward, (opening_past c.in-Some.ensures).inside), behind_opening c.requires.readable c.in-Some.ensures)

pub bracket-returns-in_err-part : goal.bracket-returns-in_err-part
bracket-returns-in_err-part t c = rw c.from_residual.ensures (inner_faulty _ _ _ _ _ c.in-Some.ensures c.in_err-part.ensures _)

pub bracket-closed_at-requires : goal.bracket-closed_at-requires
bracket-closed_at-requires t c = (part_read c.in_ok-part.ensures).inside

pub bracket-returns-in_err-place : goal.bracket-returns-in_err-place
bracket-returns-in_err-place t c = rw c.from_residual-in_err-place.ensures (unclosed_faulty _ _ _ _ _ c.in-Some.ensures (part_read c.in_ok-part.ensures) (part_behind c.in_ok-part.ensures) c.in_err-place.ensures _)

pub bracket-returns : goal.bracket-returns
bracket-returns t c = bracketed_part _ _ _ _ _ c.in-Some.ensures (part_read c.in_ok-part.ensures) c.in_ok-place.ensures

pub not_level-bracket-requires : goal.not_level-bracket-requires
not_level-bracket-requires t c = (omega arith, (c.requires, c.in_default.ensures.says))

pub not_level-not_level-requires : goal.not_level-not_level-requires
not_level-not_level-requires t c = (omega (arith, (word_past c.in-Some.ensures).onward, (word_past c.in-Some.ensures).inside), behind_word c.requires is_not_lem c.in-Some.ensures)

pub not_level-returns-in_err-part : goal.not_level-returns-in_err-part
not_level-returns-in_err-part t c = rw c.from_residual.ensures (negated_faulty _ _ _ _ _ c.in-Some.ensures c.in_err-part.ensures _)

pub not_level-put_row-requires : goal.not_level-put_row-requires
not_level-put_row-requires t c = (row_room _ (behind_word c.requires is_not_lem c.in-Some.ensures) (part_read c.in_ok-part.ensures), omega (arith, atom_fits (behind_word c.requires is_not_lem c.in-Some.ensures) (part_read c.in_ok-part.ensures)), omega (arith, atom_fits (behind_word c.requires is_not_lem c.in-Some.ensures) (part_read c.in_ok-part.ensures)))

pub not_level-overflow_add-result : goal.not_level-overflow_add-result
not_level-overflow_add-result t c = omega (arith, c.requires.numbers, (behind_part (behind_word c.requires is_not_lem c.in-Some.ensures) (part_read c.in_ok-part.ensures)).numbers, length_decode (length c.args.names.now.starts.now) c.args.names.now.bytes.now)

pub not_level-overflow_add-result-2 : goal.not_level-overflow_add-result-2
not_level-overflow_add-result-2 t c = omega (arith, c.requires.numbers, (behind_part (behind_word c.requires is_not_lem c.in-Some.ensures) (part_read c.in_ok-part.ensures)).numbers, length_decode (length c.args.names.now.starts.now) c.args.names.now.bytes.now)

pub not_level-returns : goal.not_level-returns
not_level-returns t c = negated_part _ _ _ _ _ c.in-Some.ensures (part_read c.in_ok-part.ensures) c.put_row.ensures (sym (length_decode (length c.args.names.now.starts.now) c.args.names.now.bytes.now))

pub or_level-returns-in_err-part : goal.or_level-returns-in_err-part
or_level-returns-in_err-part t c = rw c.from_residual.ensures (first_faulty disj c.in_err-part.ensures _)

pub or_level-loop-to-init : goal.or_level-loop-to-init
or_level-loop-to-init t c = (λ before h. h, part_behind c.in_ok-part.ensures)

pub or_level-word_at-requires : goal.or_level-word_at-requires
or_level-word_at-requires t c = (c.loop-to.invariant.0 _ (lifted disj (part_read c.in_ok-part.ensures))).inside

pub or_level-returns : goal.or_level-returns
or_level-returns t c = no_more disj (c.loop-to.invariant.0 _ (lifted disj (part_read c.in_ok-part.ensures))) c.loop-to.invariant.1 c.in_default.ensures

pub or_level-and_level-requires-in-Some : goal.or_level-and_level-requires-in-Some
or_level-and_level-requires-in-Some t c = (omega (arith, (word_past c.in-Some.ensures).onward, (word_past c.in-Some.ensures).inside, (c.loop-to.invariant.0 _ (lifted disj (part_read c.in_ok-part.ensures))).onward), behind_word (behind_part c.requires (c.loop-to.invariant.0 _ (lifted disj (part_read c.in_ok-part.ensures)))) is_or c.in-Some.ensures)

pub or_level-returns-in_err-right : goal.or_level-returns-in_err-right
or_level-returns-in_err-right t c = rw c.from_residual-in_err-right.ensures (right_faulty disj (c.loop-to.invariant.0 _ (lifted disj (part_read c.in_ok-part.ensures))) c.in-Some.ensures c.in_err-right.ensures _)

pub or_level-overflow_add-part : goal.or_level-overflow_add-part
or_level-overflow_add-part t c = omega (arith, (behind_part c.requires (c.loop-to.invariant.0 _ (lifted disj (part_read c.in_ok-part.ensures)))).numbers)

pub or_level-overflow_add-part-in-Some-2 : goal.or_level-overflow_add-part-in-Some-2
or_level-overflow_add-part-in-Some-2 t c = omega (arith, (behind_part c.requires (c.loop-to.invariant.0 _ (lifted disj (part_read c.in_ok-part.ensures)))).numbers, length_decode (length c.args.names.now.starts.now) c.args.names.now.bytes.now)

pub or_level-put_row-requires : goal.or_level-put_row-requires
or_level-put_row-requires t c = (row_room _ (behind_word (behind_part c.requires (c.loop-to.invariant.0 _ (lifted disj (part_read c.in_ok-part.ensures)))) is_or c.in-Some.ensures) (part_read c.in_ok-right.ensures), omega (arith, atom_fits c.requires (c.loop-to.invariant.0 _ (lifted disj (part_read c.in_ok-part.ensures))), atom_fits (behind_word (behind_part c.requires (c.loop-to.invariant.0 _ (lifted disj (part_read c.in_ok-part.ensures)))) is_or c.in-Some.ensures) (part_read c.in_ok-right.ensures)), omega (arith, atom_fits c.requires (c.loop-to.invariant.0 _ (lifted disj (part_read c.in_ok-part.ensures))), atom_fits (behind_word (behind_part c.requires (c.loop-to.invariant.0 _ (lifted disj (part_read c.in_ok-part.ensures)))) is_or c.in-Some.ensures) (part_read c.in_ok-right.ensures)))

pub or_level-loop-to-smaller : goal.or_level-loop-to-smaller
or_level-loop-to-smaller t c = omega (arith, (word_past c.in-Some.ensures).onward, (part_read c.in_ok-right.ensures).onward, (part_read c.in_ok-right.ensures).inside)

pub or_level-loop-to-preserved : goal.or_level-loop-to-preserved
or_level-loop-to-preserved t c = (
  λ before h. joined disj (c.loop-to.invariant.0 before h) c.in-Some.ensures (part_read c.in_ok-right.ensures) (part_behind c.in_ok-right.ensures) c.put_row.ensures (sym (length_decode (length c.args.names.now.starts.now) c.args.names.now.bytes.now)),
  part_behind c.in_ok-right.ensures,
)
