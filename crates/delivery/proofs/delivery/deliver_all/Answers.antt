use Rattle.gathering.proofs.HeldState.{held_small}
use Rattle.delivery.proofs.Delivering.{header_small, words_part_length, words_range, bytes_part_length, bytes_range, rules_lack, names_lack, all_written}
use native.Mathlib.Omega.{arith}
use Rattle.delivery.proofs.delivery.deliver_all.Goals as goal

pub returns-then-rules-filled : goal.returns-then-rules-filled
returns-then-rules-filled c = rules_lack c.requires _ _ c.if-rules-filled.true

pub returns-then-names-used : goal.returns-then-names-used
returns-then-names-used c = names_lack c.requires _ _ c.if-names-used.true

pub put_header-requires : goal.put_header-requires
put_header-requires c = header_small c.requires

pub slice_bounds-emit-end : goal.slice_bounds-emit-end
slice_bounds-emit-end c = omega (arith, (held_small c.requires).words, c.requires.words_room, c.put_header.auto.words)

pub slice_bounds-emit-end-2 : goal.slice_bounds-emit-end-2
slice_bounds-emit-end-2 c = words_part_length c.requires c.put_header.ensures

pub emit-requires : goal.emit-requires
emit-requires c = words_range c.requires c.put_header.ensures

pub slice_bounds-emit-end-3 : goal.slice_bounds-emit-end-3
slice_bounds-emit-end-3 c = bytes_part_length c.requires

pub emit-requires-2 : goal.emit-requires-2
emit-requires-2 c = bytes_range c.requires

pub returns : goal.returns
returns c = all_written c.requires _ _ c.if-rules-filled.false c.if-names-used.false c.put_header.ensures c.emit.ensures c.emit-2.ensures
