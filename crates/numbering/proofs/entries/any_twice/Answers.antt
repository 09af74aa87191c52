use mathlib.Core.Path.{refl, ap, ◌∙◌}
use Rattle.std.specs.Prelude.{Err}
use Rattle.numbering.proofs.NameBlocks.{blocks_begin, block_stored, block_all, block_twice, rest_inside, rest_onward, rest_index, rest_known, next_block}
use native.Mathlib.Omega.{arith}
use Rattle.numbering.proofs.entries.any_twice.Goals as goal

pub loop-rest-init : goal.loop-rest-init
loop-rest-init c = (refl, refl, refl, refl, blocks_begin c.requires.from_in_bounds.0 c.requires.from_in_bounds.1 c.requires.room.0 c.requires.room.1)

pub enter_names-requires : goal.enter_names-requires
enter_names-requires c =
    record {
      from_in_bounds = (c.loop-rest.invariant.4.inside, c.loop-rest.invariant.4.short);
      room = c.loop-rest.invariant.4.room;
      stored = block_stored c.loop-rest.invariant.4 c.clear.ensures;
    }

pub shape_of-bytes-in-Ok : goal.shape_of-bytes-in-Ok
shape_of-bytes-in-Ok c = c.enter_names.auto.bytes ∙ c.loop-rest.invariant.0

pub shape_of-starts-in-Ok : goal.shape_of-starts-in-Ok
shape_of-starts-in-Ok c = c.enter_names.auto.starts ∙ c.loop-rest.invariant.1

pub shape_of-firsts-in-Ok : goal.shape_of-firsts-in-Ok
shape_of-firsts-in-Ok c = c.enter_names.auto.firsts ∙ c.clear.auto.firsts ∙ c.loop-rest.invariant.2

pub shape_of-links-in-Ok : goal.shape_of-links-in-Ok
shape_of-links-in-Ok c = c.enter_names.auto.links ∙ c.loop-rest.invariant.3

pub returns-in-Ok : goal.returns-in-Ok
returns-in-Ok c = block_all c.loop-rest.invariant.4 c.enter_names.ensures c.in-Ok.is

pub shape_of-bytes-in-Err-Twice : goal.shape_of-bytes-in-Err-Twice
shape_of-bytes-in-Err-Twice c = c.enter_names.auto.bytes ∙ c.loop-rest.invariant.0

pub shape_of-starts-in-Err-Twice : goal.shape_of-starts-in-Err-Twice
shape_of-starts-in-Err-Twice c = c.enter_names.auto.starts ∙ c.loop-rest.invariant.1

pub shape_of-firsts-in-Err-Twice : goal.shape_of-firsts-in-Err-Twice
shape_of-firsts-in-Err-Twice c = c.enter_names.auto.firsts ∙ c.clear.auto.firsts ∙ c.loop-rest.invariant.2

pub shape_of-links-in-Err-Twice : goal.shape_of-links-in-Err-Twice
shape_of-links-in-Err-Twice c = c.enter_names.auto.links ∙ c.loop-rest.invariant.3

pub returns-in-Err-Twice : goal.returns-in-Err-Twice
returns-in-Err-Twice c = block_twice c.loop-rest.invariant.4 c.enter_names.ensures (c.in-Err-Twice.is ∙ ap Err c.in-Err-Twice.field-0-is)

pub invariant_of-names : goal.invariant_of-names
invariant_of-names c = record { indexed = rest_index c.loop-rest.invariant.4 c.enter_names.ensures (c.in-Err-Full.is ∙ ap Err c.in-Err-Full.field-0-is) c.enter_names.auto.bytes c.enter_names.auto.starts c.enter_names.auto.links }

pub any_known-requires : goal.any_known-requires
any_known-requires c = rest_inside c.loop-rest.invariant.4 c.enter_names.ensures (c.in-Err-Full.is ∙ ap Err c.in-Err-Full.field-0-is) c.enter_names.auto.bytes c.enter_names.auto.starts c.enter_names.auto.links

pub shape_of-bytes-then-any_known : goal.shape_of-bytes-then-any_known
shape_of-bytes-then-any_known c = c.enter_names.auto.bytes ∙ c.loop-rest.invariant.0

pub shape_of-starts-then-any_known : goal.shape_of-starts-then-any_known
shape_of-starts-then-any_known c = c.enter_names.auto.starts ∙ c.loop-rest.invariant.1

pub shape_of-firsts-then-any_known : goal.shape_of-firsts-then-any_known
shape_of-firsts-then-any_known c = c.enter_names.auto.firsts ∙ c.clear.auto.firsts ∙ c.loop-rest.invariant.2

pub shape_of-links-then-any_known : goal.shape_of-links-then-any_known
shape_of-links-then-any_known c = c.enter_names.auto.links ∙ c.loop-rest.invariant.3

pub returns-then-any_known : goal.returns-then-any_known
returns-then-any_known c = rest_known c.loop-rest.invariant.4 c.enter_names.ensures (c.in-Err-Full.is ∙ ap Err c.in-Err-Full.field-0-is) c.enter_names.auto.bytes c.enter_names.auto.starts c.enter_names.auto.links c.any_known.ensures c.if-any_known.true

pub loop-rest-smaller : goal.loop-rest-smaller
loop-rest-smaller c = omega (arith, rest_onward c.loop-rest.invariant.4 c.enter_names.ensures (c.in-Err-Full.is ∙ ap Err c.in-Err-Full.field-0-is) c.enter_names.auto.bytes c.enter_names.auto.starts c.enter_names.auto.links, rest_inside c.loop-rest.invariant.4 c.enter_names.ensures (c.in-Err-Full.is ∙ ap Err c.in-Err-Full.field-0-is) c.enter_names.auto.bytes c.enter_names.auto.starts c.enter_names.auto.links)

pub loop-rest-preserved : goal.loop-rest-preserved
loop-rest-preserved c = (c.enter_names.auto.bytes ∙ c.loop-rest.invariant.0, c.enter_names.auto.starts ∙ c.loop-rest.invariant.1, c.enter_names.auto.firsts ∙ c.clear.auto.firsts ∙ c.loop-rest.invariant.2, c.enter_names.auto.links ∙ c.loop-rest.invariant.3, next_block c.loop-rest.invariant.4 c.enter_names.ensures (c.in-Err-Full.is ∙ ap Err c.in-Err-Full.field-0-is) c.enter_names.auto.bytes c.enter_names.auto.starts c.enter_names.auto.links c.any_known.ensures c.if-any_known.false (c.enter_names.auto.firsts ∙ c.clear.auto.firsts))
