use native.Mathlib.Omega.{arith}
use mathlib.Core.Path.{refl, sym, ◌∙◌}
use lib.Seq.{length-take-le}
use Rattle.made_names.proofs.NamesPut.{name_short}
use Rattle.made_names.proofs.NextNames.{name_inside, looked}
use Rattle.made_names.proofs.declared.is_declared.Goals as goal

pub emit_made-size-requires : goal.emit_made-size-requires
emit_made-size-requires c = record { below = omega (arith, name_short c.args.number) }

pub slice_bounds-name-end : goal.slice_bounds-name-end
slice_bounds-name-end c = name_inside _ c.emit_made-size.ensures refl

pub slice_bounds-find-end : goal.slice_bounds-find-end
slice_bounds-find-end c = sym (length-take-le _ _ (name_inside _ c.emit_made-size.ensures refl))

pub returns : goal.returns
returns c = c.is_some.ensures ∙ looked _ c.emit_made-size.ensures refl _ c.find.ensures
