use mathlib.Core.Path.{sym, ap, ◌∙◌}
use lib.ListN.{length}
use Rattle.masks.proofs.ClassFill.{notes_begin, notes_length, notes_go_on, notes_end}
use Rattle.masks.proofs.masks.fill_classes.Goals as goal

pub loop-i-init : goal.loop-i-init
loop-i-init c = notes_begin _ _ c.requires.classes_value

pub note_role-fixed-requires : goal.note_role-fixed-requires
note_role-fixed-requires c = notes_length _ _ _ _ c.loop-i.invariant

pub loop-i-preserved : goal.loop-i-preserved
loop-i-preserved c = notes_go_on _ _ _ _ c.loop-i.invariant _ _ _ c.loop-i-test.true c.bit_of.ensures c.note_role-fixed.ensures.classes_after c.note_role-fixed.ensures.value

pub shape_of-classes : goal.shape_of-classes
shape_of-classes c = notes_length _ _ _ _ c.loop-i.invariant ∙ sym (ap length c.requires.classes_value)

pub returns : goal.returns
returns c =
    let r = notes_end _ _ _ _ c.loop-i.invariant c.loop-i-test.false in
    record {
      classes_after = r.0;
      value = r.1;
    }
