use native.Mathlib.Omega.{arith}
use Rattle.masks.proofs.ClassFill.{note_class, note_varying, note_fixed, note_other}
use Rattle.masks.proofs.masks.note_role.Goals as goal

pub overflow_sub-place : goal.overflow_sub-place
overflow_sub-place c = omega (arith, (note_class c.args.word c.args.bit c.args.classes.now _ c.role_of-role.ensures _ c.in-Minimised.is).0)

pub offset_bounds-classes-place : goal.offset_bounds-classes-place
offset_bounds-classes-place c = omega (arith, (note_class c.args.word c.args.bit c.args.classes.now _ c.role_of-role.ensures _ c.in-Minimised.is).1, (note_class c.args.word c.args.bit c.args.classes.now _ c.role_of-role.ensures _ c.in-Minimised.is).0, c.requires)

pub bounds-classes-place : goal.bounds-classes-place
bounds-classes-place c = omega (arith, (note_class c.args.word c.args.bit c.args.classes.now _ c.role_of-role.ensures _ c.in-Minimised.is).1, (note_class c.args.word c.args.bit c.args.classes.now _ c.role_of-role.ensures _ c.in-Minimised.is).0, c.requires)

pub bounds-classes-place-in-Minimised : goal.bounds-classes-place-in-Minimised
bounds-classes-place-in-Minimised c = omega (arith, (note_class c.args.word c.args.bit c.args.classes.now _ c.role_of-role.ensures _ c.in-Minimised.is).1, (note_class c.args.word c.args.bit c.args.classes.now _ c.role_of-role.ensures _ c.in-Minimised.is).0, c.requires)

pub returns-in-Minimised : goal.returns-in-Minimised
returns-in-Minimised c =
    record {
      classes_after = (note_class c.args.word c.args.bit c.args.classes.now _ c.role_of-role.ensures _ c.in-Minimised.is).2;
      value = (note_class c.args.word c.args.bit c.args.classes.now _ c.role_of-role.ensures _ c.in-Minimised.is).3;
    }

pub returns-in-Varying : goal.returns-in-Varying
returns-in-Varying c =
    let r = note_varying _ _ _ _ c.role_of-role.ensures c.in-Varying.is in
    record {
      classes_after = r.0;
      value = r.1;
    }

pub returns-in-Fixed : goal.returns-in-Fixed
returns-in-Fixed c =
    let r = note_fixed _ _ _ _ c.role_of-role.ensures c.in-Fixed.is in
    record {
      classes_after = r.0;
      value = r.1;
    }

pub returns-in-Unknown : goal.returns-in-Unknown
returns-in-Unknown c =
    let r = note_other _ _ _ _ c.role_of-role.ensures c.in-Unknown.is in
    record {
      classes_after = r.0;
      value = r.1;
    }
