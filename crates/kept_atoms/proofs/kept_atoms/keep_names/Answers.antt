use Rattle.lines.specs.Shapes.{word_of}
use Rattle.kept_atoms.proofs.KeptAtoms.{atoms_over, classes_over, names_kept}
use mathlib.Core.Path.{ap}
use mathlib.Core.Bool.{not}
use Rattle.kept_atoms.proofs.kept_atoms.keep_names.Goals as goal

pub returns-then-not-within : goal.returns-then-not-within
returns-then-not-within c = atoms_over c.args.kind c.args.gathered (word_of c.args.word) c.args.count _ _ _ c.classes_after-classes.ensures c.within.ensures (ap not c.if-not-within.true)

pub returns-then-classes-gt-CLASSES : goal.returns-then-classes-gt-CLASSES
returns-then-classes-gt-CLASSES c = classes_over c.args.kind c.args.gathered (word_of c.args.word) c.args.count _ _ _ c.classes_after-classes.ensures c.within.ensures (ap not c.if-not-within.false) c.if-classes-gt-CLASSES.true

pub returns : goal.returns
returns c = names_kept c.args.kind c.args.gathered (word_of c.args.word) c.args.count _ _ _ c.classes_after-classes.ensures c.within.ensures (ap not c.if-not-within.false) c.if-classes-gt-CLASSES.false c.stage_after-stage.ensures c.put_class_words-end.ensures
