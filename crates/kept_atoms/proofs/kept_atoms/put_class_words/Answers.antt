use Rattle.kept_atoms.proofs.KeptAtoms.{no_class_words, min_words, vary_words, fix_words}
use Rattle.kept_atoms.proofs.kept_atoms.put_class_words.Goals as goal

pub returns-in-Atoms : goal.returns-in-Atoms
returns-in-Atoms c = no_class_words c.args.classes c.args.count c.in-Atoms.is

pub returns-in-Min : goal.returns-in-Min
returns-in-Min c = min_words c.args.classes c.args.count c.in-Min.is c.emit_copies.ensures

pub returns-in-Vary : goal.returns-in-Vary
returns-in-Vary c = vary_words c.args.classes c.args.count c.in-Vary.is c.emit_copies-in-Vary.ensures

pub returns-in-Fix : goal.returns-in-Fix
returns-in-Fix c = fix_words c.args.classes c.args.count c.in-Fix.is c.emit_copies-in-Fix.ensures
