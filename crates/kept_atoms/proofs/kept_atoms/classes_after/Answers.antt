use Rattle.kept_atoms.proofs.KeptAtoms.{min_classes}
use Rattle.kept_atoms.proofs.kept_atoms.classes_after.Goals as goal

pub returns-in-Min : goal.returns-in-Min
returns-in-Min c = min_classes _ c.in-Min.is
