-- A program whose lists are sorted and whose rules are not yet.
use Rattle.std.specs.Prelude.{map}
use Rattle.stores.specs.Program.{Program}
use Rattle.canonical.specs.Canonical.{tidy}

abbrev pub tidy_program : Program → Program
tidy_program p = record { kind = p.kind; atoms = p.atoms; classes = p.classes; words = p.words; rules = map tidy p.rules }
