-- A text in an output, if there is room for it.
use Rattle.std.specs.Prelude.{ℕ, List, length}
use Rattle.rules.specs.Lists.{over}
use Rattle.answers.specs.Writing.{fitted, written_bytes}

abbrev pub fitted_output : List ℕ → List ℕ → List ℕ
fitted_output text before = over (written_bytes (fitted text (length before)) text) before
