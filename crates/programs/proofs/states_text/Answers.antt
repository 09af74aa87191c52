use Rattle.answers.specs.Programs.{states_printed}
use Rattle.programs.proofs.states_text.Goals as goal

pub returns : goal.returns
unfolding states_printed
returns c =
    let h = c.print_text.ensures in
    record {
      size = h.count;
      output = h.bytes;
    }
