use Rattle.answers.specs.Programs.{translate_printed}
use Rattle.programs.proofs.translate_text.Goals as goal

pub returns : goal.returns
unfolding translate_printed
returns c =
    let h = c.print_text.ensures in
    record {
      size = h.count;
      output = h.bytes;
    }
