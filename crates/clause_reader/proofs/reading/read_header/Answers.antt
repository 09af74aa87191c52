use Rattle.clause_reader.proofs.FileLines.{header_fits, header_taken}
use Rattle.clause_reader.proofs.reading.read_header.Goals as goal

pub start-requires : goal.start-requires
start-requires c = let f = header_fits c.args.line.now c.header_of.ensures c.in_ok-header.was in (f.0, f.1, c.requires.words_room)

pub returns : goal.returns
returns c = header_taken c.args.line.now c.requires c.header_of.ensures c.in_ok-header.was c.start.ensures
