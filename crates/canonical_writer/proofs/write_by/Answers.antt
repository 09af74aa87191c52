use Rattle.canonical_writer.proofs.WritingCanonical.{words_inside, both_stores, canonical_answer_lem}
use lib.Seq.{length-take-le}
use mathlib.Core.Path.{sym}
use Rattle.canonical_writer.proofs.write_by.Goals as goal

pub slice_bounds-write_checked-end : goal.slice_bounds-write_checked-end
slice_bounds-write_checked-end c = words_inside c.requires.0 c.requires.1 c.canonical_rules-end.ensures c.requires.2

pub slice_bounds-write_checked-end-2 : goal.slice_bounds-write_checked-end-2
slice_bounds-write_checked-end-2 c = sym (length-take-le _ _ (words_inside c.requires.0 c.requires.1 c.canonical_rules-end.ensures c.requires.2))

pub write_checked-requires : goal.write_checked-requires
write_checked-requires c = both_stores c.requires.0 c.requires.1 c.canonical_rules-end.ensures c.requires.2

pub returns : goal.returns
returns c =
    let r = canonical_answer_lem c.requires.0 c.requires.1 c.canonical_rules-end.ensures c.requires.2 c.args.out.now (c.write_checked.ensures.answer, c.write_checked.ensures.output) in
    record {
      answer = r.0;
      output = r.1;
    }
