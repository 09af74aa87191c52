use Rattle.translation.proofs.Translating.{words_inside, bytes_inside, both_stores, translated_answer}
use lib.Seq.{length-take-le}
use mathlib.Core.Path.{sym}
use Rattle.translation.proofs.translate_by.Goals as goal

pub slice_bounds-write_checked-end : goal.slice_bounds-write_checked-end
slice_bounds-write_checked-end c = words_inside c.requires.0 c.requires.1 c.translate_rules-rules_end.ensures c.requires.2 c.translate_names-names_end.ensures c.requires.3

pub slice_bounds-write_checked-end-2 : goal.slice_bounds-write_checked-end-2
slice_bounds-write_checked-end-2 c = sym (length-take-le _ _ (words_inside c.requires.0 c.requires.1 c.translate_rules-rules_end.ensures c.requires.2 c.translate_names-names_end.ensures c.requires.3))

pub slice_bounds-write_checked-end-3 : goal.slice_bounds-write_checked-end-3
slice_bounds-write_checked-end-3 c = bytes_inside c.requires.0 c.requires.1 c.translate_rules-rules_end.ensures c.requires.2 c.translate_names-names_end.ensures c.requires.3

pub slice_bounds-write_checked-end-4 : goal.slice_bounds-write_checked-end-4
slice_bounds-write_checked-end-4 c = sym (length-take-le _ _ (bytes_inside c.requires.0 c.requires.1 c.translate_rules-rules_end.ensures c.requires.2 c.translate_names-names_end.ensures c.requires.3))

pub write_checked-requires : goal.write_checked-requires
write_checked-requires c = both_stores c.requires.0 c.requires.1 c.translate_rules-rules_end.ensures c.requires.2 c.translate_names-names_end.ensures c.requires.3

pub returns : goal.returns
returns c =
    let r = translated_answer c.requires.0 c.requires.1 c.translate_rules-rules_end.ensures c.requires.2 c.translate_names-names_end.ensures c.requires.3 c.args.out.now (c.write_checked.ensures.answer, c.write_checked.ensures.output) in
    record {
      answer = r.0;
      output = r.1;
    }
