use Rattle.writer.proofs.Writing.{names_at, few_of_kind, front_inside, handed_sources, handed_answer}
use Rattle.text.proofs.FilledTable.{front_length, front_stored, table_inside, handed_length}
use mathlib.Core.Path.{sym}
use Rattle.text.proofs.TextParts.{store_header}
use native.Mathlib.Omega.{arith}
use Rattle.writer.proofs.write_by.Goals as goal

pub bounds-rules-1 : goal.bounds-rules-1
bounds-rules-1 c = omega (arith, store_header c.requires.0)

pub slice_bounds-place_names-end : goal.slice_bounds-place_names-end
slice_bounds-place_names-end c = front_inside c.requires.0 c.requires.1 c.args.table.now c.requires.2

pub slice_bounds-place_names-end-2 : goal.slice_bounds-place_names-end-2
slice_bounds-place_names-end-2 c = sym (front_length (names_at c.requires.0 c.requires.1) (few_of_kind c.requires.0 c.requires.1) c.args.table.now (front_inside c.requires.0 c.requires.1 c.args.table.now c.requires.2))

pub place_names-requires : goal.place_names-requires
place_names-requires c = front_stored (names_at c.requires.0 c.requires.1) (few_of_kind c.requires.0 c.requires.1) c.args.table.now (front_inside c.requires.0 c.requires.1 c.args.table.now c.requires.2)

pub slice_bounds-placed-end : goal.slice_bounds-placed-end
slice_bounds-placed-end c = table_inside (names_at c.requires.0 c.requires.1) (few_of_kind c.requires.0 c.requires.1) c.args.table.now (front_inside c.requires.0 c.requires.1 c.args.table.now c.requires.2) c.place_names.new.starts c.place_names.auto.starts

pub slice_bounds-placed-end-2 : goal.slice_bounds-placed-end-2
slice_bounds-placed-end-2 c = sym (handed_length (names_at c.requires.0 c.requires.1) (few_of_kind c.requires.0 c.requires.1) c.args.table.now (front_inside c.requires.0 c.requires.1 c.args.table.now c.requires.2) c.place_names.new.starts c.place_names.auto.starts)

pub write_text-requires : goal.write_text-requires
write_text-requires c = handed_sources c.requires.0 c.requires.1 c.args.table.now c.requires.2 c.place_names.new.starts c.place_names.auto.starts c.place_names.ensures

pub returns : goal.returns
returns c =
    let r = handed_answer c.requires.0 c.requires.1 c.args.table.now c.requires.2 c.place_names.new.starts c.place_names.auto.starts c.args.out.now (c.write_text.ensures.answer, c.write_text.ensures.output) in
    record {
      answer = r.0;
      output = r.1;
    }
