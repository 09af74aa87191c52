use native.Mathlib.Omega.{arith}
use Rattle.stores.proofs.StoreHeader.{many_counts, few, wrong_classes, words_inside, rules_left}
use Rattle.store_check.proofs.store_forms.program_form.Goals as goal

pub overflow_cast-atoms : goal.overflow_cast-atoms
overflow_cast-atoms c = omega (arith, c.type_inv.words 1)

pub overflow_cast-classes : goal.overflow_cast-classes
overflow_cast-classes c = omega (arith, c.type_inv.words 2)

pub overflow_cast-rules : goal.overflow_cast-rules
overflow_cast-rules c = omega (arith, c.type_inv.words 3)

pub returns-then-not-within : goal.returns-then-not-within
returns-then-not-within c = many_counts c.args.words.now c.args.kind c.within.ensures c.if-not-within.true

pub returns-then-not-classes_form : goal.returns-then-not-classes_form
returns-then-not-classes_form c = wrong_classes c.args.words.now c.args.kind c.within.ensures c.if-not-within.false c.classes_form.ensures c.if-not-classes_form.true

pub overflow_add-start : goal.overflow_add-start
overflow_add-start c = omega (arith, words_inside c.args.words.now c.args.kind c.within.ensures c.if-not-within.false c.classes_form.ensures c.if-not-classes_form.false c.word_count-start.ensures c.requires)

pub marked_rules-requires : goal.marked_rules-requires
marked_rules-requires c =
    let f = few c.args.words.now c.args.kind c.within.ensures c.if-not-within.false in
    (words_inside c.args.words.now c.args.kind c.within.ensures c.if-not-within.false c.classes_form.ensures c.if-not-classes_form.false c.word_count-start.ensures c.requires, omega (arith, f.0), omega (arith, f.1))

pub returns : goal.returns
returns c = rules_left c.args.words.now c.args.kind c.within.ensures c.if-not-within.false c.classes_form.ensures c.if-not-classes_form.false c.word_count-start.ensures c.marked_rules.ensures
