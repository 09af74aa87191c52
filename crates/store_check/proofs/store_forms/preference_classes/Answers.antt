use Rattle.stores.proofs.StoreHeader.{many_classes, few_words, all_words}
use Rattle.store_check.proofs.store_forms.preference_classes.Goals as goal

pub returns-then-classes-gt-CLASSES : goal.returns-then-classes-gt-CLASSES
returns-then-classes-gt-CLASSES c = many_classes c.args.words.now _ _ c.if-classes-gt-CLASSES.true

pub returns-then-words-atoms : goal.returns-then-words-atoms
returns-then-words-atoms c = few_words c.args.words.now _ _ c.if-classes-gt-CLASSES.false c.if-words-atoms.true

pub returns : goal.returns
returns c = all_words c.args.words.now _ _ c.if-classes-gt-CLASSES.false c.if-words-atoms.false c.words_form.ensures
