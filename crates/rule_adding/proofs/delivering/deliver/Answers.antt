use Rattle.rule_adding.proofs.Outputs.{store_short, index_short, both_written}
use Rattle.rule_adding.proofs.WritingStore.{grown_size}
use Rattle.rule_adding.proofs.delivering.deliver.Goals as goal

pub returns-then-rules_out-words : goal.returns-then-rules_out-words
returns-then-rules_out-words c = store_short _ _ _ _ (grown_size _ _ c.requires.0) c.if-rules_out-words.true

pub returns-then-index_out-index_words : goal.returns-then-index_out-index_words
returns-then-index_out-index_words c = index_short _ _ _ _ (grown_size _ _ c.requires.0) c.if-index_out-index_words.true

pub returns : goal.returns
returns c = both_written _ _ _ _ (grown_size _ _ c.requires.0) c.if-rules_out-words.false c.if-index_out-index_words.false c.emit_store.ensures c.emit.ensures
