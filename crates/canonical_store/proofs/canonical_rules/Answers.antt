use Rattle.kinds.specs.Limits.{occurrence_limit, rule_limit}
use Rattle.kinds.specs.Sizes.{store_words}
use Rattle.kinds.specs.declared.limits.Kind.TheVariants.{Plain}
use Rattle.canonical_store.proofs.SortedStores.{scratch_room}
use Rattle.canonical_store.proofs.canonical_rules.Goals as goal

pub emit_canonical-requires : goal.emit_canonical-requires
emit_canonical-requires c = (c.requires, scratch_room store_words, scratch_room (occurrence_limit Plain), scratch_room (rule_limit Plain), scratch_room (rule_limit Plain))
