use Rattle.name_store.specs.NameStore.{encode_names}
use Rattle.output.proofs.Emitting.{Emitting}
use Rattle.name_store.proofs.NumberedNames.{numbered_names}
use Rattle.clauses.specs.Written.{clause_name, clause_names}
use Rattle.clause_rules.proofs.atom_names.put_names.Given as goal

abbrev pub invariant-loop-atom : goal.invariant-loop-atom
invariant-loop-atom l = Emitting (encode_names (clause_names l.atoms)) l.initial.bytes 0 (numbered_names clause_name l.atom l.atoms) l.bytes l.at
