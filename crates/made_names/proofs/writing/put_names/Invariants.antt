use Prim.Native.Nat.{suc}
use mathlib.Core.List.{map}
use Rattle.rules.specs.Lists.{from}
use Rattle.names.specs.Names.{made_name}
use Rattle.name_store.specs.NameStore.{encode_names}
use Rattle.output.proofs.Emitting.{Emitting}
use Rattle.name_store.proofs.NumberedNames.{numbered_names}
use Rattle.made_names.proofs.writing.put_names.Given as goal

abbrev pub invariant-loop-number : goal.invariant-loop-number
invariant-loop-number l = Emitting (encode_names (map made_name (from 1 l.count))) l.initial.out l.at (numbered_names made_name l.number (suc l.count)) l.out l.next
