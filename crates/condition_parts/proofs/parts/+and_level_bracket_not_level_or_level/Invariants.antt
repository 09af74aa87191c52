use Rattle.conditions.specs.declared.table.TableRow.{TableRow}
use Rattle.lines.specs.Tokens.{tokens}
use Prim.Native.Nat.{◌-◌, ◌+◌, ◌*◌}
use lib.ListN.{length, drop}
use mathlib.Core.List.{List}
use Rattle.condition_parts.specs.Parts.{Behind, PartAt}
use Rattle.condition_parts.proofs.JoinedParts.{disj, level, lower, conj}
use Rattle.name_store.specs.IndexedNames.{names_of}
use Rattle.condition_parts.proofs.parts.+and_level_bracket_not_level_or_level.Given as goal

abbrev pub decreases-and_level : goal.decreases-and_level
decreases-and_level l = 4 * (length l.s.now - l.at) + 2

abbrev pub invariant-and_level-loop-to : goal.invariant-and_level-loop-to
invariant-and_level-loop-to l =
    ((before : List TableRow) → PartAt (level conj) (names_of l.names) l.s l.at l.made l.next before l.initial.table l.initial.part.place l.initial.part.atom l.initial.part.next → PartAt (level conj) (names_of l.names) l.s l.at l.made l.next before l.table l.part.place l.part.atom l.part.next) × Behind (lower conj) (tokens (drop l.part.place l.s))

abbrev pub decreases-and_level-loop-to : goal.decreases-and_level-loop-to
decreases-and_level-loop-to l =
    length l.s - l.part.place

abbrev pub decreases-bracket : goal.decreases-bracket
decreases-bracket l = 4 * (length l.s.now - l.at) + 0

abbrev pub decreases-not_level : goal.decreases-not_level
decreases-not_level l = 4 * (length l.s.now - l.at) + 1

abbrev pub decreases-or_level : goal.decreases-or_level
decreases-or_level l = 4 * (length l.s.now - l.at) + 3

abbrev pub invariant-or_level-loop-to : goal.invariant-or_level-loop-to
invariant-or_level-loop-to l =
    ((before : List TableRow) → PartAt (level disj) (names_of l.names) l.s l.at l.made l.next before l.initial.table l.initial.part.place l.initial.part.atom l.initial.part.next → PartAt (level disj) (names_of l.names) l.s l.at l.made l.next before l.table l.part.place l.part.atom l.part.next) × Behind (lower disj) (tokens (drop l.part.place l.s))

abbrev pub decreases-or_level-loop-to : goal.decreases-or_level-loop-to
decreases-or_level-loop-to l =
    length l.s - l.part.place
