use Rattle.gathering.specs.Gathered.{state_of}
use Rattle.numbering.proofs.NameBlocks.{entered_all, entered_some, not_once}
use Rattle.declaring.proofs.DeclaredSteps.{held_room, room_kept, held_stored, not_expected, name_refused, all_short, declared_twice, rest_short, full_index, past_room, declared_line}
use mathlib.Core.Path.{◌≡◌, ap, ◌∙◌}
use Rattle.numbering.specs.declared.entries.Unentered.TheVariants.{Full}
use Rattle.std.specs.Prelude.{Err}
use mathlib.Core.Bool.{not}
use Rattle.declaring.proofs.declared_line.declare_atoms.Goals as goal

pub returns-then-not-is_expected : goal.returns-then-not-is_expected
returns-then-not-is_expected c = record { says = not_expected c.requires.held c.requires.held_index c.requires.declared c.is_expected.ensures (ap not c.if-not-is_expected.true) }

pub returns-then-shape : goal.returns-then-shape
returns-then-shape c = record { says = name_refused c.requires.held c.requires.held_index c.requires.declared c.is_expected.ensures (ap not c.if-not-is_expected.false) c.if-shape.true }

pub enter_names-requires : goal.enter_names-requires
unfolding state_of
enter_names-requires c =
    let h = c.requires.held in
    let x = c.requires.held_index in
    let p = c.requires.declared in
    record {
      from_in_bounds = (p.inside, all_short h x p c.is_expected.ensures (ap not c.if-not-is_expected.false) c.if-shape.false);
      room = held_room h x p;
      stored = held_stored h x p;
    }

pub past_limit-requires : goal.past_limit-requires
unfolding state_of
past_limit-requires c =
    let h = c.requires.held in
    let x = c.requires.held_index in
    let p = c.requires.declared in
    let e : c.enter_names.result ≡ Err (Full c.in-Full.at) = c.in-Err.is ∙ ap Err c.in-Full.is in
    let s = entered_some c.enter_names.ensures e in
    record {
      at_in_bounds = (s.inside, rest_short h x p c.is_expected.ensures (ap not c.if-not-is_expected.false) c.if-shape.false s c.enter_names.auto.starts);
      room = (room_kept h x p c.enter_names.auto.bytes c.enter_names.auto.starts c.enter_names.auto.links, s.index.firsts_room);
      indexed = full_index h x p c.is_expected.ensures (ap not c.if-not-is_expected.false) c.if-shape.false s c.enter_names.auto.starts;
    }

pub returns-in-Ok : goal.returns-in-Ok
unfolding state_of
returns-in-Ok c =
    let h = c.requires.held in
    let x = c.requires.held_index in
    let p = c.requires.declared in
    declared_line h x p c.is_expected.ensures (ap not c.if-not-is_expected.false) c.if-shape.false (entered_all c.enter_names.ensures c.in-Ok.is) c.enter_names.auto.bytes c.enter_names.auto.starts c.enter_names.auto.links c.keep_names.ensures

pub returns-in-Full : goal.returns-in-Full
unfolding state_of
returns-in-Full c =
    let h = c.requires.held in
    let x = c.requires.held_index in
    let p = c.requires.declared in
    let e : c.enter_names.result ≡ Err (Full c.in-Full.at) = c.in-Err.is ∙ ap Err c.in-Full.is in
    record { says = past_room h x p c.is_expected.ensures (ap not c.if-not-is_expected.false) c.if-shape.false (entered_some c.enter_names.ensures e) c.enter_names.auto.starts c.past_limit.ensures }

pub returns-in-Twice : goal.returns-in-Twice
unfolding state_of
returns-in-Twice c =
    let h = c.requires.held in
    let x = c.requires.held_index in
    let p = c.requires.declared in
    record { says = declared_twice h x p c.is_expected.ensures (ap not c.if-not-is_expected.false) c.if-shape.false (not_once c.enter_names.ensures (c.in-Err.is ∙ ap Err c.in-Twice.is)) }
