use native.Mathlib.Omega.{arith}
use Rattle.numbering.proofs.NewNames.{name_range, still_decoded, entry}
use Rattle.numbering.proofs.entries.enter_name.Goals as goal

pub put_name-requires : goal.put_name-requires
put_name-requires c = name_range c.requires.indexed c.requires.entry_room

pub enter_new-requires : goal.enter_new-requires
enter_new-requires c =
    let room = c.requires.entry_room in
    record {
      indexed = still_decoded c.requires.indexed room c.put_name.ensures;
      atom_in_bounds = (room.starts_room, room.links_room, omega (arith, room.starts_room, room.starts_small), omega (arith, room.inside, room.bytes_small));
    }

pub returns : goal.returns
returns c = entry c.requires.indexed c.requires.entry_room c.put_name.ensures c.enter_new.ensures.value c.enter_new.ensures.starts_after c.enter_new.ensures.firsts_after c.enter_new.ensures.links_after
