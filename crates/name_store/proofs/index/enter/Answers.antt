use native.Mathlib.Omega.{arith}
use Prim.Native.Nat.{◌+◌}
use mathlib.Core.Path.{refl, ap}
use lib.ListN.{get_or, set}
use Rattle.name_store.proofs.ByteLoops.{hash_small}
use Rattle.name_store.proofs.index.enter.Goals as goal

pub offset_bounds-firsts-h : goal.offset_bounds-firsts-h
offset_bounds-firsts-h c = omega (arith, c.hash-h.ensures, hash_small c.args.name.now)

pub bounds-firsts-h : goal.bounds-firsts-h
bounds-firsts-h c = omega (arith, c.hash-h.ensures, hash_small c.args.name.now)

pub offset_bounds-firsts-h-2 : goal.offset_bounds-firsts-h-2
offset_bounds-firsts-h-2 c = omega (arith, c.hash-h.ensures, hash_small c.args.name.now)

pub bounds-firsts-h-2 : goal.bounds-firsts-h-2
bounds-firsts-h-2 c = omega (arith, c.hash-h.ensures, hash_small c.args.name.now)

pub returns : goal.returns
returns c =
    let a = c.args in
    let e = c.hash-h.ensures in
    record {
      starts_after = refl;
      firsts_after = ap (λ h. set a.firsts.now h (a.atom + 1)) e;
      links_after = ap (λ h. set a.links.now a.atom (get_or a.firsts.now h 0)) e;
    }
