use native.Mathlib.Omega.{arith}
use Rattle.name_store.proofs.ByteLoops.{hash_small}
use Rattle.name_store.proofs.NameChains.{search_begins, search_ends, search_inside, search_less, search_hit, search_again}
use Rattle.name_store.proofs.indexed.NameIndex.find_hashed.Goals as goal

pub offset_bounds-self-h : goal.offset_bounds-self-h
offset_bounds-self-h c = omega (arith, c.args.self.now.indexed.firsts_room, c.requires, hash_small c.args.name.now)

pub bounds-self-h : goal.bounds-self-h
bounds-self-h c = omega (arith, c.args.self.now.indexed.firsts_room, c.requires, hash_small c.args.name.now)

pub loop-link-init : goal.loop-link-init
loop-link-init c = search_begins c.args.self.now.indexed c.requires

pub name_at-requires : goal.name_at-requires
name_at-requires c = (c.args.self.now.indexed.placed, (search_inside c.loop-link.invariant c.loop-link-test.true).0)

pub returns-then-same_bytes : goal.returns-then-same_bytes
returns-then-same_bytes c = search_hit c.loop-link.invariant c.loop-link-test.true c.name_at.ensures c.same_bytes.ensures c.if-same_bytes.true

pub loop-link-smaller : goal.loop-link-smaller
loop-link-smaller c = search_less c.loop-link.invariant c.loop-link-test.true

pub loop-link-preserved : goal.loop-link-preserved
loop-link-preserved c = search_again c.loop-link.invariant c.loop-link-test.true c.name_at.ensures c.same_bytes.ensures c.if-same_bytes.false

pub returns : goal.returns
returns c = search_ends c.loop-link.invariant c.loop-link-test.false
