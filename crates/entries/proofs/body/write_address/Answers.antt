-- The store and the three runs lie right after each other, so they are one run.
use native.Mathlib.Omega.{arith}
use lib.ListN.{length-set}
use Rattle.entries.proofs.Ways.{address_written}
use Rattle.entries.proofs.body.write_address.Goals as goal

pub write_u64-requires : goal.write_u64-requires
write_u64-requires c = simp length-set (omega arith)

pub write_u64-requires-2 : goal.write_u64-requires-2
write_u64-requires-2 c =
    let a = c.args in
    omega (arith, length-set a.entries.now a.at a.address.kind)

pub write_u16-requires : goal.write_u16-requires
write_u16-requires c =
    let a = c.args in
    omega (arith, length-set a.entries.now a.at a.address.kind)

pub shape_of-entries : goal.shape_of-entries
shape_of-entries c =
    let a = c.args in
    omega (arith, length-set a.entries.now a.at a.address.kind)

pub returns : goal.returns
returns c =
    address_written c.args.entries.now c.write_u64.new.dst c.write_u64-2.new.dst c.write_u16.new.dst
    c.args.at
    c.args.address
    c.requires
    c.write_u64.ensures
    c.write_u64-2.ensures
    c.write_u16.ensures
