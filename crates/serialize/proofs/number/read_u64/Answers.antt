-- The bytes from the place on are the number, least first.
use Prim.Native.Nat.{◌+◌, ◌-◌}
use native.Mathlib.Omega.{arith}
use Rattle.serialize.proofs.Le.{bytes_read}
use Rattle.serialize.proofs.number.read_u64.Goals as goal

pub returns : goal.returns
returns c =
    let a = c.args in
    let chunk = rw c.unwrap.ensures at c.first_chunk.ensures.cases in
    bytes_read a.src.now a.at 7 (a.at + 8 - a.at) c.unwrap.result.now c.from_le_bytes.result c.requires (omega arith) chunk.same c.from_le_bytes.ensures
