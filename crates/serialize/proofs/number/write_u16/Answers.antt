-- The bytes of the number come back in the part that was lent.
use Rattle.serialize.proofs.Le.{bytes_written}
use Rattle.serialize.proofs.number.write_u16.Goals as goal

pub returns : goal.returns
returns c = bytes_written c.args.dst.now c.args.at 2 c.args.v c.copy_from_slice.new.self c.to_le_bytes.result c.copy_from_slice.ensures.after c.to_le_bytes.ensures
