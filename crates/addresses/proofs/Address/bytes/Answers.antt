-- The two writes fill the sixteen bytes, so nothing of the zeros that stood there is left.
use mathlib.Core.Path.{refl}
use Rattle.serialize.specs.Runs.{zeros}
use Rattle.addresses.proofs.Ways.{bytes_written}
use Rattle.addresses.proofs.Address.bytes.Goals as goal

pub returns : goal.returns
returns c =
    bytes_written c.args.self (zeros 16) c.write_u64.new.dst c.write_u64-2.new.dst
    refl
    c.write_u64.ensures
    c.write_u64-2.ensures
