-- The two writes fill the sixteen bytes.
use mathlib.Core.Path.{refl}
use Rattle.serialize.specs.Runs.{zeros}
use Rattle.grants.proofs.Ways.{use_written}
use Rattle.grants.proofs.tokens.use_of.Goals as goal

pub returns : goal.returns
returns c =
    let a = c.args in
    use_written a.time a.addr a.mac_low a.mac_high (zeros 16) c.write_u64.new.dst c.write_u64-2.new.dst refl c.write_u64.ensures
    c.write_u64-2.ensures
