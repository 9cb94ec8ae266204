-- Two runs, one right after the other.
use Rattle.bodies.proofs.Fields.{keep_alive_written}
use Rattle.bodies.proofs.writer.write_keep_alive.Goals as goal

pub returns : goal.returns
returns c =
    let a = c.args in
    keep_alive_written a.out.now a.at _ _ a.client_index a.max_clients c.requires c.write_u32.ensures c.write_u32-2.ensures
