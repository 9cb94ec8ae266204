-- Four runs, each right after the one before it.
use Rattle.bodies.proofs.Fields.{request_written}
use Rattle.bodies.proofs.writer.write_request.Goals as goal

pub returns : goal.returns
returns c =
    let a = c.args in
    request_written a.out.now a.at _ _ _ _ a.protocol_id a.expire_timestamp a.bytes.now c.requires.0 c.requires.1 c.copy.ensures c.write_u64.ensures c.write_u64-2.ensures c.copy-2.ensures
