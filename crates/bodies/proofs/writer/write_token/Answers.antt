-- Two runs, one right after the other.
use Rattle.bodies.proofs.Fields.{token_written}
use Rattle.bodies.proofs.writer.write_token.Goals as goal

pub returns : goal.returns
returns c =
    let a = c.args in
    token_written a.out.now a.at _ _ a.token_sequence a.bytes.now c.requires.0 c.requires.1 c.write_u64.ensures c.copy.ensures
