-- Six runs right after each other fill the bytes.
use Rattle.server.proofs.Pieces.{held_written}
use borrow.Author.Rules.{rules}
use Rattle.server.proofs.held.hold_token.Goals as goal

pub returns : goal.returns
returns c =
    let a = c.args in
    held_written a.client_id a.expire_timestamp a.timeout_seconds a.send_key.now a.receive_key.now a.user_data.now (search rules) (search rules) (search rules)
    a.held.now c.write_u64.new.dst c.write_u64-2.new.dst c.write_u32.new.dst c.copy.new.dst c.copy-2.new.dst c.copy-3.new.dst
    (search rules)
    c.write_u64.ensures
    c.write_u64-2.ensures
    c.write_u32.ensures
    c.copy.ensures
    c.copy-2.ensures
    c.copy-3.ensures
