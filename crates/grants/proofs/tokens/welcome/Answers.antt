-- The count decides between denied and the challenge.
use Rattle.grants.proofs.Ways.{welcome_denied, welcome_challenged}
use Rattle.grants.proofs.tokens.welcome.Goals as goal

pub returns-then-count_used-server : goal.returns-then-count_used-server
returns-then-count_used-server c =
    let a = c.args in
    welcome_denied a.server a.datagram a.addr a.expire_timestamp a.token a.slots.now a.pending.now a.held.now a.out.now
    _ c.count_used.ensures c.if-count_used-server.true _ c.drop_pending.ensures _ _ c.deny.ensures

pub returns : goal.returns
returns c =
    let a = c.args in
    welcome_challenged a.server a.datagram a.addr a.expire_timestamp a.token a.slots.now a.pending.now a.held.now a.out.now
    _ c.count_used.ensures c.if-count_used-server.false _ _ _ c.challenge.ensures
