-- Silently nothing by the first test, or by what the entry says.
use Rattle.grants.proofs.Ways.{ignored, let_in, shut_out}
use Rattle.grants.proofs.tokens.consider.Goals as goal

pub returns-then-is_ignored : goal.returns-then-is_ignored
returns-then-is_ignored c =
    let a = c.args in
    ignored a.server a.datagram a.addr a.expire_timestamp a.token a.slots.now a.pending.now a.held.now a.out.now
    a.mac_low a.mac_high a.entries.now _ c.is_ignored.ensures c.if-is_ignored.true _ c.closed.ensures

pub returns-then-find_or_add_connect_token_entry : goal.returns-then-find_or_add_connect_token_entry
returns-then-find_or_add_connect_token_entry c =
    let a = c.args in
    let_in a.server a.datagram a.addr a.expire_timestamp a.token a.slots.now a.pending.now a.held.now a.out.now
    a.mac_low a.mac_high a.entries.now _ c.is_ignored.ensures c.if-is_ignored.false _ c.use_of-new_entry.ensures
    _ _ c.find_or_add_connect_token_entry.ensures c.if-find_or_add_connect_token_entry.true _ _ _ _ c.welcome.ensures

pub returns : goal.returns
returns c =
    let a = c.args in
    shut_out a.server a.datagram a.addr a.expire_timestamp a.token a.slots.now a.pending.now a.held.now a.out.now
    a.mac_low a.mac_high a.entries.now _ c.is_ignored.ensures c.if-is_ignored.false _ c.use_of-new_entry.ensures
    _ _ c.find_or_add_connect_token_entry.ensures c.if-find_or_add_connect_token_entry.false _ c.closed-2.ensures
