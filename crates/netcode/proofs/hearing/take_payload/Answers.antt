-- The window, the received time and the mark of a confirmed slot are set one after the other.
use Rattle.netcode.proofs.Quickly.{takes}
use Rattle.netcode.proofs.hearing.take_payload.Goals as goal

pub returns : goal.returns
returns c =
    let a = c.args in
    takes a.words.now a.slots.now c.advance_window.new.t c.set_received_time.new.t c.confirm.new.t c.client_id-client_id.result c.advance_window.ensures
    c.set_received_time.ensures c.client_id-client_id.ensures c.confirm.ensures
