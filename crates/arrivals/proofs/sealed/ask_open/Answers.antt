-- The packet's ask in the server's form, under the record's key.
use Rattle.arrivals.proofs.Ways.{open_asked_lem}
use Rattle.arrivals.proofs.sealed.ask_open.Goals as goal

pub returns : goal.returns
returns c =
    let a = c.args in
    open_asked_lem a.server a.table.now a.n a.connected a.i a.kind a.sequence a.start a.out a.datagram.now
    _ c.receive_key-key.ensures _ c.packet_ask-ask.ensures _ c.packet_ask.ensures _ c.asking.ensures
