-- The window moved, and the body decides: short, or whole, and then the received time is set and the packet says what follows.
use Rattle.opens.proofs.Ways.{body_fits, pending_whole, pending_short}
use Rattle.opens.proofs.heard.from_pending.Goals as goal

pub pending_says-requires : goal.pending_says-requires
pending_says-requires c = body_fits c.args.kind c.args.datagram.now c.args.start c.requires.2 _ c.read.ensures _ c.in-Ok.is

pub returns-in-Ok : goal.returns-in-Ok
returns-in-Ok c =
    let a = c.args in
    pending_whole a.server a.pending.now a.j a.kind a.sequence a.start a.datagram.now _ _ c.read.ensures
    c.accept.ensures a.out _ c.in-Ok.is _ c.set_received_time.ensures _ c.pending_says.ensures

pub returns-in-Err : goal.returns-in-Err
returns-in-Err c =
    let a = c.args in
    pending_short a.server a.pending.now a.j a.kind a.sequence a.start a.datagram.now _ _ c.read.ensures
    c.accept.ensures a.out _ c.in-Err.is _ c.closed.ensures
