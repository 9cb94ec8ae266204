-- What the head's reading gave decides.
use Rattle.arrivals.proofs.Ways.{head_refused, head_read}
use Rattle.arrivals.proofs.sealed.read_sealed.Goals as goal

pub returns-in-Ok : goal.returns-in-Ok
returns-in-Ok c =
    let a = c.args in
    head_read a.server a.table.now a.n a.connected a.i a.kind a.out a.datagram.now
    _ c.read_start.ensures _ c.in-Ok.is _ c.test_sealed.ensures

pub returns-in-Err : goal.returns-in-Err
returns-in-Err c =
    let a = c.args in
    head_refused a.server a.table.now a.n a.connected a.i a.kind a.out a.datagram.now
    _ c.read_start.ensures _ c.in-Err.is _ c.refused.ensures
