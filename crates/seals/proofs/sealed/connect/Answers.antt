-- The answer has the pending id and address, and the tables are what `waits::connect` left.
use Rattle.seals.proofs.Ways.{slot_connects}
use Rattle.seals.proofs.sealed.connect.Goals as goal

pub returns : goal.returns
returns c =
    let a = c.args in
    slot_connects a.server a.slots.now a.pending.now a.held.now a.sequence a.end a.j a.i
    _ c.client_id.ensures _ c.address.ensures _ _ c.connect.ensures.0 c.connect.ensures.1 _ c.closed.ensures
