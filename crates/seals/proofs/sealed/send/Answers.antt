-- The answer has the slot's address, and the slots are what `waits::sent_under` left.
use Rattle.seals.proofs.Ways.{slot_sends}
use Rattle.seals.proofs.sealed.send.Goals as goal

pub returns : goal.returns
returns c =
    let a = c.args in
    slot_sends a.server a.slots.now a.i a.sequence a.end _ c.address-addr.ensures _ c.sent_under.ensures _ c.closed.ensures
