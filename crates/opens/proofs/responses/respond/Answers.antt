-- The pending place is emptied; a slot with the challenge's id, or none, decides the rest.
use Rattle.opens.proofs.Ways.{response_repeated, response_new}
use Rattle.opens.proofs.responses.respond.Goals as goal

pub returns-in-Some : goal.returns-in-Some
returns-in-Some c =
    let a = c.args in
    response_repeated a.server a.slots.now a.pending.now a.held.now a.out.now a.j a.at a.datagram.now _
    c.read-token.ensures _ c.empty.ensures _ c.find_by_id.ensures _ c.in-Some.is _ c.closed.ensures

pub returns-in-None : goal.returns-in-None
returns-in-None c =
    let a = c.args in
    response_new a.server a.slots.now a.pending.now a.held.now a.out.now a.j a.at a.datagram.now _ c.read-token.ensures _
    c.empty.ensures _ c.find_by_id.ensures c.in-None.is _ _ _ c.connect.ensures
