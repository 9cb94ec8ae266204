-- By what the search found: the lowest free slot, or denied.
use Rattle.opens.proofs.Ways.{free_few, free_there, free_nowhere}
use Rattle.opens.proofs.responses.connect.Goals as goal

pub ask_connecting-requires : goal.ask_connecting-requires
ask_connecting-requires c =
    let p = c.requires in
    (p.1, p.2, free_few c.args.slots.now c.args.server.set.slots p.0 _ c.find_free.ensures _ c.in-Some.is, p.3)

pub returns-in-Some : goal.returns-in-Some
returns-in-Some c =
    let a = c.args in
    free_there a.server a.datagram a.slots.now a.pending.now a.held.now a.out.now a.j a.token _ c.find_free.ensures _
    c.in-Some.is _ c.ask_connecting.ensures

pub returns-in-None : goal.returns-in-None
returns-in-None c =
    let a = c.args in
    free_nowhere a.server a.datagram a.slots.now a.pending.now a.held.now a.out.now a.j a.token _ c.find_free.ensures
    c.in-None.is _ c.send_key-key.ensures _ c.address-addr.ensures _ _ c.deny.ensures
