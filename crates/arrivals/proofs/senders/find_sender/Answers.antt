-- What the search of the slots found decides, and then that of the pending places.
use Rattle.places.specs.Finds.{find_address}
use Rattle.arrivals.proofs.Ways.{connected_at, not_connected}
use Rattle.arrivals.proofs.senders.find_sender.Goals as goal

pub returns-in-Some : goal.returns-in-Some
returns-in-Some c =
    let a = c.args in
    connected_at _ _ c.find_by_address.ensures (find_address a.pending.now a.m a.addr) _ c.in-Some.is

pub returns-in-None : goal.returns-in-None
returns-in-None c =
    let a = c.args in
    not_connected _ _ c.find_by_address.ensures (find_address a.pending.now a.m a.addr) c.in-None.is _ c.find_waiting.ensures
