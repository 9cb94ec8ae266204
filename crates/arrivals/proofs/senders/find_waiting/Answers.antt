-- What the search found is the pending place, or there is none.
use Rattle.arrivals.proofs.Ways.{waits_at, waits_nowhere}
use Rattle.arrivals.proofs.senders.find_waiting.Goals as goal

pub returns-in-Some : goal.returns-in-Some
returns-in-Some c = waits_at _ _ c.find_by_address.ensures _ c.in-Some.is

pub returns-in-None : goal.returns-in-None
returns-in-None c = waits_nowhere _ _ c.find_by_address.ensures c.in-None.is
