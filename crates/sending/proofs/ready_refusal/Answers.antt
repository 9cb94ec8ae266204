-- What the slots' test came to, after the ask's.
use Rattle.server.proofs.Verdicts.{call_tested}
use Rattle.sending.proofs.ready_refusal.Goals as goal

pub returns : goal.returns
returns c = call_tested _ _ _ _ c.slots_refusal-tables.ensures c.call_refusal.ensures
