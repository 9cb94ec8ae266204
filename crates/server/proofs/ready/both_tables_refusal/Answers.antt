-- The first that refuses decides.
use Rattle.std.proofs.Common.{rules}
use Rattle.server.specs.Ready.{slots_refusal, pending_refusal}
use Rattle.server.proofs.Verdicts.{stops, goes_on}
use Rattle.server.proofs.ready.both_tables_refusal.Goals as goal

pub returns-in_err-slots_refusal : goal.returns-in_err-slots_refusal
returns-in_err-slots_refusal c =
    let a = c.args in
    stops (slots_refusal a.set a.slots) (pending_refusal a.set a.pending) _ c.slots_refusal.ensures _ c.in_err-slots_refusal.was _ (search rules)

pub returns : goal.returns
returns c =
    let a = c.args in
    goes_on (slots_refusal a.set a.slots) (pending_refusal a.set a.pending) _ c.slots_refusal.ensures _ c.in_ok-slots_refusal.was _ c.pending_refusal.ensures
