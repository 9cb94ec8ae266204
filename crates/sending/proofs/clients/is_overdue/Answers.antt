-- A timeout of 0, or below 0, is never passed; over 0 the clock decides.
use Rattle.sending.proofs.Ways.{never_at_0, never_below_0, overdue_by_past}
use Rattle.sending.proofs.clients.is_overdue.Goals as goal

pub returns-then-timeout-eq0 : goal.returns-then-timeout-eq0
returns-then-timeout-eq0 c =
    let a = c.args in
    never_at_0 _ _ c.timeout_seconds-timeout.ensures _ a.server.current_time c.if-timeout-eq0.true

pub returns-then-timeout-ge-BELOW_ZERO : goal.returns-then-timeout-ge-BELOW_ZERO
returns-then-timeout-ge-BELOW_ZERO c =
    let a = c.args in
    never_below_0 _ _ c.timeout_seconds-timeout.ensures _ a.server.current_time c.if-timeout-ge-BELOW_ZERO.true

pub returns : goal.returns
returns c =
    let a = c.args in
    overdue_by_past _ _ c.timeout_seconds-timeout.ensures _ a.server.current_time c.if-timeout-eq0.false c.if-timeout-ge-BELOW_ZERO.false _ c.received_time-received.ensures _ c.is_past.ensures
