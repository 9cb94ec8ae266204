-- Not due, and by its timeout not overdue.
use mathlib.Core.Path.{sym}
use mathlib.Core.Bool.{true≢false}
use borrow.Author.Tests.{not-true}
use Rattle.netcode.proofs.Speaks.{rests_at_0, rests_below_0, rests_on_time}
use Rattle.netcode.proofs.speaking.rests.Goals as goal

pub returns-then-is_due : goal.returns-then-is_due
returns-then-is_due c = λ e. absurd (true≢false (sym e))

pub returns-then-timeout-eq0 : goal.returns-then-timeout-eq0
returns-then-timeout-eq0 c =
    let a = c.args in
    λ _. rests_at_0 a.slots.now a.n a.i a.clock _ c.sent_time-sent.ensures _ c.is_due.ensures c.if-is_due.false _ c.timeout_seconds-timeout.ensures c.if-timeout-eq0.true

pub returns-then-timeout-ge-BELOW_ZERO : goal.returns-then-timeout-ge-BELOW_ZERO
returns-then-timeout-ge-BELOW_ZERO c =
    let a = c.args in
    λ _. rests_below_0 a.slots.now a.n a.i a.clock _ c.sent_time-sent.ensures _ c.is_due.ensures c.if-is_due.false _ c.timeout_seconds-timeout.ensures c.if-timeout-ge-BELOW_ZERO.true

pub returns : goal.returns
returns c =
    let a = c.args in
    λ e. rests_on_time a.slots.now a.n a.i a.clock _ c.sent_time-sent.ensures _ c.is_due.ensures c.if-is_due.false _ c.timeout_seconds-timeout.ensures c.if-timeout-eq0.false c.if-timeout-ge-BELOW_ZERO.false _
    c.received_time-received.ensures _ c.is_past.ensures (not-true _ e)
