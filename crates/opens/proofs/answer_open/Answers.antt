-- Refused, or a yes by the ask's stage, or a no; what the tests let through is what a yes needs.
use mathlib.Core.Path.{refl}
use Rattle.refusal.proofs.Laws.{passed, refused_as, refused_some}
use lib.ListN.{length}
use Rattle.turns.specs.Outcomes.{state}
use Rattle.opens.proofs.Ways.{answer_ready, answer_stops, answer_granted, answer_declined}
use Rattle.opens.proofs.answer_open.Goals as goal

pub returns-in-Err : goal.returns-in-Err
returns-in-Err c =
    let a = c.args in
    answer_stops (state a.server a.slots.now a.pending.now) a.granted a.held.now a.out.now a.datagram.now _
    (refused_as _ _ c.answer_refusal.ensures _ c.in-Err.is) (refused_some _ _ c.answer_refusal.ensures _ c.in-Err.is) _ c.refused.ensures

pub opened-requires : goal.opened-requires
opened-requires c =
    let a = c.args in
    answer_ready (state a.server a.slots.now a.pending.now) (length a.datagram.now) (length a.out.now) _
    (passed _ _ c.answer_refusal.ensures _ c.in_default.is) refl

pub returns-then-granted : goal.returns-then-granted
returns-then-granted c =
    let a = c.args in
    answer_granted (state a.server a.slots.now a.pending.now) a.granted a.held.now a.out.now a.datagram.now _
    (passed _ _ c.answer_refusal.ensures _ c.in_default.is) refl c.if-granted.true _ _ _ _ _ c.opened.ensures

pub returns : goal.returns
returns c =
    let a = c.args in
    answer_declined (state a.server a.slots.now a.pending.now) a.granted a.held.now a.out.now a.datagram.now _
    (passed _ _ c.answer_refusal.ensures _ c.in_default.is) refl c.if-granted.false _ c.closed.ensures
