-- By the two tests: ended, kept alive, or left alone.
use Rattle.sending.proofs.Ways.{slot_ends, slot_sends, slot_rests}
use Rattle.sending.proofs.clients.update_slot.Goals as goal

pub returns-then-is_overdue : goal.returns-then-is_overdue
returns-then-is_overdue c =
    let a = c.args in
    slot_ends a.server a.client_id a.slots.now a.i a.out.now _ c.is_overdue.ensures c.if-is_overdue.true _ c.end.ensures

pub returns-then-is_silent : goal.returns-then-is_silent
returns-then-is_silent c =
    let a = c.args in
    slot_sends a.server a.client_id a.slots.now a.i a.out.now _ c.is_overdue.ensures c.if-is_overdue.false _ c.is_silent.ensures c.if-is_silent.true _ _ c.send_keep_alive.ensures

pub returns : goal.returns
returns c =
    let a = c.args in
    slot_rests a.server a.client_id a.slots.now a.i a.out.now _ c.is_overdue.ensures c.if-is_overdue.false _ c.is_silent.ensures c.if-is_silent.false _ c.answered.ensures
