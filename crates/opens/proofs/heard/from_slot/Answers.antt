-- The window moved, and the body decides: short, or whole, and then the packet acts on the slot with its received time set.
use mathlib.Core.Path.{◌∙◌}
use Rattle.opens.proofs.Ways.{slot_whole, slot_short}
use Rattle.opens.proofs.heard.from_slot.Goals as goal

pub shape_of-slots-in-Ok : goal.shape_of-slots-in-Ok
shape_of-slots-in-Ok c = c.slot_says.auto.slots ∙ c.set_received_time.auto.t ∙ c.accept.auto.table

pub returns-in-Ok : goal.returns-in-Ok
returns-in-Ok c =
    let a = c.args in
    slot_whole a.server a.slots.now a.i a.kind a.sequence a.start a.datagram.now _ _ c.read.ensures c.accept.ensures _
    c.in-Ok.is _ c.set_received_time.ensures _ c.slot_says.ensures

pub returns-in-Err : goal.returns-in-Err
returns-in-Err c =
    let a = c.args in
    slot_short a.server a.slots.now a.i a.kind a.sequence a.start a.datagram.now _ _ c.read.ensures c.accept.ensures
    _ c.in-Err.is _ c.closed.ensures
