-- The sender's table is the one that changes, and the ask fits it.
use lib.ListN.{length}
use Rattle.turns.specs.Outcomes.{state}
use Rattle.opens.proofs.Ways.{slot_fits, pending_fits, opened_slot, opened_pending}
use Rattle.opens.proofs.packet_opened.Goals as goal

pub from_slot-requires : goal.from_slot-requires
from_slot-requires c =
    let a = c.args in
    let k =
    slot_fits a.connected a.place a.kind a.sequence a.start a.server.set.slots a.server.set.pending
    (length a.datagram.now) a.out c.requires.2 c.if-connected.true in
    (c.requires.0, k.0, k.1)

pub returns-then-connected : goal.returns-then-connected
returns-then-connected c =
    let a = c.args in
    opened_slot (state a.server a.slots.now a.pending.now) a.connected a.place a.kind a.sequence a.start a.out
    a.datagram.now c.if-connected.true _ _ c.from_slot.ensures

pub from_pending-requires : goal.from_pending-requires
from_pending-requires c =
    let a = c.args in
    let k =
    pending_fits a.connected a.place a.kind a.sequence a.start a.server.set.slots a.server.set.pending
    (length a.datagram.now) a.out c.requires.2 c.if-connected.false in
    (c.requires.1, k.0, k.1)

pub returns : goal.returns
returns c =
    let a = c.args in
    opened_pending (state a.server a.slots.now a.pending.now) a.connected a.place a.kind a.sequence a.start a.out
    a.datagram.now c.if-connected.false _ _ c.from_pending.ensures
