-- By the slot's counter and the output's length: 15 with the slot emptied, 14, or the slot emptied and the disconnect to be sealed.
use Rattle.sending.proofs.Ways.{ending_late, ending_short, ending_asks}
use Rattle.sending.proofs.packets.end.Goals as goal

pub returns-then-sequence : goal.returns-then-sequence
returns-then-sequence c =
    let a = c.args in
    ending_late a.server a.client_id a.slots.now a.i a.out.now _ _ _ _ c.address-addr.ensures _ c.sequence-sequence.ensures c.if-sequence.true _ c.empty.ensures _ c.answered.ensures

pub returns-then-len-packet_bytes : goal.returns-then-len-packet_bytes
returns-then-len-packet_bytes c =
    let a = c.args in
    ending_short a.server a.client_id a.slots.now a.i a.out.now _ _ _ _ c.address-addr.ensures _ c.sequence-sequence.ensures c.if-sequence.false _ c.packet_bytes.ensures c.if-len-packet_bytes.true _ c.refused.ensures

pub returns : goal.returns
returns c =
    let a = c.args in
    ending_asks a.server a.client_id a.slots.now a.i a.out.now _ _ _ _ c.address-addr.ensures _ c.sequence-sequence.ensures c.if-sequence.false _ c.packet_bytes.ensures c.if-len-packet_bytes.false _
    c.send_key-key.ensures _ c.empty-2.ensures _ _ c.write_packet-ask.ensures _ c.asking.ensures
