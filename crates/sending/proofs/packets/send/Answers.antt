-- By the slot's counter and the output's length: 15, 14, or the packet written and the ask to seal it.
use Rattle.sending.proofs.Ways.{sending_late, sending_fits, sending_short, sending_asks}
use Rattle.sending.proofs.packets.send.Goals as goal

pub returns-then-sequence : goal.returns-then-sequence
returns-then-sequence c =
    let a = c.args in
    sending_late a.server a.i a.packet a.bytes.now a.out.now _ _ _ c.sequence-sequence.ensures c.if-sequence.true _ c.refused.ensures

pub returns-then-len-packet_bytes : goal.returns-then-len-packet_bytes
returns-then-len-packet_bytes c =
    let a = c.args in
    sending_short a.server a.i a.packet a.bytes.now a.out.now _ c.packet_type.ensures _ _ c.if-sequence.false c.packet_bytes.ensures _ _ c.sequence-sequence.ensures c.if-len-packet_bytes.true _
    c.refused-then-len-packet_bytes.ensures

pub write_packet_with-ask-requires : goal.write_packet_with-ask-requires
write_packet_with-ask-requires c =
    let a = c.args in
    sending_fits a.server a.i a.packet a.bytes.now a.out.now _ c.packet_type.ensures _ _ c.if-sequence.false c.packet_bytes.ensures c.requires.2 c.requires.3 c.if-len-packet_bytes.false

pub returns : goal.returns
returns c =
    let a = c.args in
    sending_asks a.server a.i a.packet a.bytes.now a.out.now _ c.packet_type.ensures _ _ c.if-sequence.false c.packet_bytes.ensures _ _ c.sequence-sequence.ensures c.if-len-packet_bytes.false _
    c.send_key-key.ensures _ _ c.write_packet_with-ask.ensures _ c.asking.ensures
