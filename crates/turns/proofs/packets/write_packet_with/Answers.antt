-- What `encode` wrote is the packet in clear, and its ask, in the server's form, is the ask.
use Rattle.turns.proofs.Ways.{packet_written}
use Rattle.turns.proofs.packets.write_packet_with.Goals as goal

pub returns : goal.returns
returns c =
    let a = c.args in
    packet_written a.out.now a.packet a.bytes.now a.protocol_id a.key a.sequence c.requires.0 c.requires.1 c.requires.2 _ _ c.encode-encoded.ensures _ c.packet_ask.ensures
