-- The ask is the definition's: key, prefix byte and start are what the callees gave.
use Rattle.seals.specs.Seals.{packet_asked}
use Rattle.seals.proofs.sealed.ask_packet.Goals as goal

pub returns : goal.returns
unfolding packet_asked
returns c =
    simp (
      c.asking.ensures,
      c.packet_ask.ensures,
      c.packet_ask-ask.ensures,
      c.held_send_key.ensures,
      c.sequence_bytes_required-start.ensures,
      c.encode_prefix-prefix_byte.ensures,
      c.to_u8.ensures,
    )
