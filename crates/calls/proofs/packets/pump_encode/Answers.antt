-- What `encode` answers, laid out; a type over 6 is no packet.
use mathlib.Core.Path.{sym, ap, ◌∙◌}
use Rattle.calls.specs.Desk.{refused_desk}
use Rattle.calls.proofs.Laid.{encode_laid, untyped_laid}
use Rattle.calls.proofs.packets.pump_encode.Goals as goal

pub returns-in-Ok : goal.returns-in-Ok
returns-in-Ok c =
    let a = c.args in
    encode_laid _ _ _ c.encode-encoded.result _ _ _ a.out.now a.kind a.a a.b a.bytes.now a.protocol_id a.keyed a.key.now a.sequence (sym c.from_u8.ensures ∙ c.in-Ok.is) c.packet_of-packet.ensures c.then_some.ensures c.encode-encoded.ensures c.encoded_desk.ensures c.told_of.ensures

pub returns-in-Err : goal.returns-in-Err
returns-in-Err c =
    let a = c.args in
    untyped_laid _ a.out.now a.kind a.a a.b a.bytes.now a.protocol_id a.keyed a.key.now a.sequence (sym c.from_u8.ensures ∙ c.in-Err.is) (c.refused_desk.ensures ∙ ap refused_desk (c.from.ensures ∙ c.number.ensures))
