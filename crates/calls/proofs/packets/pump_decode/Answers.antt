-- What `decode` answers, laid out. It leaves the window as it was, so the words lent stay.
use native.Mathlib.Omega.{arith}
use Rattle.calls.proofs.Laid.{decode_laid}
use Rattle.calls.proofs.Unguarded.{decode_left}
use Rattle.calls.proofs.packets.pump_decode.Goals as goal

pub returns : goal.returns
returns c =
    let a = c.args in
    decode_laid _ _ c.decode-decoded.result _ _ _ a.datagram.now a.protocol_id a.keyed a.key.now a.guarded a.window.now c.then_some.ensures c.guard_of.ensures c.decode-decoded.ensures c.decoded_desk.ensures c.told_of.ensures (decode_left a.window.now (omega (arith, c.fits-window)) _ _ _ a.guarded _ _ c.guard_of.ensures c.decode-decoded.ensures)
