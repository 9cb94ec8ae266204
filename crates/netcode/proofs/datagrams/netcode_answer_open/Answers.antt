-- A payload of a slot is heard the short way, and any answer the general way: both come to the same.
use native.Mathlib.Omega.{arith}
use Rattle.netcode.specs.Told.{desk}
use Rattle.netcode.proofs.Quickly.{heard_told}
use Rattle.netcode.proofs.datagrams.netcode_answer_open.Goals as goal

pub hear-requires : goal.hear-requires
hear-requires c = let h = c.is_payload.ensures c.if-is_payload.true in (h.shape, h.place, omega (arith, h.long))

pub returns-then-is_payload : goal.returns-then-is_payload
returns-then-is_payload c =
    let a = c.args in
    heard_told (desk a.words.now a.answer.now a.ask.now) (desk c.hear.new.words c.hear.new.answer c.hear.new.ask) a.granted a.slots.now c.hear.new.slots
    a.pending.now a.held.now a.out.now a.datagram.now (c.is_payload.ensures c.if-is_payload.true) c.hear.ensures
