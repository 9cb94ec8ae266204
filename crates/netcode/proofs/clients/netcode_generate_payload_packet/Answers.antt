-- The short way, where nothing refuses the payload, and the general way come to the same.
use lib.ListN.{length}
use Rattle.netcode.specs.Told.{desk}
use Rattle.netcode.proofs.Speaks.{sends_at, payload_spoken}
use Rattle.netcode.proofs.clients.netcode_generate_payload_packet.Goals as goal

pub send_payload-requires : goal.send_payload-requires
send_payload-requires c =
    let a = c.args in
    let h = sends_at a.words.now a.client_id (length a.payload.now) a.slots.now (length a.out.now) _ c.can_send.ensures _ c.in-Some.is in
    (h.shape, h.place, h.room.room)

pub returns-in-Some : goal.returns-in-Some
returns-in-Some c =
    let a = c.args in
    payload_spoken a.words.now a.slots.now a.payload.now a.out.now _ a.answer.now a.ask.now a.client_id
    (sends_at a.words.now a.client_id (length a.payload.now) a.slots.now (length a.out.now) _ c.can_send.ensures _ c.in-Some.is)
    (desk c.send_payload.new.words c.send_payload.new.answer c.send_payload.new.ask) c.send_payload.new.out c.send_payload.ensures
