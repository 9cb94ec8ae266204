-- The packet is written under the slot's counter and key, and the step laid that goes on after the host's yes.
use mathlib.Core.Path.{refl}
use lib.ListN.{length, get_or}
use Rattle.netcode.specs.Told.{desk}
use Rattle.netcode.proofs.Speaks.{need_read, payload_told}
use Rattle.netcode.proofs.speaking.send_payload.Goals as goal

pub write_packet_with-wanted-requires : goal.write_packet_with-wanted-requires
write_packet_with-wanted-requires c =
    let a = c.args in
    (refl, refl, need_read a.slots.now (get_or a.words.now 0 0) a.i (length a.payload.now) (length a.out.now) _ c.sequence-sequence.ensures c.requires.2)

pub returns : goal.returns
returns c =
    let a = c.args in
    payload_told a.words.now a.slots.now a.payload.now a.out.now a.i a.answer.now a.ask.now _ c.sequence-sequence.ensures _ c.send_key-key.ensures
    c.write_packet_with-wanted.result c.write_packet_with-wanted.new.out c.write_packet_with-wanted.ensures
    (desk c.lay_asking.new.words c.lay_asking.new.answer c.lay_asking.new.ask) c.lay_asking.ensures
