-- What the server's own function comes to, with the record that the words are.
use Rattle.netcode.proofs.Together.{spoken}
use Rattle.server.specs.declared.NetcodeServer.{NetcodeServer}
use Rattle.netcode.specs.Told.{desk}
use Rattle.sending.specs.Packets.{generated}
use Rattle.netcode.proofs.clients.generate_payload_packet.Goals as goal

pub returns : goal.returns
returns c =
    let a = c.args in
    spoken a.words.now c.read.result c.read.ensures (desk a.words.now a.answer.now a.ask.now)
    (desk c.lay_turn.new.words c.lay_turn.new.answer c.lay_turn.new.told) c.generate_payload_packet-turn.result c.lay_turn.ensures
    (λ (s : NetcodeServer). generated s a.slots.now a.client_id a.payload.now a.out.now) c.generate_payload_packet-turn.new.out c.generate_payload_packet-turn.ensures
