-- What the server's own function comes to, with the record that the words are.
use Rattle.netcode.proofs.Together.{served}
use Rattle.server.specs.declared.NetcodeServer.{NetcodeServer}
use Rattle.netcode.specs.Told.{desk}
use Rattle.sending.specs.Clients.{disconnected}
use Rattle.netcode.proofs.clients.netcode_disconnect.Goals as goal

pub returns : goal.returns
returns c =
    let a = c.args in
    served a.words.now c.read.result c.read.ensures (desk a.words.now a.answer.now a.ask.now)
    (desk c.lay_turn.new.words c.lay_turn.new.answer c.lay_turn.new.told) c.disconnect-turn.result c.lay_turn.ensures
    (λ (s : NetcodeServer). disconnected s a.slots.now a.client_id a.out.now) c.disconnect-turn.new.slots c.disconnect-turn.new.out c.disconnect-turn.ensures
