-- What the server's own function comes to, with the record that the words are.
use Rattle.netcode.proofs.Together.{served}
use Rattle.server.specs.declared.NetcodeServer.{NetcodeServer}
use Rattle.netcode.specs.Told.{desk}
use Rattle.sending.specs.Clients.{client_updated}
use Rattle.netcode.proofs.clients.update_client.Goals as goal

pub returns : goal.returns
returns c =
    let a = c.args in
    served a.words.now c.read.result c.read.ensures (desk a.words.now a.answer.now a.ask.now)
    (desk c.lay_turn.new.words c.lay_turn.new.answer c.lay_turn.new.told) c.update_client-turn.result c.lay_turn.ensures
    (λ (s : NetcodeServer). client_updated s a.slots.now a.client_id a.out.now) c.update_client-turn.new.slots c.update_client-turn.new.out c.update_client-turn.ensures
