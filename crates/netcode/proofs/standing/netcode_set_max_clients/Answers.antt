-- What the server's own function comes to, with the record that the words are.
use Rattle.netcode.proofs.Together.{limited_to}
use Rattle.server.specs.declared.NetcodeServer.{NetcodeServer}
use Rattle.upkeep.specs.Limits.{limited}
use Rattle.netcode.proofs.standing.netcode_set_max_clients.Goals as goal

pub returns : goal.returns
returns c =
    let a = c.args in
    limited_to a.words.now c.read.result c.read.ensures (λ (s : NetcodeServer). limited s a.max_clients)
    c.set_max_clients-step.result c.set_max_clients-step.ensures a.answer.now c.lay_step.new.words c.lay_step.new.answer c.lay_step.ensures
