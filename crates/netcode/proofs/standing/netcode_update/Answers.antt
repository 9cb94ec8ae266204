-- What the server's own function comes to, with the record that the words are.
use Rattle.netcode.proofs.Together.{moved_on}
use Rattle.server.specs.declared.NetcodeServer.{NetcodeServer}
use Rattle.times.specs.Times.{time}
use Rattle.upkeep.specs.Clocks.{updated}
use Rattle.netcode.proofs.standing.netcode_update.Goals as goal

pub returns : goal.returns
returns c =
    let a = c.args in
    moved_on a.words.now c.read.result c.read.ensures (λ (s : NetcodeServer). updated s a.pending.now (time a.secs a.nanos))
    c.update-step.result c.update-step.new.pending c.update-step.ensures a.answer.now c.lay_step.new.words c.lay_step.new.answer c.lay_step.ensures
