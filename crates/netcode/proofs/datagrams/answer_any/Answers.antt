-- What the server's own function comes to, with the record that the words are.
use Rattle.netcode.proofs.Together.{opened}
use Rattle.server.specs.declared.NetcodeServer.{NetcodeServer}
use Rattle.netcode.specs.Told.{desk}
use Rattle.turns.specs.Outcomes.{state}
use Rattle.opens.specs.Opens.{opens}
use Rattle.netcode.specs.Calls.{yes?}
use Rattle.netcode.proofs.datagrams.answer_any.Goals as goal

pub returns : goal.returns
returns c =
    let a = c.args in
    opened a.words.now c.read.result c.read.ensures (desk a.words.now a.answer.now a.ask.now)
    (desk c.lay_turn.new.words c.lay_turn.new.answer c.lay_turn.new.told) c.answer_open-turn.result c.lay_turn.ensures
    (λ (s : NetcodeServer). opens (state s a.slots.now a.pending.now) (yes? a.granted) a.held.now a.out.now a.datagram.now) c.answer_open-turn.new.slots c.answer_open-turn.new.pending c.answer_open-turn.new.held c.answer_open-turn.new.out c.answer_open-turn.ensures
