-- What the server's own function comes to, with the record that the words are.
use Rattle.netcode.proofs.Together.{arrived}
use Rattle.server.specs.declared.NetcodeServer.{NetcodeServer}
use Rattle.netcode.specs.Told.{desk}
use Rattle.turns.specs.Outcomes.{state}
use lib.ListN.{length}
use Rattle.seals.specs.Seals.{seals}
use Rattle.netcode.specs.Calls.{yes?}
use Rattle.netcode.proofs.datagrams.answer_seal.Goals as goal

pub returns : goal.returns
returns c =
    let a = c.args in
    arrived a.words.now c.read.result c.read.ensures (desk a.words.now a.answer.now a.ask.now)
    (desk c.lay_turn.new.words c.lay_turn.new.answer c.lay_turn.new.told) c.answer_seal-turn.result c.lay_turn.ensures
    (λ (s : NetcodeServer). seals (state s a.slots.now a.pending.now) (yes? a.granted) a.held.now (length a.out.now)) c.answer_seal-turn.new.slots c.answer_seal-turn.new.pending c.answer_seal-turn.ensures
