-- What the server's own function comes to, with the record that the words are.
use Rattle.netcode.proofs.Together.{arrived}
use Rattle.server.specs.declared.NetcodeServer.{NetcodeServer}
use Rattle.netcode.specs.Told.{desk}
use Rattle.turns.specs.Outcomes.{state}
use lib.ListN.{length}
use Rattle.arrivals.specs.Arrivals.{arrives}
use Rattle.netcode.proofs.datagrams.process_any.Goals as goal

pub returns : goal.returns
returns c =
    let a = c.args in
    arrived a.words.now c.read.result c.read.ensures (desk a.words.now a.answer.now a.ask.now)
    (desk c.lay_turn.new.words c.lay_turn.new.answer c.lay_turn.new.told) c.process_packet-turn.result c.lay_turn.ensures
    (λ (s : NetcodeServer). arrives (state s a.slots.now a.pending.now) a.addr (length a.out.now) a.datagram.now) c.process_packet-turn.new.slots c.process_packet-turn.new.pending
    c.process_packet-turn.ensures
