-- The ask under the slot's receive key, and the step that goes on with it.
use Rattle.netcode.specs.Told.{desk}
use Rattle.netcode.proofs.Quickly.{asks_open}
use Rattle.netcode.proofs.hearing.ask_open.Goals as goal

pub returns : goal.returns
returns c =
    let a = c.args in
    asks_open (desk a.words.now a.answer.now a.ask.now) (desk c.lay_asking.new.words c.lay_asking.new.answer c.lay_asking.new.ask) a.slots.now _ a.seen.place a.seen.kind a.seen.sequence
    a.seen.start a.out a.datagram.now c.receive_key-key.result c.to_u8-number.result c.packet_ask-asked.result c.packet_ask-wanted.result c.receive_key-key.ensures c.to_u8-number.ensures c.packet_ask-asked.ensures c.packet_ask-wanted.ensures
    c.lay_asking.ensures
