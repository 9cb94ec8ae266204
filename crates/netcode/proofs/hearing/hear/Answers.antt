-- The payload is taken, and then told.
use Rattle.netcode.specs.Told.{desk}
use Rattle.netcode.proofs.Quickly.{hears}
use Rattle.netcode.proofs.hearing.hear.Goals as goal

pub returns : goal.returns
returns c =
    let a = c.args in
    hears (desk a.words.now a.answer.now a.ask.now) (desk c.lay_quiet.new.words c.lay_quiet.new.answer c.lay_quiet.new.ask) a.slots.now c.take_payload-client_id.new.slots a.datagram
    c.take_payload-client_id.result c.take_payload-client_id.ensures c.lay_quiet.ensures
