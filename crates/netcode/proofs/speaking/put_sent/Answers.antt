-- The counter, and then the sent time.
use Rattle.netcode.proofs.Speaks.{slot_noted}
use Rattle.netcode.proofs.speaking.put_sent.Goals as goal

pub returns : goal.returns
returns c =
    let a = c.args in
    slot_noted a.words.now a.slots.now c.set_sequence.new.t c.set_sent_time.new.t c.set_sequence.ensures c.set_sent_time.ensures
