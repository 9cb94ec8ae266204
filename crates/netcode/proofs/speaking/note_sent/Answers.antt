-- The address is read before the slot changes, and the step laid is none.
use Rattle.netcode.specs.Told.{desk}
use Rattle.netcode.proofs.Speaks.{sent_told}
use Rattle.netcode.proofs.speaking.note_sent.Goals as goal

pub returns : goal.returns
returns c =
    let a = c.args in
    sent_told a.words.now a.slots.now a.answer.now a.ask.now c.address-addr.result c.address-addr.ensures c.put_sent.new.slots c.put_sent.ensures
    (desk c.lay_quiet.new.words c.lay_quiet.new.answer c.lay_quiet.new.ask) c.lay_quiet.ensures
