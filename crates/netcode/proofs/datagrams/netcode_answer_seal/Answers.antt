-- The short way, where a slot's packet was sealed, and the general way come to the same.
use lib.ListN.{length}
use Rattle.netcode.specs.Told.{desk}
use Rattle.netcode.proofs.Speaks.{sent_shaped, sent_moved}
use Rattle.netcode.proofs.datagrams.netcode_answer_seal.Goals as goal

pub note_sent-requires : goal.note_sent-requires
note_sent-requires c =
    let a = c.args in
    let h = c.is_sent.ensures c.if-is_sent.true in
    (sent_shaped a.words.now a.slots.now a.pending.now a.granted (length a.out.now) h, h.place, h.more)

pub returns-then-is_sent : goal.returns-then-is_sent
returns-then-is_sent c =
    let a = c.args in
    sent_moved a.words.now a.slots.now a.pending.now a.granted (length a.out.now) (c.is_sent.ensures c.if-is_sent.true) a.held.now a.answer.now a.ask.now
    (desk c.note_sent.new.words c.note_sent.new.answer c.note_sent.new.ask) c.note_sent.new.slots c.note_sent.ensures
