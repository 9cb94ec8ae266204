-- The short way, where nothing is due, and the general way come to the same.
use Rattle.netcode.specs.Told.{desk}
use Rattle.netcode.proofs.Speaks.{quiet_attended}
use Rattle.netcode.proofs.clients.netcode_update_client.Goals as goal

pub rest-requires : goal.rest-requires
rest-requires c = (c.is_quiet.ensures c.if-is_quiet.true).none

pub returns-then-is_quiet : goal.returns-then-is_quiet
returns-then-is_quiet c =
    let a = c.args in
    quiet_attended a.words.now a.client_id a.slots.now a.out.now (c.is_quiet.ensures c.if-is_quiet.true) a.answer.now a.ask.now
    (desk c.rest.new.words c.rest.new.answer c.rest.new.ask) c.rest.ensures
