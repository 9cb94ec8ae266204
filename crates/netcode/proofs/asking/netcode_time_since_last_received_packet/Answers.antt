-- The reply is that of the query, with the record that the words are.
use Rattle.netcode.proofs.Together.{answered}
use Rattle.server.specs.declared.NetcodeServer.{NetcodeServer}
use Rattle.queries.specs.Queries.{time_since}
use Rattle.netcode.proofs.asking.netcode_time_since_last_received_packet.Goals as goal

pub returns : goal.returns
returns c =
    let a = c.args in
    answered a.words.now c.read.result c.read.ensures (λ (s : NetcodeServer). time_since s a.slots.now a.client_id)
    c.time_since_last_received_packet-told.result c.time_since_last_received_packet-told.ensures c.words.result c.words.ensures
