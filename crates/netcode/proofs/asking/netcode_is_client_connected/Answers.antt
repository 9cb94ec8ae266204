-- The reply is that of the query, with the record that the words are.
use Rattle.netcode.proofs.Together.{answered}
use Rattle.server.specs.declared.NetcodeServer.{NetcodeServer}
use Rattle.queries.specs.Queries.{is_connected}
use Rattle.netcode.proofs.asking.netcode_is_client_connected.Goals as goal

pub returns : goal.returns
returns c =
    let a = c.args in
    answered a.words.now c.read.result c.read.ensures (λ (s : NetcodeServer). is_connected s a.slots.now a.client_id)
    c.is_client_connected-told.result c.is_client_connected-told.ensures c.words.result c.words.ensures
