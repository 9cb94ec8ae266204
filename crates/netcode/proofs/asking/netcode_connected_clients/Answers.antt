-- The reply is that of the query, with the record that the words are.
use Rattle.netcode.proofs.Together.{answered}
use Rattle.server.specs.declared.NetcodeServer.{NetcodeServer}
use Rattle.queries.specs.Queries.{connected_clients}
use Rattle.netcode.proofs.asking.netcode_connected_clients.Goals as goal

pub returns : goal.returns
returns c =
    let a = c.args in
    answered a.words.now c.read.result c.read.ensures (λ (s : NetcodeServer). connected_clients s a.slots.now)
    c.connected_clients-told.result c.connected_clients-told.ensures c.words.result c.words.ensures
