-- The reply is that of the query, with the record that the words are.
use Rattle.netcode.proofs.Together.{answered}
use Rattle.server.specs.declared.NetcodeServer.{NetcodeServer}
use Rattle.queries.specs.Queries.{client_address}
use Rattle.netcode.proofs.asking.netcode_client_addr.Goals as goal

pub returns : goal.returns
returns c =
    let a = c.args in
    answered a.words.now c.read.result c.read.ensures (λ (s : NetcodeServer). client_address s a.slots.now a.client_id)
    c.client_addr-told.result c.client_addr-told.ensures c.words.result c.words.ensures
