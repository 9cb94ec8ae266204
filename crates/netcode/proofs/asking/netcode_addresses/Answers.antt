-- The reply is that of the query, with the record that the words are.
use Rattle.netcode.proofs.Together.{filled}
use Rattle.server.specs.declared.NetcodeServer.{NetcodeServer}
use Rattle.queries.specs.Queries.{public_into}
use Rattle.netcode.proofs.asking.netcode_addresses.Goals as goal

pub returns : goal.returns
returns c =
    let a = c.args in
    filled a.words.now c.read.result c.read.ensures (λ (s : NetcodeServer). public_into s a.public_addresses.now a.list.now)
    c.addresses-told.result c.addresses-told.new.list c.addresses-told.ensures c.words.result c.words.ensures
