-- The reply is that of the query, with the record that the words are.
use Rattle.netcode.proofs.Together.{filled}
use Rattle.server.specs.declared.NetcodeServer.{NetcodeServer}
use Rattle.queries.specs.Queries.{user_data_of}
use Rattle.netcode.proofs.asking.netcode_user_data.Goals as goal

pub returns : goal.returns
returns c =
    let a = c.args in
    filled a.words.now c.read.result c.read.ensures (λ (s : NetcodeServer). user_data_of s a.slots.now a.client_id a.out.now)
    c.user_data-told.result c.user_data-told.new.out c.user_data-told.ensures c.words.result c.words.ensures
