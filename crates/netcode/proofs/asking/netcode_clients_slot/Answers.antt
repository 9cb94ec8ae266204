-- The reply is that of the query, with the record that the words are.
use Rattle.netcode.proofs.Together.{filled}
use mathlib.Core.Bool.{false}
use Rattle.server.specs.declared.NetcodeServer.{NetcodeServer}
use Rattle.queries.specs.Queries.{listed_into}
use Rattle.netcode.proofs.asking.netcode_clients_slot.Goals as goal

pub returns : goal.returns
returns c =
    let a = c.args in
    filled a.words.now c.read.result c.read.ensures (λ (s : NetcodeServer). listed_into s a.slots.now false a.list.now)
    c.clients_slot-told.result c.clients_slot-told.new.list c.clients_slot-told.ensures c.words.result c.words.ensures
