-- What the server's own function comes to, with the record that the words are.
use Rattle.netcode.proofs.Together.{granted}
use Rattle.server.specs.declared.NetcodeServer.{NetcodeServer}
use Rattle.netcode.specs.Told.{desk}
use Rattle.turns.specs.Outcomes.{state}
use lib.ListN.{length}
use Rattle.grants.specs.Grants.{grants}
use Rattle.netcode.specs.Calls.{yes?, token_of}
use Rattle.netcode.proofs.datagrams.netcode_answer_token.Goals as goal

pub returns : goal.returns
returns c =
    let a = c.args in
    granted a.words.now c.read.result c.read.ensures (desk a.words.now a.answer.now a.ask.now)
    (desk c.lay_turn.new.words c.lay_turn.new.answer c.lay_turn.new.told) c.answer_token-turn.result c.lay_turn.ensures
    (λ (s : NetcodeServer). grants (state s a.slots.now a.pending.now) (yes? a.granted) (token_of a.client_id a.timeout_seconds a.server_to_client_key.now a.client_to_server_key.now a.user_data.now) a.server_addresses.now a.entries.now a.public_addresses.now a.held.now a.out.now (length a.datagram.now)) a.slots.now c.answer_token-turn.new.pending c.answer_token-turn.new.entries c.answer_token-turn.new.held c.answer_token-turn.new.out c.answer_token-turn.ensures
