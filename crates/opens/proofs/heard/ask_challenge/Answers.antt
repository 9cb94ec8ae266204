-- The token's ask, in the server's form, is what is asked for.
use Rattle.opens.proofs.Ways.{challenge_asked_lem}
use Rattle.opens.proofs.heard.ask_challenge.Goals as goal

pub returns : goal.returns
returns c =
    let a = c.args in
    challenge_asked_lem a.server a.j a.token_sequence a.start a.datagram a.out _ c.token_ask-ask.ensures _ c.packet_ask.ensures _
    c.asking.ensures
