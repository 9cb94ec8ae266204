-- By the challenge counter: 15, or it is raised and the challenge goes on.
use Rattle.grants.proofs.Sending.{challenge_late, challenge_sent_lem}
use Rattle.grants.proofs.challenges.challenge.Goals as goal

pub returns-then-counters : goal.returns-then-counters
returns-then-counters c =
    let a = c.args in
    challenge_late a.server a.datagram a.addr a.expire_timestamp a.token a.held.now a.out.now c.if-counters.true _ c.closed.ensures

pub returns : goal.returns
returns c =
    let a = c.args in
    challenge_sent_lem a.server a.datagram a.addr a.expire_timestamp a.token a.held.now a.out.now c.if-counters.false
    _ c.with_counters.ensures _ _ _ c.send_challenge.ensures
