-- By the global counter: 15, or the packet written and the ask to seal its token.
use Prim.Native.Nat.{◌^◌, ◌<◌}
use Rattle.grants.proofs.Sending.{token_ends, send_late, send_asks}
use borrow.Author.Rules.{rules}
use Rattle.grants.proofs.challenges.send_challenge.Goals as goal

pub returns-then-sequence : goal.returns-then-sequence
returns-then-sequence c =
    let a = c.args in
    send_late a.server a.datagram a.addr a.expire_timestamp a.token a.held.now a.out.now c.if-sequence.true _ c.closed.ensures

pub overflow_add-stage : goal.overflow_add-stage
overflow_add-stage c =
    let a = c.args in
    let n = c.args.server.counters in
    let b : n.global_sequence < 256 ^ 8 = search rules in
    let k = token_ends n.global_sequence n.challenge_sequence a.server.set.challenge_key a.out.now a.token.client_id a.token.user_data b _ _ c.write_challenge-ask.ensures in
    search rules

pub returns : goal.returns
returns c =
    let a = c.args in
    send_asks a.server a.datagram a.addr a.expire_timestamp a.token a.held.now a.out.now c.if-sequence.false
    _ _ c.write_challenge-ask.ensures _ c.hold.ensures _ c.asking.ensures
