-- Each arm is a case of the definition; a seal that fits has its goal's places and a counter that can be raised.
use Prim.Native.Nat.{◌^◌, ◌<◌}
use Rattle.seals.proofs.Ways.{seal_fits, idle_refused, packet_refused, token_refused, challenge_refused, host_grants, host_denies}
use borrow.Author.Rules.{rules}
use Rattle.seals.proofs.by_stage.Goals as goal

pub sealed-requires : goal.sealed-requires
sealed-requires c =
    let s = c.args.server in
    let w : c.in-Seal.sequence < 256 ^ 8 = search rules in
    let k = seal_fits s.ask.stage s.set.slots s.set.pending s.ask.datagram c.args.out c.requires.2 _ _ _ c.in-Seal.is w in
    (c.requires.0, c.requires.1, k.0, k.1)

pub returns-then-granted : goal.returns-then-granted
returns-then-granted c =
    let a = c.args in
    host_grants a.server a.slots.now a.pending.now a.granted a.held.now a.out
    _ _ _ c.in-Seal.is c.if-granted.true _ _ _ c.sealed.ensures

pub returns-in-Idle : goal.returns-in-Idle
returns-in-Idle c =
    let a = c.args in
    idle_refused a.server a.slots.now a.pending.now a.granted a.held.now a.out c.in-Idle.is _ c.refused.ensures

pub returns-in-Packet : goal.returns-in-Packet
returns-in-Packet c =
    let a = c.args in
    packet_refused a.server a.slots.now a.pending.now a.granted a.held.now a.out _ _ _ _ _ c.in-Packet.is _ c.refused-in-Packet.ensures

pub returns-in-Token : goal.returns-in-Token
returns-in-Token c =
    let a = c.args in
    token_refused a.server a.slots.now a.pending.now a.granted a.held.now a.out _ _ _ _ c.in-Token.is _ c.refused-in-Token.ensures

pub returns-in-Challenge : goal.returns-in-Challenge
returns-in-Challenge c =
    let a = c.args in
    challenge_refused a.server a.slots.now a.pending.now a.granted a.held.now a.out _ _ c.in-Challenge.is _ c.refused-in-Challenge.ensures

pub returns-else-granted : goal.returns-else-granted
returns-else-granted c =
    let a = c.args in
    host_denies a.server a.slots.now a.pending.now a.granted a.held.now a.out
    _ _ _ c.in-Seal.is c.if-granted.false _ c.unsealed.ensures
