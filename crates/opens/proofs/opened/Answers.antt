-- Each stage is a case of the definition; the ask fits, so a packet's place and a challenge's are there.
use lib.ListN.{length}
use Rattle.turns.specs.Outcomes.{state}
use Rattle.opens.proofs.Ways.{same_fit, challenge_fits, opened_idle, opened_packet, opened_token, opened_challenge, opened_seal}
use Rattle.opens.proofs.opened.Goals as goal

pub packet_opened-requires : goal.packet_opened-requires
packet_opened-requires c =
    let a = c.args in
    let p = c.requires in
    let k =
    same_fit a.server.ask.stage _ a.server.set.slots a.server.set.pending (length a.datagram.now) (length a.out.now)
    c.in-Packet.is p.3 in
    (p.0, p.1, k)

pub respond-requires : goal.respond-requires
respond-requires c =
    let a = c.args in
    let p = c.requires in
    let k =
    challenge_fits a.server.ask.stage _ _ a.server.set.slots a.server.set.pending (length a.datagram.now)
    (length a.out.now) c.in-Challenge.is p.3 in
    (p.0, p.1, k.0, k.1, p.2)

pub returns-in-Idle : goal.returns-in-Idle
returns-in-Idle c =
    let a = c.args in
    opened_idle (state a.server a.slots.now a.pending.now) a.held.now a.out.now a.datagram.now a.server.ask.stage
    c.in-Idle.is _ c.refused.ensures

pub returns-in-Packet : goal.returns-in-Packet
returns-in-Packet c =
    let a = c.args in
    opened_packet (state a.server a.slots.now a.pending.now) a.held.now a.out.now a.datagram.now a.server.ask.stage _ _ _
    _ _ c.in-Packet.is _ _ _ c.packet_opened.ensures

pub returns-in-Token : goal.returns-in-Token
returns-in-Token c =
    let a = c.args in
    opened_token (state a.server a.slots.now a.pending.now) a.held.now a.out.now a.datagram.now a.server.ask.stage _ _ _ _
    c.in-Token.is _ c.refused-in-Token.ensures

pub returns-in-Challenge : goal.returns-in-Challenge
returns-in-Challenge c =
    let a = c.args in
    opened_challenge (state a.server a.slots.now a.pending.now) a.held.now a.out.now a.datagram.now a.server.ask.stage _ _
    c.in-Challenge.is _ _ _ _ c.respond.ensures

pub returns-in-Seal : goal.returns-in-Seal
returns-in-Seal c =
    let a = c.args in
    opened_seal (state a.server a.slots.now a.pending.now) a.held.now a.out.now a.datagram.now a.server.ask.stage _ _ _
    c.in-Seal.is _ c.refused-in-Seal.ensures
