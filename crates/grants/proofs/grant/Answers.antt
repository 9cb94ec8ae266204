-- By the stage, and a private token's by whether its list is foreign.
use Rattle.grants.proofs.Ways.{at_idle, at_packet, at_challenge, at_seal, token_foreign, token_considered}
use Rattle.grants.proofs.grant.Goals as goal

pub returns-then-is_foreign : goal.returns-then-is_foreign
returns-then-is_foreign c =
    let a = c.args in
    token_foreign a.server a.token a.list.now a.slots.now a.pending.now a.entries.now a.public.now a.held.now a.out.now a.datagram
    a.server.ask.stage _ _ _ _ c.in-Token.is _ c.is_foreign.ensures c.if-is_foreign.true _ c.closed.ensures

pub returns-in-Idle : goal.returns-in-Idle
returns-in-Idle c =
    let a = c.args in
    at_idle a.server a.token a.list.now a.slots.now a.pending.now a.entries.now a.public.now a.held.now a.out.now a.datagram
    a.server.ask.stage c.in-Idle.is _ c.refused.ensures

pub returns-in-Packet : goal.returns-in-Packet
returns-in-Packet c =
    let a = c.args in
    at_packet a.server a.token a.list.now a.slots.now a.pending.now a.entries.now a.public.now a.held.now a.out.now a.datagram
    a.server.ask.stage _ _ _ _ _ c.in-Packet.is _ c.refused-in-Packet.ensures

pub returns-else-is_foreign : goal.returns-else-is_foreign
returns-else-is_foreign c =
    let l = c.consider.new.pending in
    let a = c.args in
    token_considered a.server a.token a.list.now a.slots.now a.pending.now a.entries.now a.public.now a.held.now a.out.now a.datagram
    a.server.ask.stage _ _ _ _ c.in-Token.is _ c.is_foreign.ensures c.if-is_foreign.false c.consider.result l c.consider.new.entries c.consider.new.held c.consider.new.out c.consider.ensures

pub returns-in-Challenge : goal.returns-in-Challenge
returns-in-Challenge c =
    let a = c.args in
    at_challenge a.server a.token a.list.now a.slots.now a.pending.now a.entries.now a.public.now a.held.now a.out.now a.datagram
    a.server.ask.stage _ _ c.in-Challenge.is _ c.refused-in-Challenge.ensures

pub returns-in-Seal : goal.returns-in-Seal
returns-in-Seal c =
    let a = c.args in
    at_seal a.server a.token a.list.now a.slots.now a.pending.now a.entries.now a.public.now a.held.now a.out.now a.datagram
    a.server.ask.stage _ _ _ c.in-Seal.is _ c.refused-in-Seal.ensures
