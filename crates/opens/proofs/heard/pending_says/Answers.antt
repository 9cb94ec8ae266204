-- Each packet is a case of the definition; only a response asks for something, and its body has the 308 bytes that the ask needs.
use Rattle.opens.proofs.Ways.{pending_request, pending_denied, pending_challenge, pending_response, pending_alive, pending_payload, pending_ended, response_long}
use Rattle.opens.proofs.heard.pending_says.Goals as goal

pub ask_challenge-requires : goal.ask_challenge-requires
ask_challenge-requires c = response_long c.args.packet _ c.args.start c.args.datagram c.in-Response.is c.requires

pub returns-in-ConnectionRequest : goal.returns-in-ConnectionRequest
returns-in-ConnectionRequest c =
    let a = c.args in
    pending_request a.server a.j a.start a.datagram a.out a.packet _ c.closed.ensures _ _ c.in-ConnectionRequest.is

pub returns-in-ConnectionDenied : goal.returns-in-ConnectionDenied
returns-in-ConnectionDenied c =
    let a = c.args in
    pending_denied a.server a.j a.start a.datagram a.out a.packet _ c.closed-in-ConnectionDenied.ensures c.in-ConnectionDenied.is

pub returns-in-Challenge : goal.returns-in-Challenge
returns-in-Challenge c =
    let a = c.args in
    pending_challenge a.server a.j a.start a.datagram a.out a.packet _ c.closed-in-Challenge.ensures _ c.in-Challenge.is

pub returns-in-Response : goal.returns-in-Response
returns-in-Response c =
    let a = c.args in
    pending_response a.server a.j a.start a.datagram a.out a.packet _ _ c.in-Response.is c.ask_challenge.ensures

pub returns-in-KeepAlive : goal.returns-in-KeepAlive
returns-in-KeepAlive c =
    let a = c.args in
    pending_alive a.server a.j a.start a.datagram a.out a.packet _ c.closed-in-KeepAlive.ensures _ _ c.in-KeepAlive.is

pub returns-in-Payload : goal.returns-in-Payload
returns-in-Payload c =
    let a = c.args in
    pending_payload a.server a.j a.start a.datagram a.out a.packet _ c.closed-in-Payload.ensures c.in-Payload.is

pub returns-in-Disconnect : goal.returns-in-Disconnect
returns-in-Disconnect c =
    let a = c.args in
    pending_ended a.server a.j a.start a.datagram a.out a.packet _ c.closed-in-Disconnect.ensures c.in-Disconnect.is
