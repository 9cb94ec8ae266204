-- Each packet is a case of the definition, by what its calls wrote and gave.
use Rattle.opens.proofs.Ways.{slot_request, slot_denied, slot_challenge, slot_response, slot_alive, slot_payload, slot_ended}
use Rattle.opens.proofs.heard.slot_says.Goals as goal

pub returns-in-ConnectionRequest : goal.returns-in-ConnectionRequest
returns-in-ConnectionRequest c =
    let a = c.args in
    slot_request a.server a.slots.now a.n a.i a.start a.end a.packet _ c.closed.ensures _ _ c.in-ConnectionRequest.is

pub returns-in-ConnectionDenied : goal.returns-in-ConnectionDenied
returns-in-ConnectionDenied c =
    let a = c.args in
    slot_denied a.server a.slots.now a.n a.i a.start a.end a.packet _ c.closed-in-ConnectionDenied.ensures c.in-ConnectionDenied.is

pub returns-in-Challenge : goal.returns-in-Challenge
returns-in-Challenge c =
    let a = c.args in
    slot_challenge a.server a.slots.now a.n a.i a.start a.end a.packet _ c.closed-in-Challenge.ensures _ c.in-Challenge.is

pub returns-in-Response : goal.returns-in-Response
returns-in-Response c =
    let a = c.args in
    slot_response a.server a.slots.now a.n a.i a.start a.end a.packet _ c.closed-in-Response.ensures _ c.in-Response.is

pub returns-in-KeepAlive : goal.returns-in-KeepAlive
returns-in-KeepAlive c =
    let a = c.args in
    slot_alive a.server a.slots.now a.n a.i a.start a.end a.packet _ c.closed-in-KeepAlive.ensures _ _ c.in-KeepAlive.is _
    c.confirm.ensures

pub returns-in-Payload : goal.returns-in-Payload
returns-in-Payload c =
    let a = c.args in
    slot_payload a.server a.slots.now a.n a.i a.start a.end a.packet _ c.in-Payload.is _ c.client_id-client_id.ensures _
    c.confirm-in-Payload.ensures c.closed-in-Payload.ensures

pub returns-in-Disconnect : goal.returns-in-Disconnect
returns-in-Disconnect c =
    let a = c.args in
    slot_ended a.server a.slots.now a.n a.i a.start a.end a.packet _ c.in-Disconnect.is _ c.client_id.ensures _
    c.address.ensures _ c.empty.ensures c.closed-in-Disconnect.ensures
