-- Who sends decides: a place that the search gave is one of its table.
use Rattle.arrivals.proofs.Ways.{slot_there, place_there, request_connected, request_pending, request_unknown}
use Rattle.arrivals.proofs.requests.process_request.Goals as goal

pub set_received_time-requires : goal.set_received_time-requires
set_received_time-requires c =
    let a = c.args in (
      c.requires.0,
      slot_there a.server a.slots.now a.pending.now a.addr a.out a.datagram.now
          _ c.find_sender.ensures c.requires.0 _ c.in-Connected.is,
    )

pub set_received_time-requires-in-Pending : goal.set_received_time-requires-in-Pending
set_received_time-requires-in-Pending c =
    let a = c.args in (
      c.requires.1,
      place_there a.server a.slots.now a.pending.now a.addr a.out a.datagram.now
          _ c.find_sender.ensures c.requires.1 _ c.in-Pending.is,
    )

pub returns-in-Connected : goal.returns-in-Connected
returns-in-Connected c =
    let a = c.args in
    request_connected a.server a.slots.now a.pending.now a.addr a.out a.datagram.now
    _ c.find_sender.ensures _ c.in-Connected.is _ c.set_received_time.ensures _ c.answered.ensures

pub returns-in-Pending : goal.returns-in-Pending
returns-in-Pending c =
    let a = c.args in
    request_pending a.server a.slots.now a.pending.now a.addr a.out a.datagram.now
    _ c.find_sender.ensures _ c.in-Pending.is _ c.set_received_time-in-Pending.ensures _ c.read_request.ensures

pub returns-in-Unknown : goal.returns-in-Unknown
returns-in-Unknown c =
    let a = c.args in
    request_unknown a.server a.slots.now a.pending.now a.addr a.out a.datagram.now
    _ c.find_sender.ensures c.in-Unknown.is _ c.read_request-in-Unknown.ensures
