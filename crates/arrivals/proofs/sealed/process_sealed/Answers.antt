-- Who sends decides: a place that the search gave is one of its table.
use Rattle.arrivals.proofs.Ways.{slot_there, place_there, sealed_connected, sealed_pending, sealed_unknown}
use Rattle.arrivals.proofs.sealed.process_sealed.Goals as goal

pub read_sealed-requires : goal.read_sealed-requires
read_sealed-requires c =
    let a = c.args in (
      c.requires.0,
      slot_there a.server a.slots.now a.pending.now a.addr a.out a.datagram.now
          _ c.find_sender.ensures c.requires.0 _ c.in-Connected.is,
      c.requires.2,
    )

pub read_sealed-requires-in-Pending : goal.read_sealed-requires-in-Pending
read_sealed-requires-in-Pending c =
    let a = c.args in (
      c.requires.1,
      place_there a.server a.slots.now a.pending.now a.addr a.out a.datagram.now
          _ c.find_sender.ensures c.requires.1 _ c.in-Pending.is,
      c.requires.2,
    )

pub returns-in-Connected : goal.returns-in-Connected
returns-in-Connected c =
    let a = c.args in
    sealed_connected a.server a.slots.now a.pending.now a.addr a.out a.datagram.now
    _ c.find_sender.ensures a.kind _ c.in-Connected.is _ c.read_sealed.ensures

pub returns-in-Pending : goal.returns-in-Pending
returns-in-Pending c =
    let a = c.args in
    sealed_pending a.server a.slots.now a.pending.now a.addr a.out a.datagram.now
    _ c.find_sender.ensures a.kind _ c.in-Pending.is _ c.read_sealed-in-Pending.ensures

pub returns-in-Unknown : goal.returns-in-Unknown
returns-in-Unknown c =
    let a = c.args in
    sealed_unknown a.server a.slots.now a.pending.now a.addr a.out a.datagram.now
    _ c.find_sender.ensures a.kind c.in-Unknown.is _ c.refused.ensures
