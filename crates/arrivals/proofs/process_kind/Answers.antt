-- By the type, and a request by its length.
use Rattle.arrivals.proofs.Ways.{request_short, request_long, sealed_kind}
use Rattle.arrivals.proofs.process_kind.Goals as goal

pub returns-then-datagram-lt-REQUEST_BYTES : goal.returns-then-datagram-lt-REQUEST_BYTES
returns-then-datagram-lt-REQUEST_BYTES c =
    let a = c.args in
    request_short a.server a.slots.now a.pending.now a.addr a.out a.datagram.now a.kind
    _ c.is_request.ensures c.if-is_request.true c.if-datagram-lt-REQUEST_BYTES.true _ c.refused.ensures

pub returns-then-is_request : goal.returns-then-is_request
returns-then-is_request c =
    let a = c.args in
    request_long a.server a.slots.now a.pending.now a.addr a.out a.datagram.now a.kind
    _ c.is_request.ensures c.if-is_request.true c.if-datagram-lt-REQUEST_BYTES.false _ c.process_request.ensures

pub returns : goal.returns
returns c =
    let a = c.args in
    sealed_kind a.server a.slots.now a.pending.now a.addr a.out a.datagram.now a.kind
    _ c.is_request.ensures c.if-is_request.false _ c.process_sealed.ensures
