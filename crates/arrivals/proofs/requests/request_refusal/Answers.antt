-- By the version, then by the protocol, then by the expiry.
use mathlib.Core.Path.{ap}
use mathlib.Core.Bool.{not}
use Prim.Native.Nat.{◌≤◌}
use native.Mathlib.Omega.{arith}
use Rattle.refusal.proofs.Laws.{passes, refuses_as}
use Rattle.arrivals.proofs.Ways.{other_version, other_protocol, expired, in_time}
use Rattle.arrivals.proofs.requests.request_refusal.Goals as goal

pub returns-then-not-same_bytes : goal.returns-then-not-same_bytes
returns-then-not-same_bytes c =
    let a = c.args in
    refuses_as _ 10 (λ z. omega arith) (other_version a.server a.datagram.now _ c.same_bytes.ensures (ap not c.if-not-same_bytes.true))

pub returns-then-read_u64-set : goal.returns-then-read_u64-set
returns-then-read_u64-set c =
    let a = c.args in
    refuses_as _ 11 (λ z. omega arith)
    (other_protocol a.server a.datagram.now _ c.same_bytes.ensures (ap not c.if-not-same_bytes.false) _ c.read_u64.ensures c.if-read_u64-set.true)

pub returns-then-now-read_u64 : goal.returns-then-now-read_u64
returns-then-now-read_u64 c =
    let a = c.args in
    let h : c.read_u64-2.result ≤ a.server.current_time.secs = omega (arith, c.if-now-read_u64.true) in
    refuses_as _ 12 (λ z. omega arith)
    (expired a.server a.datagram.now _ c.same_bytes.ensures (ap not c.if-not-same_bytes.false) _ c.read_u64.ensures c.if-read_u64-set.false _ c.read_u64-2.ensures h)

pub returns : goal.returns
returns c =
    let a = c.args in
    passes _
    (in_time a.server a.datagram.now _ c.same_bytes.ensures (ap not c.if-not-same_bytes.false) _ c.read_u64.ensures c.if-read_u64-set.false
    _ c.read_u64-2.ensures c.if-now-read_u64.false)
