-- By the tests before it, and then by its type.
use mathlib.Core.Path.{refl, sym}
use lib.ListN.{length}
use Rattle.refusal.proofs.Laws.{passed, refused_as, refused_some}
use Rattle.arrivals.proofs.Ways.{arrival_stops, kind_ready, type_refused, type_known}
use Rattle.arrivals.proofs.process_packet.Goals as goal

pub returns-in-Err : goal.returns-in-Err
returns-in-Err c =
    let a = c.args in
    arrival_stops a.server a.slots.now a.pending.now a.addr (length a.out.now) a.datagram.now
    _ (refused_as _ _ c.arrival_refusal.ensures _ c.in-Err.is) (refused_some _ _ c.arrival_refusal.ensures _ c.in-Err.is) _ c.refused.ensures

pub process_kind-requires : goal.process_kind-requires
process_kind-requires c =
    let a = c.args in
    kind_ready a.server a.slots.now a.pending.now a.addr (length a.out.now) a.datagram.now
    _ refl (sym (passed _ _ c.arrival_refusal.ensures _ c.in_default.is)) _ c.read_type.ensures _ c.in-Ok.is

pub returns-in-Ok : goal.returns-in-Ok
returns-in-Ok c =
    let a = c.args in
    type_known a.server a.slots.now a.pending.now a.addr (length a.out.now) a.datagram.now
    _ refl (sym (passed _ _ c.arrival_refusal.ensures _ c.in_default.is)) _ c.read_type.ensures _ c.in-Ok.is _ c.process_kind.ensures

pub returns-in-Err-read_type : goal.returns-in-Err-read_type
returns-in-Err-read_type c =
    let a = c.args in
    type_refused a.server a.slots.now a.pending.now a.addr (length a.out.now) a.datagram.now
    _ refl (sym (passed _ _ c.arrival_refusal.ensures _ c.in_default.is)) _ c.read_type.ensures _ c.in-Err-read_type.is _ c.refused-in-Err-read_type.ensures
