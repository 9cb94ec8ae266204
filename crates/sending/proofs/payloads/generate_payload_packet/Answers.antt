-- The tests, and then what the search found: the payload sent from its slot, or 22.
use Rattle.refusal.proofs.Laws.{passed, refused_as, refused_some}
use mathlib.Core.Path.{refl}
use Rattle.sending.proofs.Ways.{found_below, generate_refused, generate_shaped, generate_small, generate_found, generate_missed}
use Rattle.sending.proofs.payloads.generate_payload_packet.Goals as goal

pub returns-in-Err : goal.returns-in-Err
returns-in-Err c =
    let a = c.args in
    generate_refused a.server a.slots.now a.client_id a.payload.now a.out.now _ (refused_as _ _ c.payload_refusal.ensures _ c.in-Err.is) (refused_some _ _ c.payload_refusal.ensures _ c.in-Err.is) _ c.refused.ensures

pub find_by_id-requires : goal.find_by_id-requires
find_by_id-requires c =
    let a = c.args in
    generate_shaped a.server a.slots.now a.client_id a.payload.now a.out.now _ (passed _ _ c.payload_refusal.ensures _ c.in_default.is) refl

pub send-requires : goal.send-requires
send-requires c =
    let a = c.args in
    let z = generate_shaped a.server a.slots.now a.client_id a.payload.now a.out.now _ (passed _ _ c.payload_refusal.ensures _ c.in_default.is) refl in (
      z,
      found_below a.slots.now a.server.set.slots a.client_id z _ c.find_by_id.ensures _ c.in-Some.is,
      refl,
      refl,
      generate_small a.server a.slots.now a.client_id a.payload.now a.out.now _ (passed _ _ c.payload_refusal.ensures _ c.in_default.is) refl,
    )

pub returns-in-Some : goal.returns-in-Some
returns-in-Some c =
    let a = c.args in
    generate_found a.server a.slots.now a.client_id a.payload.now a.out.now _ (passed _ _ c.payload_refusal.ensures _ c.in_default.is) refl _ c.find_by_id.ensures _ c.in-Some.is _ c.send.ensures

pub returns-in-None : goal.returns-in-None
returns-in-None c =
    let a = c.args in
    generate_missed a.server a.slots.now a.client_id a.payload.now a.out.now _ (passed _ _ c.payload_refusal.ensures _ c.in_default.is) refl _ c.find_by_id.ensures c.in-None.is _ c.refused-in-None.ensures
