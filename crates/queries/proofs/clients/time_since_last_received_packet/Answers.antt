-- The slots' test, and then what the search found.
use mathlib.Core.Path.{refl, sym, ap, ◌∙◌}
use Rattle.refusal.proofs.Laws.{passed, refused_as, refused_some}
use Rattle.queries.specs.declared.Reply.TheVariants.{Refused, Since}
use Rattle.times.specs.Times.{since}
use Rattle.queries.specs.Queries.{time_since}
use Rattle.queries.proofs.Ways.{is_shaped, is_refused, is_place, is_found, is_missed}
use Rattle.queries.proofs.clients.time_since_last_received_packet.Goals as goal

pub returns-in-Err : goal.returns-in-Err
unfolding time_since
returns-in-Err c =
    let a = c.args in
    is_refused a.server a.slots.now _ (refused_as _ _ c.slots_refusal.ensures _ c.in-Err.is) Refused _ (refused_some _ _ c.slots_refusal.ensures _ c.in-Err.is)

pub find_by_id-requires : goal.find_by_id-requires
find_by_id-requires c =
    let a = c.args in
    let free = sym (passed _ _ c.slots_refusal.ensures _ c.in_default.is) in
    is_shaped a.server a.slots.now _ refl free

pub received_time-requires : goal.received_time-requires
received_time-requires c =
    let a = c.args in
    let free = sym (passed _ _ c.slots_refusal.ensures _ c.in_default.is) in
    is_place a.server a.slots.now _ refl free a.client_id _
    c.find_by_id.ensures _ c.in-Some.is

pub returns-in-Some : goal.returns-in-Some
unfolding time_since
returns-in-Some c =
    let a = c.args in
    let free = sym (passed _ _ c.slots_refusal.ensures _ c.in_default.is) in
    ap Since (c.since.ensures ∙ ap (since a.server.current_time) c.received_time.ensures)
    ∙ is_found a.server a.slots.now _ refl free a.client_id _
    c.find_by_id.ensures Refused _ _ _ c.in-Some.is

pub returns-in-None : goal.returns-in-None
unfolding time_since
returns-in-None c =
    let a = c.args in
    let free = sym (passed _ _ c.slots_refusal.ensures _ c.in_default.is) in
    is_missed a.server a.slots.now _ refl free a.client_id _
    c.find_by_id.ensures Refused _ _ c.in-None.is
