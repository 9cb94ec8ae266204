-- The slots' test, and then what the search found.
use mathlib.Core.Path.{refl, sym, ap, ◌∙◌}
use Rattle.refusal.proofs.Laws.{passed, refused_as, refused_some}
use Rattle.queries.specs.declared.Reply.TheVariants.{Refused, Addr}
use Rattle.queries.specs.Queries.{client_address}
use Rattle.queries.proofs.Ways.{is_shaped, is_refused, is_place, is_found, is_missed}
use Rattle.queries.proofs.clients.client_addr.Goals as goal

pub returns-in-Err : goal.returns-in-Err
unfolding client_address
returns-in-Err c =
    let a = c.args in
    is_refused a.server a.slots.now _ (refused_as _ _ c.slots_refusal.ensures _ c.in-Err.is) Refused _ (refused_some _ _ c.slots_refusal.ensures _ c.in-Err.is)

pub find_by_id-requires : goal.find_by_id-requires
find_by_id-requires c =
    let a = c.args in
    let free = sym (passed _ _ c.slots_refusal.ensures _ c.in_default.is) in
    is_shaped a.server a.slots.now _ refl free

pub address-requires : goal.address-requires
address-requires c =
    let a = c.args in
    let free = sym (passed _ _ c.slots_refusal.ensures _ c.in_default.is) in
    is_place a.server a.slots.now _ refl free a.client_id _
    c.find_by_id.ensures _ c.in-Some.is

pub returns-in-Some : goal.returns-in-Some
unfolding client_address
returns-in-Some c =
    let a = c.args in
    let free = sym (passed _ _ c.slots_refusal.ensures _ c.in_default.is) in
    ap Addr c.address.ensures
    ∙ is_found a.server a.slots.now _ refl free a.client_id _
    c.find_by_id.ensures Refused _ _ _ c.in-Some.is

pub returns-in-None : goal.returns-in-None
unfolding client_address
returns-in-None c =
    let a = c.args in
    let free = sym (passed _ _ c.slots_refusal.ensures _ c.in_default.is) in
    is_missed a.server a.slots.now _ refl free a.client_id _
    c.find_by_id.ensures Refused _ _ c.in-None.is
