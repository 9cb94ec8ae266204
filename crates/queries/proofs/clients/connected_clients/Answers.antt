-- The slots' test, and then the count.
use mathlib.Core.Path.{refl, sym, ap, ◌∙◌}
use Rattle.refusal.proofs.Laws.{passed, refused_as, refused_some}
use Rattle.queries.specs.declared.Reply.TheVariants.{Refused, Count}
use Rattle.queries.specs.Queries.{connected_clients}
use Rattle.queries.proofs.Ways.{is_shaped, is_refused, is_next}
use Rattle.queries.proofs.clients.connected_clients.Goals as goal

pub returns-in-Err : goal.returns-in-Err
unfolding connected_clients
returns-in-Err c =
    let a = c.args in
    is_refused a.server a.slots.now _ (refused_as _ _ c.slots_refusal.ensures _ c.in-Err.is) Refused _ (refused_some _ _ c.slots_refusal.ensures _ c.in-Err.is)

pub count_used-count-requires : goal.count_used-count-requires
count_used-count-requires c =
    let a = c.args in
    let free = sym (passed _ _ c.slots_refusal.ensures _ c.in_default.is) in
    is_shaped a.server a.slots.now _ refl free

pub returns : goal.returns
unfolding connected_clients
returns c =
    let a = c.args in
    let free = sym (passed _ _ c.slots_refusal.ensures _ c.in_default.is) in
    ap Count c.count_used-count.ensures
    ∙ is_next a.server a.slots.now _ refl Refused _ free
