-- The slots' test, then the list's, and then the places.
use mathlib.Core.Path.{refl, sym}
use native.Mathlib.Omega.{arith}
use Rattle.refusal.proofs.Laws.{passed, refused_as, refused_some}
use Rattle.queries.proofs.Ways.{is_shaped, list_refused, list_short, list_filled}
use Rattle.queries.proofs.lists.list_used.Goals as goal

pub returns-in-Err : goal.returns-in-Err
returns-in-Err g c = λ ids h.
    let a = c.args in
    list_refused a.server a.slots.now a.list.now ids _ (refused_as _ _ c.slots_refusal.ensures _ c.in-Err.is) (refused_some _ _ c.slots_refusal.ensures _ c.in-Err.is)

pub count_used-count-requires : goal.count_used-count-requires
count_used-count-requires g c =
    let a = c.args in
    let free = sym (passed _ _ c.slots_refusal.ensures _ c.in_default.is) in
    is_shaped a.server a.slots.now _ refl free

pub returns-then-list-count : goal.returns-then-list-count
returns-then-list-count g c = λ ids h.
    let a = c.args in
    let free = sym (passed _ _ c.slots_refusal.ensures _ c.in_default.is) in
    list_short a.server a.slots.now a.list.now ids _ refl free _ c.count_used-count.ensures c.if-list-count.true

pub fill_used-requires-clause-table : goal.fill_used-requires-clause-table
fill_used-requires-clause-table g c =
    let a = c.args in
    let free = sym (passed _ _ c.slots_refusal.ensures _ c.in_default.is) in
    (is_shaped a.server a.slots.now _ refl free, omega (arith, c.count_used-count.ensures, c.if-list-count.false))

pub fill_used-requires-clause-called : goal.fill_used-requires-clause-called
fill_used-requires-clause-called g c = c.requires (sym (passed _ _ c.slots_refusal.ensures _ c.in_default.is))

pub returns : goal.returns
returns g c = λ ids h.
    let a = c.args in
    let free = sym (passed _ _ c.slots_refusal.ensures _ c.in_default.is) in
    list_filled a.server a.slots.now a.list.now ids _ refl free _ c.count_used-count.ensures c.if-list-count.false _ (c.fill_used.ensures ids h)
