-- Each way out is a case of the definition, by the tests and the sum that led there.
use mathlib.Core.Path.{refl, sym}
use Rattle.refusal.proofs.Laws.{passed, refused_as, refused_some}
use Rattle.server.proofs.Inversions.{call_free, pending_shaped}
use Rattle.server.proofs.Verdicts.{call_tested}
use Rattle.upkeep.proofs.Ways.{update_stops, update_late, update_done}
use Rattle.upkeep.proofs.clock.update.Goals as goal

pub returns-in-Err : goal.returns-in-Err
returns-in-Err c =
    let a = c.args in
    let tested = call_tested a.server.ask _ _ _ c.pending_refusal-tables.ensures c.call_refusal.ensures in
    update_stops a.server a.pending.now a.duration _ refl _ (refused_as _ _ tested _ c.in-Err.is) (refused_some _ _ tested _ c.in-Err.is)

pub drop_expired-requires : goal.drop_expired-requires
drop_expired-requires c =
    let a = c.args in
    let tested = call_tested a.server.ask _ _ _ c.pending_refusal-tables.ensures c.call_refusal.ensures in
    pending_shaped a.server.set a.pending.now (call_free a.server.ask _ (sym (passed _ _ tested _ c.in_default.is))).1

pub returns-in-Ok : goal.returns-in-Ok
returns-in-Ok c =
    let a = c.args in
    let tested = call_tested a.server.ask _ _ _ c.pending_refusal-tables.ensures c.call_refusal.ensures in
    update_done a.server a.pending.now a.duration _ refl _ refl (sym (passed _ _ tested _ c.in_default.is))
    _ c.add.ensures _ c.in-Ok.is _ c.drop_expired.ensures _ c.with_clock.ensures

pub returns-in-Err-add : goal.returns-in-Err-add
returns-in-Err-add c =
    let a = c.args in
    let tested = call_tested a.server.ask _ _ _ c.pending_refusal-tables.ensures c.call_refusal.ensures in
    update_late a.server a.pending.now a.duration _ refl _ refl (sym (passed _ _ tested _ c.in_default.is)) _ c.add.ensures _ c.in-Err-add.is
