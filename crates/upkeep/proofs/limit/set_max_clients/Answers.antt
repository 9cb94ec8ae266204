-- Each way out is a case of the definition; no table is lent, so that nothing is refused but by 16.
use mathlib.Core.Path.{refl, sym}
use Rattle.refusal.proofs.Laws.{passed, refused_as, refused_some, passes}
use Rattle.server.proofs.Verdicts.{call_tested}
use Rattle.upkeep.proofs.Ways.{limit_stops, limit_done}
use Rattle.upkeep.proofs.limit.set_max_clients.Goals as goal

pub returns-in-Err : goal.returns-in-Err
returns-in-Err c =
    let a = c.args in
    let tested = call_tested a.server.ask 0 _ _ (passes 0 refl) c.call_refusal.ensures in
    limit_stops a.server a.max_clients _ (refused_as _ _ tested _ c.in-Err.is) (refused_some _ _ tested _ c.in-Err.is)

pub returns : goal.returns
returns c =
    let a = c.args in
    let tested = call_tested a.server.ask 0 _ _ (passes 0 refl) c.call_refusal.ensures in
    limit_done a.server a.max_clients _ refl (sym (passed _ _ tested _ c.in_default.is)) _ c.min.ensures _ c.with_limit.ensures
