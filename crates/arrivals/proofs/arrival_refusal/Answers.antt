-- The call's test decides, and then what is lent.
use mathlib.Core.Path.{refl, sym, ap, ◌∙◌}
use Rattle.refusal.specs.Verdicts.{verdict}
use Rattle.refusal.proofs.Laws.{passed}
use Rattle.server.proofs.Verdicts.{call_tested}
use Rattle.arrivals.proofs.Ways.{passed_up, passed_on, call_refuses, lent_decides}
use Rattle.arrivals.proofs.arrival_refusal.Goals as goal

pub returns-in_err-call_refusal : goal.returns-in_err-call_refusal
returns-in_err-call_refusal c =
    let a = c.args in
    let tested = call_tested a.server.ask _ _ _ c.both_tables_refusal-tables.ensures c.call_refusal.ensures in
    passed_up _ _ c.from_residual.ensures.1
    ∙ passed_on _ _ tested _ c.in_err-call_refusal.was _ (call_refuses a.server a.slots.now a.pending.now a.addr a.out _ refl _ refl)

pub returns : goal.returns
returns c =
    let a = c.args in
    let tested = call_tested a.server.ask _ _ _ c.both_tables_refusal-tables.ensures c.call_refusal.ensures in
    c.lent_refusal.ensures
    ∙ ap verdict
    (lent_decides a.server a.slots.now a.pending.now a.addr a.out _ refl _ refl (sym (passed _ _ tested _ c.in_ok-call_refusal.was)) _ refl)
