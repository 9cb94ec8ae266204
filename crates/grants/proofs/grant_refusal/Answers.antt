-- What the shared test refuses, and then what the fields say.
use Rattle.std.specs.Prelude.{Err}
use mathlib.Core.Path.{◌≡◌, refl, ap, ◌∙◌}
use Rattle.refusal.specs.Verdicts.{verdict}
use Rattle.refusal.proofs.Laws.{passed, refused_as, refused_some, refuses_as}
use Rattle.turns.specs.Outcomes.{state}
use Rattle.grants.proofs.Tests.{tables_tested, shared_refuses, fields_decide}
use borrow.Author.Rules.{rules}
use Rattle.grants.proofs.grant_refusal.Goals as goal

pub returns-in_err-open_refusal : goal.returns-in_err-open_refusal
returns-in_err-open_refusal c =
    let a = c.args in
    let e : c.from_residual.result ≡ Err c.in_err-open_refusal.field-0.0 = search rules in
    let tested = tables_tested (state a.server a.slots.now a.pending.now) a.entries a.public a.datagram a.out _ c.all_tables_refusal-tables.ensures _ c.open_refusal.ensures in
    let some = refused_some _ _ tested _ c.in_err-open_refusal.was in
    e
    ∙ refuses_as _ _ some
    (shared_refuses (state a.server a.slots.now a.pending.now) a.entries a.public a.datagram a.out a.given a.list.now
    _ refl _ (refused_as _ _ tested _ c.in_err-open_refusal.was) some)

pub returns : goal.returns
returns c =
    let a = c.args in
    let tested = tables_tested (state a.server a.slots.now a.pending.now) a.entries a.public a.datagram a.out _ c.all_tables_refusal-tables.ensures _ c.open_refusal.ensures in
    c.fields_refusal.ensures
    ∙ ap verdict
    (fields_decide (state a.server a.slots.now a.pending.now) a.entries a.public a.datagram a.out a.given a.list.now
    _ refl _ (passed _ _ tested _ c.in_ok-open_refusal.was) refl _ refl)
