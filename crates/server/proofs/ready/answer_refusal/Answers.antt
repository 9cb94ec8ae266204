-- Each way out is a case of the definition, by the tests that led there.
use Rattle.std.proofs.Common.{rules, ◌≡◌, Err}
use Rattle.serialize.specs.Choice.{pick}
use Rattle.server.specs.Ready.{answer_verdict}
use Rattle.server.proofs.Verdicts.{idle_wants}
use Rattle.server.proofs.ready.answer_refusal.Goals as goal

pub returns-then-is_none : goal.returns-then-is_none
unfolding answer_verdict pick
returns-then-is_none c = simp (idle_wants c.args.ask.stage, ← c.wanted.ensures, c.if-is_none.ensures)

pub returns-in_err-tables : goal.returns-in_err-tables
unfolding answer_verdict pick
returns-in_err-tables c =
    let e : c.from_residual.result ≡ Err c.in_err-tables.field-0.0 = search rules in
    simp (idle_wants c.args.ask.stage, ← c.wanted.ensures, c.if-is_none.ensures, c.in_err-tables.was, e)

pub returns-then-is_unfit : goal.returns-then-is_unfit
unfolding answer_verdict pick
returns-then-is_unfit c =
    simp (idle_wants c.args.ask.stage, ← c.wanted.ensures, c.if-is_none.ensures, c.in_ok-tables.was, ← c.is_unfit.ensures, c.if-is_unfit.true)

pub returns : goal.returns
unfolding answer_verdict pick
returns c =
    simp (idle_wants c.args.ask.stage, ← c.wanted.ensures, c.if-is_none.ensures, c.in_ok-tables.was, ← c.is_unfit.ensures, c.if-is_unfit.false)
