-- Each way out is a case of the definition, by the test that led there.
use Rattle.serialize.specs.Choice.{pick}
use Rattle.server.specs.Ready.{call_verdict}
use Rattle.server.proofs.Verdicts.{idle_wants}
use Rattle.server.proofs.ready.call_refusal.Goals as goal

pub returns-then-is_some : goal.returns-then-is_some
unfolding call_verdict pick
returns-then-is_some c = simp (idle_wants c.args.ask.stage, ← c.wanted.ensures, ← c.is_some.ensures, c.if-is_some.true)

pub returns : goal.returns
unfolding call_verdict pick
returns c = simp (idle_wants c.args.ask.stage, ← c.wanted.ensures, ← c.is_some.ensures, c.if-is_some.false)
