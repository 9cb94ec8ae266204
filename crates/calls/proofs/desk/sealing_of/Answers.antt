-- Nothing is open exactly where the code is 0.
use borrow.Author.Tests.{eq-eqb, ne_eqb}
use Rattle.serialize.specs.Choice.{pick}
use Rattle.calls.specs.Desk.{sealing_of}
use Rattle.calls.proofs.desk.sealing_of.Goals as goal

pub returns-then-kept-eq0 : goal.returns-then-kept-eq0
unfolding sealing_of pick
returns-then-kept-eq0 c = simp (eq-eqb c.args.kept.code 0 c.if-kept-eq0.true)

pub returns : goal.returns
unfolding sealing_of pick
returns c = simp (ne_eqb c.args.kept.code 0 c.if-kept-eq0.false)
