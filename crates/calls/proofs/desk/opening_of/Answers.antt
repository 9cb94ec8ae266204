-- Nothing is open where the code is 0 or no type has it.
use mathlib.Core.Path.{sym}
use borrow.Author.Tests.{eq-eqb, ne_eqb}
use Rattle.serialize.specs.Choice.{pick}
use Rattle.calls.specs.Desk.{opening_of}
use Rattle.calls.proofs.desk.opening_of.Goals as goal

pub returns-then-kept-eq0 : goal.returns-then-kept-eq0
unfolding opening_of pick
returns-then-kept-eq0 c = simp (eq-eqb c.args.kept.code 0 c.if-kept-eq0.true)

pub returns-in-Ok : goal.returns-in-Ok
unfolding opening_of pick
returns-in-Ok c = let s = c.args in simp (ne_eqb s.kept.code 0 c.if-kept-eq0.false, sym c.kept_type.ensures, c.in-Ok.is)

pub returns-in-Err : goal.returns-in-Err
unfolding opening_of pick
returns-in-Err c = let s = c.args in simp (ne_eqb s.kept.code 0 c.if-kept-eq0.false, sym c.kept_type.ensures, c.in-Err.is)
