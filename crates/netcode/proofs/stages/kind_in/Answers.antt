-- Each arm is a case of the definition.
use Rattle.netcode.specs.Laid.{kind_in}
use Rattle.serialize.specs.Choice.{pick}
use borrow.Author.Tests.{ne_eqb}
use native.Mathlib.Omega.{arith}
use Rattle.netcode.proofs.stages.kind_in.Goals as goal

pub returns-in-0 : goal.returns-in-0
unfolding kind_in pick
returns-in-0 c = simp c.in-0.is

pub returns-in-1 : goal.returns-in-1
unfolding kind_in pick
returns-in-1 c = simp c.in-1.is

pub returns-in-2 : goal.returns-in-2
unfolding kind_in pick
returns-in-2 c = simp c.in-2.is

pub returns-in-3 : goal.returns-in-3
unfolding kind_in pick
returns-in-3 c = simp c.in-3.is

pub returns-in-4 : goal.returns-in-4
unfolding kind_in pick
returns-in-4 c = simp c.in-4.is

pub returns-in-5 : goal.returns-in-5
unfolding kind_in pick
returns-in-5 c = simp c.in-5.is

pub returns-in_default : goal.returns-in_default
unfolding kind_in pick
returns-in_default c = let v = c.args.word in simp (ne_eqb v 0 (omega arith), ne_eqb v 1 (omega arith), ne_eqb v 2 (omega arith), ne_eqb v 3 (omega arith), ne_eqb v 4 (omega arith), ne_eqb v 5 (omega arith))
