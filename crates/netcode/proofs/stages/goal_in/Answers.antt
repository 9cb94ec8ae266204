-- Each arm is a case of the definition.
use Rattle.netcode.specs.Laid.{goal_in}
use Rattle.serialize.specs.Choice.{pick}
use borrow.Author.Tests.{ne_eqb}
use native.Mathlib.Omega.{arith}
use lib.ListN.{get_or}
use Rattle.netcode.proofs.stages.goal_in.Goals as goal

pub returns-in-4 : goal.returns-in-4
unfolding goal_in pick
returns-in-4 c = simp (c.addr_in.ensures, c.in-4.is)

pub returns-in-5 : goal.returns-in-5
unfolding goal_in pick
returns-in-5 c = simp (c.addr_in-in-5.ensures, c.in-5.is)

pub returns-in-6 : goal.returns-in-6
unfolding goal_in pick
returns-in-6 c = simp (c.addr_in-in-6.ensures, c.in-6.is)

pub returns-in-7 : goal.returns-in-7
unfolding goal_in pick
returns-in-7 c = simp c.in-7.is

pub returns-in-8 : goal.returns-in-8
unfolding goal_in pick
returns-in-8 c = simp c.in-8.is

pub returns-in_default : goal.returns-in_default
unfolding goal_in pick
returns-in_default c =
    let v = get_or c.args.words.now 11 0 in
    simp (c.addr_in-in_default.ensures, ne_eqb v 4 (omega arith), ne_eqb v 5 (omega arith), ne_eqb v 6 (omega arith), ne_eqb v 7 (omega arith), ne_eqb v 8 (omega arith))
