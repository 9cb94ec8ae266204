-- Each arm is a case of the definition.
use Rattle.netcode.specs.Laid.{stage_in}
use Rattle.serialize.specs.Choice.{pick}
use borrow.Author.Tests.{ne_eqb}
use native.Mathlib.Omega.{arith}
use lib.ListN.{get_or}
use Rattle.netcode.proofs.stages.stage_in.Goals as goal

pub returns-in-0 : goal.returns-in-0
unfolding stage_in pick
returns-in-0 c = simp c.in-0.is

pub returns-in-1 : goal.returns-in-1
unfolding stage_in pick
returns-in-1 c = simp (c.kind_in.ensures, c.in-1.is)

pub returns-in-2 : goal.returns-in-2
unfolding stage_in pick
returns-in-2 c = simp (c.addr_in.ensures, c.in-2.is)

pub returns-in-3 : goal.returns-in-3
unfolding stage_in pick
returns-in-3 c = simp c.in-3.is

pub returns-in_default : goal.returns-in_default
unfolding stage_in pick
returns-in_default c =
    let v = get_or c.args.words.now 11 0 in
    simp (c.goal_in.ensures, ne_eqb v 0 (omega arith), ne_eqb v 1 (omega arith), ne_eqb v 2 (omega arith), ne_eqb v 3 (omega arith))
