-- After i turns the first i marks are new.
use native.Mathlib.Omega.{arith}
use Rattle.upkeep.proofs.Marks.{drop_start, drop_turn}
use Rattle.upkeep.proofs.clock.drop_expired.Goals as goal

pub loop-i-init : goal.loop-i-init
loop-i-init c = let a = c.args in (omega arith, drop_start a.pending.now a.m a.secs)

pub loop-i-preserved : goal.loop-i-preserved
loop-i-preserved c =
    let l = c.loop-i in
    let a = c.args in (
      omega arith,
      drop_turn a.pending.now a.m a.secs c.requires l.pending l.i l.invariant.0 l.invariant.1 c.loop-i-test.true
          _ c.drop_if_expired.ensures,
    )
