-- After i turns the first i marks are new.
use mathlib.Core.Path.{◌≡◌}
use Prim.Native.Nat.{◌-◌, ◌≤◌}
use Rattle.serialize.specs.Runs.{splice}
use Rattle.upkeep.specs.Clocks.{marks_left}
use Rattle.upkeep.proofs.clock.drop_expired.Given as goal

abbrev pub invariant-loop-i : goal.invariant-loop-i
invariant-loop-i l = (l.i ≤ l.m) × (l.pending ≡ splice l.initial.pending 0 (marks_left l.initial.pending l.m l.secs l.i))

abbrev pub decreases-loop-i : goal.decreases-loop-i
decreases-loop-i l = l.m - l.i
