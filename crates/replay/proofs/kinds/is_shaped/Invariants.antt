-- The kinds passed are below their count.
use Rattle.std.proofs.Common.{◌≡◌, ◌-◌, ◌≤◌, length}
use Rattle.replay.proofs.kinds.is_shaped.Given as goal

abbrev pub invariant-loop-i : goal.invariant-loop-i
invariant-loop-i l = (l.i-end ≡ length l.kinds) × (l.i ≤ l.i-end)

abbrev pub decreases-loop-i : goal.decreases-loop-i
decreases-loop-i l = length l.kinds - l.i
