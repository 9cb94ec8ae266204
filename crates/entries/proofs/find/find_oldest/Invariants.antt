-- The best so far is the first with the lowest time of the places passed.
use mathlib.Core.Path.{◌≡◌}
use Prim.Native.Nat.{◌-◌, ◌<◌, ◌≤◌}
use Rattle.entries.specs.Finds.{oldest_below}
use Rattle.entries.proofs.find.find_oldest.Given as goal

abbrev pub invariant-loop-i : goal.invariant-loop-i
invariant-loop-i l = (l.i ≤ l.k) × (l.best ≡ oldest_below l.entries l.k l.i) × (l.best < l.k)

abbrev pub decreases-loop-i : goal.decreases-loop-i
decreases-loop-i l = l.k - l.i
