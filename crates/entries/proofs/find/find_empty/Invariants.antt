-- No place before i is empty, so the search goes on from there.
use mathlib.Core.Path.{◌≡◌}
use Prim.Native.Nat.{◌-◌, ◌≤◌}
use Rattle.serialize.specs.Search.{first_from}
use Rattle.entries.specs.Finds.{empty_at, find_empty}
use Rattle.entries.proofs.find.find_empty.Given as goal

abbrev pub invariant-loop-i : goal.invariant-loop-i
invariant-loop-i l = (l.i ≤ l.k) × (find_empty l.entries l.k ≡ first_from (empty_at l.entries) l.i (l.k - l.i))

abbrev pub decreases-loop-i : goal.decreases-loop-i
decreases-loop-i l = l.k - l.i
