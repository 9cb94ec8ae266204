-- No place from i on matches, so the last match below k is the last below i.
use mathlib.Core.Path.{◌≡◌}
use Prim.Native.Nat.{◌≤◌}
use Rattle.entries.specs.Layout.{match_at}
use Rattle.entries.specs.Finds.{last_below, find_match}
use Rattle.entries.proofs.find.find_match.Given as goal

abbrev pub invariant-loop-i : goal.invariant-loop-i
invariant-loop-i l = (l.i ≤ l.k) × (find_match l.entries l.k l.mac ≡ last_below (match_at l.entries l.k l.mac) l.i)

abbrev pub decreases-loop-i : goal.decreases-loop-i
decreases-loop-i l = l.i
