-- The entries passed are below their count.
use Rattle.std.proofs.Common.{◌-◌, ◌≤◌}
use Rattle.replay.proofs.words.are_rising.Given as goal

abbrev pub invariant-loop-entry : goal.invariant-loop-entry
invariant-loop-entry l = l.entry ≤ l.n

abbrev pub decreases-loop-entry : goal.decreases-loop-entry
decreases-loop-entry l = l.n - l.entry
