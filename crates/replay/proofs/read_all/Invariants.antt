-- What is lent keeps its length; the turns are counted.
use Rattle.std.proofs.Common.{◌≡◌, ◌-◌, ◌≤◌, length}
use Rattle.replay.proofs.read_all.Given as goal

abbrev pub invariant-loop : goal.invariant-loop
invariant-loop l = (l.counter ≤ 18446744073709551615) × (length l.space ≡ length l.initial.space) × (length l.line ≡ length l.initial.line)

abbrev pub decreases-loop : goal.decreases-loop
decreases-loop l = 18446744073709551615 - l.counter
