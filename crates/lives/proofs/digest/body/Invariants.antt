-- The number stays below the prime.
use Rattle.std.proofs.Common.{◌<◌}
use Rattle.lives.proofs.digest.body.Given as goal

abbrev pub invariant-loop-b : goal.invariant-loop-b
invariant-loop-b l = l.h < 4294967291
