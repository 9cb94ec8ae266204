-- The number stays below the prime.
use Rattle.std.proofs.Common.{◌<◌}
use Rattle.lives.proofs.digest.words.Given as goal

abbrev pub invariant-loop-w : goal.invariant-loop-w
invariant-loop-w l = l.h < 4294967291
