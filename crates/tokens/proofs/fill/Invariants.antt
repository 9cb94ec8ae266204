-- The bytes so far stand from index at on.
use Rattle.std.proofs.Common.{◌-◌}
use Rattle.serialize.proofs.Loops.{Filled}
use Rattle.tokens.specs.Text.{unhex}
use Rattle.tokens.proofs.fill.Given as goal

abbrev pub invariant-loop-k : goal.invariant-loop-k
invariant-loop-k l = Filled l.initial.out l.at (unhex l.n l.word) l.n l.out l.k

abbrev pub decreases-loop-k : goal.decreases-loop-k
decreases-loop-k l = l.n - l.k
