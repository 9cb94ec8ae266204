-- After i turns the first i words are written.
use Prim.Native.Nat.{◌-◌}
use lib.ListN.{drop}
use Rattle.serialize.specs.Le.{words}
use Rattle.serialize.proofs.Loops.{Filled}
use Rattle.serialize.proofs.words.pack_words.Given as goal

abbrev pub invariant-loop-i : goal.invariant-loop-i
invariant-loop-i l = Filled l.initial.dst l.at (words l.n (drop l.from l.src)) l.n l.dst l.i

abbrev pub decreases-loop-i : goal.decreases-loop-i
decreases-loop-i l = l.n - l.i
