-- After i turns the first i elements of the part are written.
use mathlib.Core.Path.{◌≡◌}
use Prim.Native.Nat.{◌≤◌}
use Rattle.serialize.specs.Runs.{part, splice}
use Rattle.serialize.proofs.runs.copy.Given as goal

abbrev pub invariant-loop-i : goal.invariant-loop-i
invariant-loop-i g l = (l.i ≤ l.n) × (l.dst ≡ splice l.initial.dst l.at (part l.src l.from l.i))
