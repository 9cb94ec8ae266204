-- The elements passed are the value.
use mathlib.Core.Path.{◌≡◌}
use lib.ListN.{take, replicate}
use Rattle.serialize.proofs.runs.fill.Given as goal

abbrev pub invariant-loop-x : goal.invariant-loop-x
invariant-loop-x g l = take l.x-index l.x-items ≡ replicate l.x-index l.value
