-- A walk up the marks: the count so far is that of the places passed.
use mathlib.Core.Path.{◌≡◌}
use Prim.Native.Nat.{◌≤◌}
use Rattle.places.specs.Finds.{used_count}
use Rattle.places.proofs.find.count_used.Given as goal

abbrev pub invariant-loop-mark : goal.invariant-loop-mark
invariant-loop-mark l = (l.count ≤ l.mark-index) × (l.count ≡ used_count l.t l.mark-index)
