-- A walk up the marks: what is left of it finds what the whole finds.
use mathlib.Core.Path.{◌≡◌}
use Prim.Native.Nat.{◌-◌, ◌≤◌}
use Rattle.serialize.specs.Search.{first_from}
use Rattle.places.specs.Finds.{free_at}
use Rattle.places.proofs.find.find_free.Given as goal

abbrev pub invariant-loop-free : goal.invariant-loop-free
invariant-loop-free l = (first_from (free_at l.t) 0 l.n ≡ first_from (free_at l.t) l.free (l.n - l.free)) × (l.free ≤ l.n)

abbrev pub decreases-loop-free : goal.decreases-loop-free
decreases-loop-free l = l.n - l.free
