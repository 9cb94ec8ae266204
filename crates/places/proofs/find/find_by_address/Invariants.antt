-- A walk up the places: what is left of it finds what the whole finds.
use mathlib.Core.Path.{◌≡◌}
use Prim.Native.Nat.{◌-◌, ◌≤◌}
use Rattle.serialize.specs.Search.{first_from}
use Rattle.places.specs.Finds.{has_address}
use Rattle.places.proofs.find.find_by_address.Given as goal

abbrev pub invariant-loop-i : goal.invariant-loop-i
invariant-loop-i l = (first_from (has_address l.t l.n l.first l.low l.high) 0 l.n ≡ first_from (has_address l.t l.n l.first l.low l.high) l.i (l.n - l.i)) × (l.i ≤ l.n)

abbrev pub decreases-loop-i : goal.decreases-loop-i
decreases-loop-i l = l.n - l.i
