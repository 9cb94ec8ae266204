-- After i turns the first i places are put, whatever is said of them, and k is the index after them.
use mathlib.Core.Path.{◌≡◌}
use mathlib.Core.Bool.{Bool}
use Prim.Native.Nat.{ℕ, ◌-◌, ◌≤◌, ◌<◌}
use lib.ListN.{length}
use Rattle.serialize.specs.Runs.{splice}
use Rattle.places.specs.Finds.{used_count}
use Rattle.queries.specs.Queries.{value_of, listed}
use Rattle.queries.proofs.lists.fill_used.Given as goal

abbrev pub invariant-loop-i : goal.invariant-loop-i
invariant-loop-i g l =
    (l.i ≤ l.n)
    × (l.k ≡ used_count l.slots l.i)
    × (length l.list ≡ length l.initial.list)
    × ((ids : Bool) → ((i : ℕ) → i < l.n → (r : ℕ) → goal.F-post g l.value i r → r ≡ value_of l.slots l.n ids i)
    → l.list ≡ splice l.initial.list 0 (listed l.slots l.n ids l.i))

abbrev pub decreases-loop-i : goal.decreases-loop-i
decreases-loop-i g l = l.n - l.i
