-- The test holds at no place before i, so the search goes on from there.
use mathlib.Core.Path.{◌≡◌}
use mathlib.Core.Bool.{Bool}
use Prim.Native.Nat.{ℕ, ◌-◌, ◌≤◌, ◌<◌}
use Rattle.serialize.specs.Search.{first_from}
use Rattle.addresses.proofs.list.find_first.Given as goal

abbrev pub invariant-loop-i : goal.invariant-loop-i
invariant-loop-i g l =
    (l.i ≤ l.n)
    × ((p : ℕ → Bool) → ((i : ℕ) → i < l.n → (r : Bool) → goal.F-post g l.holds i r → r ≡ p i) → first_from p 0 l.n ≡ first_from p l.i (l.n - l.i))

abbrev pub decreases-loop-i : goal.decreases-loop-i
decreases-loop-i g l = l.n - l.i
