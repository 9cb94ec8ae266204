-- The bytes above the mask are zero: the walk ends at the topmost byte that is not.
use mathlib.Core.Path.{◌≡◌}
use Prim.Native.Nat.{◌-◌, ◌^◌, ◌≤◌, ◌<◌}
use Rattle.prefix.proofs.Masks.{mask_at}
use Rattle.prefix.proofs.sequence_bytes_required.Given as goal

abbrev pub invariant-loop-i : goal.invariant-loop-i
invariant-loop-i l = (l.i ≤ 8) × (l.mask ≡ mask_at (8 - l.i)) × (l.sequence < 256 ^ (8 - l.i))

abbrev pub decreases-loop-i : goal.decreases-loop-i
decreases-loop-i l = 8 - l.i
