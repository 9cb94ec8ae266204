-- After i turns the bytes of the first i words are written.
use mathlib.Core.Path.{◌≡◌}
use Prim.Native.Nat.{◌-◌, ◌≤◌}
use lib.ListN.{length, take}
use Rattle.serialize.specs.Runs.{part, splice}
use Rattle.serialize.specs.Le.{bytes_of}
use Rattle.serialize.proofs.words.unpack_words.Given as goal

abbrev pub invariant-loop-i : goal.invariant-loop-i
invariant-loop-i l = (l.i ≤ l.n) × (l.dst ≡ splice l.initial.dst l.at (bytes_of (take l.i (part l.src l.from l.n)))) × (length l.dst ≡ length l.initial.dst)

abbrev pub decreases-loop-i : goal.decreases-loop-i
decreases-loop-i l = l.n - l.i
