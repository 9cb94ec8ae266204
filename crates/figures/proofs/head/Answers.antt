-- A head has at most nine bytes.
use Prim.Native.Nat.{◌+◌, ◌≤◌}
use mathlib.Core.Path.{sym}
use native.Mathlib.Omega.{arith}
use lib.ListN.{length}
use lib.Seq.{length-take-le}
use Rattle.prefix.proofs.Fewest.{fewest_le}
use borrow.Author.Rules.{rules}
use Rattle.figures.proofs.head.Goals as goal

pub write_sequence-n-requires : goal.write_sequence-n-requires
write_sequence-n-requires c = omega (arith, fewest_le c.args.sequence (search rules))

pub slice_bounds-buffer-end : goal.slice_bounds-buffer-end
slice_bounds-buffer-end c =
    let a = c.args in
    omega (arith, fewest_le a.sequence (search rules), c.write_sequence-n.ensures, c.write_sequence-n.auto)

pub slice_bounds-bytes-end : goal.slice_bounds-bytes-end
slice_bounds-bytes-end c =
    let w = c.write_sequence-n in
    let a = c.args in
    let h : w.result + 1 ≤ length w.new.out = omega (arith, fewest_le a.sequence (search rules), w.ensures, w.auto) in
    sym (length-take-le (w.result + 1) w.new.out h)
