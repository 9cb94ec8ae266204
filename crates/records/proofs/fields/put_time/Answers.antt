-- A store keeps the length, so the second word is inside too.
use native.Mathlib.Omega.{arith}
use lib.ListN.{length-set}
use Rattle.records.proofs.fields.put_time.Goals as goal

pub bounds-t-at-2 : goal.bounds-t-at-2
bounds-t-at-2 c = simp length-set (omega arith)
