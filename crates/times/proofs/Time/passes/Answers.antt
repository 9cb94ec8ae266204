-- The seconds decide where they differ and the nanoseconds below a second where they do not.
use native.Mathlib.Omega.{arith}
use Rattle.times.proofs.Order.{decided_by_seconds, decided_by_rest}
use Rattle.times.proofs.Time.passes.Goals as goal

pub returns-then-late-early : goal.returns-then-late-early
returns-then-late-early c =
    decided_by_seconds c.args.self c.args.now c.args.secs c.args.nanos c.saturating_sub.result c.saturating_sub-2.result
    c.min.result c.min-2.result c.requires (omega arith) (omega arith) (omega arith)
    c.saturating_sub.ensures c.min.ensures c.saturating_sub-2.ensures c.min-2.ensures (omega arith) c.if-late-early.true

pub returns : goal.returns
returns c =
    decided_by_rest c.args.self c.args.now c.args.secs c.args.nanos c.saturating_sub.result c.saturating_sub-2.result
    c.min.result c.min-2.result c.requires (omega arith) (omega arith) (omega arith)
    c.saturating_sub.ensures c.min.ensures c.saturating_sub-2.ensures c.min-2.ensures (omega arith) c.if-late-early.false
