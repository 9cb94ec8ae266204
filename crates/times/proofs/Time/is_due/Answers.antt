-- A sum that one nanosecond less stays below is at most the other side.
use mathlib.Core.Path.{◌∙◌}
use native.Mathlib.Omega.{arith}
use Rattle.times.proofs.Order.{passes_due}
use Rattle.times.proofs.Time.is_due.Goals as goal

pub returns : goal.returns
returns c = let a = c.args in c.passes.ensures ∙ passes_due a.self a.now (omega arith)
