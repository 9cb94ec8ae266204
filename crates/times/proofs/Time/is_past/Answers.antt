-- The call adds the timeout in whole seconds and no nanoseconds.
use mathlib.Core.Path.{◌∙◌}
use Rattle.times.proofs.Order.{passes_past}
use Rattle.times.proofs.Time.is_past.Goals as goal

pub returns : goal.returns
returns c = let a = c.args in c.passes.ensures ∙ passes_past a.self a.secs a.now
