-- The two words are those of the difference.
use mathlib.Core.Path.{ap}
use mathlib.Core.List.{[], ◌∷◌}
use Rattle.times.specs.declared.Time.{Time}
use Rattle.table_calls.proofs.moments.pump_time_since.Goals as goal

pub returns : goal.returns
returns c = ap (λ (t : Time). t.secs ∷ t.nanos ∷ []) c.since-gone.ensures
