-- The two fields are the numbers that were read.
use mathlib.Core.Path.{ap₂}
use Rattle.times.specs.Times.{time}
use Rattle.entries.proofs.body.time_at.Goals as goal

pub returns : goal.returns
returns c = ap₂ time c.read_u64.ensures c.read_u32.ensures
