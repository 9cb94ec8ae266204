-- The contrary.
use Rattle.std.proofs.Common.{not, ap}
use Rattle.replay.proofs.text.is_there.Goals as goal

pub returns : goal.returns
returns c = ap not c.is_missing.ensures
