-- Two digits to a byte.
use Rattle.std.proofs.Common.{ℕ, ◌/◌, List, length, ap}
use Rattle.replay.proofs.text.size.Goals as goal

pub returns : goal.returns
returns c = ap (λ (w : List ℕ). length w / 2) c.token.ensures
