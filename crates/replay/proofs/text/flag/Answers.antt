-- Whether the number is 1.
use Rattle.std.proofs.Common.{ℕ, eqb, ap}
use Rattle.replay.proofs.text.flag.Goals as goal

pub returns : goal.returns
returns c = ap (λ (n : ℕ). eqb n 1) c.number.ensures
