-- How far the sequence is behind is compared with the width.
use native.Mathlib.Omega.{arith}
use Rattle.replay_protection.specs.Ours.{width}
use Rattle.replay_protection.proofs.Ways.{behind_by}
use Rattle.replay_protection.proofs.is_behind.Goals as goal

pub returns : goal.returns
returns c =
    let a = c.args in
    behind_by width a.most a.sequence (omega arith) c.saturating_sub.ensures
