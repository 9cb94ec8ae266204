-- The window moves exactly where the type is windowed.
use Rattle.opens.proofs.Ways.{window_moved, window_left_lem}
use Rattle.opens.proofs.heard.accept.Goals as goal

pub returns-then-apply_replay_protection : goal.returns-then-apply_replay_protection
returns-then-apply_replay_protection c =
    let a = c.args in
    window_moved a.table.now a.n a.i a.kind a.sequence _ c.apply_replay_protection.ensures c.if-apply_replay_protection.true _
    c.advance_window.ensures

pub returns-else-apply_replay_protection : goal.returns-else-apply_replay_protection
returns-else-apply_replay_protection c =
    let a = c.args in
    window_left_lem a.table.now a.n a.i a.kind a.sequence _ c.apply_replay_protection.ensures c.if-apply_replay_protection.false
