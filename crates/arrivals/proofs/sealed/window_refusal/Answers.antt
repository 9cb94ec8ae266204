-- By the type, and then by the record's window.
use mathlib.Core.Path.{refl, ap, ◌∙◌}
use Rattle.refusal.specs.Verdicts.{verdict}
use Rattle.refusal.proofs.Laws.{passes}
use Rattle.arrivals.proofs.Ways.{window_asked, window_not_asked}
use Rattle.arrivals.proofs.sealed.window_refusal.Goals as goal

pub returns-then-apply_replay_protection : goal.returns-then-apply_replay_protection
returns-then-apply_replay_protection c =
    let a = c.args in
    c.window_refusal.ensures
    ∙ ap verdict (window_asked a.table.now a.n a.i a.kind a.sequence _ c.apply_replay_protection.ensures c.if-apply_replay_protection.true _ refl)

pub returns : goal.returns
returns c =
    let a = c.args in
    passes _ (window_not_asked a.table.now a.n a.i a.kind a.sequence _ c.apply_replay_protection.ensures c.if-apply_replay_protection.false)
