-- The two ways out of an arrival, kept and moved, where the window lies.
use mathlib.Core.Path.{refl, sym, ap, ◌∙◌}
use Rattle.refusal.proofs.Laws.{is_err_some, is_err_none}
use Rattle.replay_protection.specs.Ours.{width, window_of, protection}
use Rattle.replay_protection.proofs.Ways.{advance_kept, advance_moved}
use Rattle.replay_protection.proofs.ReplayProtection.advance_in_place.Goals as goal

pub returns-then-is_err : goal.returns-then-is_err
returns-then-is_err c =
    let a = c.args in
    ap protection (advance_kept width (window_of a.self.now) a.sequence c.index-at.ensures refl
    (is_err_some _ c.refusal_by.result c.refusal_by.ensures (sym c.is_err.ensures.value ∙ c.if-is_err.true)))

pub returns : goal.returns
returns c =
    let a = c.args in
    ap protection (advance_moved width (window_of a.self.now) a.sequence c.index-at.ensures refl
    (is_err_none _ c.refusal_by.result c.refusal_by.ensures (sym c.is_err.ensures.value ∙ c.if-is_err.false)) c.max-self.ensures)
