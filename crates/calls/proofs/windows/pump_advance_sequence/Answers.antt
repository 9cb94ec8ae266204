-- The loaded window, advanced and stored.
use mathlib.Core.Path.{ap, ◌∙◌}
use Rattle.replay_protection.specs.Stored.{put_window}
use Rattle.replay_protection.specs.Replay.{arrive}
use Rattle.replay_protection.specs.Ours.{width, window_of, protection}
use Rattle.replay_protection.specs.declared.ReplayProtection.{ReplayProtection}
use Rattle.calls.proofs.windows.pump_advance_sequence.Goals as goal

pub returns : goal.returns
returns c =
    let a = c.args in
    c.store_window.ensures
    ∙ ap (λ (p : ReplayProtection). put_window a.window.now 0 (window_of p)) (c.advance_sequence-advanced.ensures
    ∙ ap (λ (p : ReplayProtection). protection (arrive width (window_of p) a.sequence)) c.load_window.ensures)
