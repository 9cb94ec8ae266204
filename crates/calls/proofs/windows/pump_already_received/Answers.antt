-- The test of the window that was loaded.
use mathlib.Core.Path.{ap, ◌∙◌}
use Rattle.replay_protection.specs.Replay.{refuses}
use Rattle.replay_protection.specs.Ours.{width, window_of}
use Rattle.replay_protection.specs.declared.ReplayProtection.{ReplayProtection}
use Rattle.calls.proofs.windows.pump_already_received.Goals as goal

pub returns : goal.returns
returns c = c.already_received.ensures ∙ ap (λ (p : ReplayProtection). refuses width (window_of p) c.args.sequence) c.load_window.ensures
