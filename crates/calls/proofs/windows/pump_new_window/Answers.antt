-- The fresh window, stored.
use mathlib.Core.Path.{ap, ◌∙◌}
use Rattle.replay_protection.specs.Stored.{put_window}
use Rattle.replay_protection.specs.Ours.{window_of}
use Rattle.replay_protection.specs.declared.ReplayProtection.{ReplayProtection}
use Rattle.calls.proofs.windows.pump_new_window.Goals as goal

pub returns : goal.returns
returns c = c.store_window.ensures ∙ ap (λ (p : ReplayProtection). put_window c.args.window.now 0 (window_of p)) c.new.ensures
