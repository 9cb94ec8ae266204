-- The number of what the loaded window says.
use mathlib.Core.Path.{ap, ◌∙◌}
use Rattle.refusal.specs.Verdicts.{number}
use Rattle.refusal.proofs.Laws.{number_verdict}
use Rattle.replay_protection.specs.Replay.{refusal}
use Rattle.replay_protection.specs.Ours.{width, window_of}
use Rattle.replay_protection.specs.declared.ReplayProtection.{ReplayProtection}
use Rattle.calls.proofs.windows.pump_refusal.Goals as goal

pub returns : goal.returns
returns c =
    c.number.ensures
    ∙ ap number c.refusal.ensures
    ∙ number_verdict _
    ∙ ap (λ (p : ReplayProtection). refusal width (window_of p) c.args.sequence) c.load_window.ensures
