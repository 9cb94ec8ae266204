-- The number of what the window says where it lies.
use mathlib.Core.Path.{ap, ◌∙◌}
use Rattle.refusal.specs.Verdicts.{number}
use Rattle.refusal.proofs.Laws.{number_verdict}
use Rattle.calls.proofs.windows.pump_refusal_at.Goals as goal

pub returns : goal.returns
returns c = c.number.ensures ∙ ap number c.refusal_at.ensures ∙ number_verdict _
