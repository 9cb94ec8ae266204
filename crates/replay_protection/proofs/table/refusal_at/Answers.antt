-- The two words that decide, read where they lie.
use mathlib.Core.Path.{ap, ◌∙◌}
use native.Mathlib.Omega.{arith}
use Rattle.refusal.specs.Verdicts.{verdict}
use Rattle.replay_protection.specs.Ours.{width}
use Rattle.replay_protection.proofs.Stored.{refusal_here}
use Rattle.replay_protection.proofs.table.refusal_at.Goals as goal

pub returns : goal.returns
returns c =
    c.refusal_by.ensures
    ∙ ap verdict (refusal_here width c.args.t.now c.args.at c.requires (omega arith) c.args.sequence c.index.ensures)
