-- The one test of the definition.
use mathlib.Core.Path.{◌∙◌}
use Rattle.serialize.specs.Choice.{pick}
use Rattle.refusal.specs.Verdicts.{verdict}
use Rattle.decode.specs.Decodes.{guard_refusal}
use Rattle.asks.proofs.Lent.{told}
use Rattle.decode.proofs.reading.guard_refusal.Goals as goal

pub returns-then-apply_replay_protection : goal.returns-then-apply_replay_protection
unfolding guard_refusal pick
returns-then-apply_replay_protection c = c.window_refusal.ensures ∙ simp (told c.apply_replay_protection.ensures c.if-apply_replay_protection.true)

pub returns : goal.returns
unfolding guard_refusal pick verdict
returns c = simp (told c.apply_replay_protection.ensures c.if-apply_replay_protection.false)
