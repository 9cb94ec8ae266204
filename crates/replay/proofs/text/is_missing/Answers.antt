-- Whether the token is the sign of that.
use Rattle.std.proofs.Common.{ap, ◌∙◌}
use Rattle.replay.specs.Text.{is_none}
use Rattle.replay.proofs.text.is_missing.Goals as goal

pub returns : goal.returns
returns c = c.is_none.ensures ∙ ap is_none c.token.ensures
