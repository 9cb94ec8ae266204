-- The token's number.
use Rattle.std.proofs.Common.{ap, ◌∙◌}
use Rattle.replay.specs.Text.{number_of}
use Rattle.replay.proofs.text.number.Goals as goal

pub returns : goal.returns
returns c = c.word_number.ensures ∙ ap number_of c.token.ensures
