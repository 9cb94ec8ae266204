-- The first of the two tests, or the second.
use mathlib.Core.Path.{◌∙◌}
use Rattle.grants.proofs.Tests.{either_first, either_second}
use Rattle.grants.proofs.tokens.is_ignored.Goals as goal

pub returns-then-is_connected : goal.returns-then-is_connected
returns-then-is_connected c = c.if-is_connected.true ∙ either_first _ _ _ c.is_connected.ensures c.if-is_connected.true

pub returns-else-is_connected : goal.returns-else-is_connected
returns-else-is_connected c = either_second _ _ _ c.is_connected.ensures c.if-is_connected.false _ c.has_no_place.ensures
